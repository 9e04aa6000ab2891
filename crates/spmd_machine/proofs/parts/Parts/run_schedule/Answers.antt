use Rattle.std.proofs.Common.{◌≡◌, fold, get_or, refl, ◌∙◌, ap, arith}
use Rattle.std.proofs.lemmas.List.{take_all}
use Rattle.sync_plan.specs.declared.plan.Plan.{Plan}
use Rattle.spmd_model.specs.Quiet.{turned}
use Rattle.spmd_machine.specs.Machines.{model_of, shared_in, shown}
use Rattle.spmd_machine.proofs.Ready.{along_shared, same_then}
use Rattle.spmd_machine.proofs.Rounds.{schedule_more}
use Rattle.spmd_machine.proofs.parts.Parts.run_schedule.Goals as goal

pub loop-p-init : goal.loop-p-init
loop-p-init c = record { ready = c.requires.ready; same = record { program = refl; plan = refl; style = refl; count = refl }; run = refl }

pub step-requires-clause-worker : goal.step-requires-clause-worker
step-requires-clause-worker c =
    let first = c.args.self.now in
    let inv = c.loop-p.invariant in
    omega (arith, c.requires.workers c.loop-p.p-index 0 c.loop-p-test.true, ap (λ (q : Plan). q.workers) inv.same.plan)

pub loop-p-preserved : goal.loop-p-preserved
loop-p-preserved c =
    let first = c.args.self.now in
    let m = c.loop-p.self in
    let inv = c.loop-p.invariant in
    let p = get_or c.args.schedule.now c.loop-p.p-index 0 in
    let after = along_shared (λ w shared. shown c.step.new.self ≡ turned w shared (shown m) p) first m inv.same c.step.ensures.step in
    record {
      ready = c.step.ensures.ready;
      same = same_then first m c.step.new.self inv.same c.step.ensures.same;
      run = after ∙ schedule_more (turned (model_of first) (shared_in first)) (shown first) (shown m) c.args.schedule.now c.loop-p.p-index c.loop-p-test.true inv.run;
    }

pub returns-clause-run : goal.returns-clause-run
returns-clause-run c =
    let first = c.args.self.now in
    c.loop-p.invariant.run ∙ ap (fold (turned (model_of first) (shared_in first)) (shown first)) (take_all c.loop-p.p-index c.args.schedule.now c.loop-p-test.false)
