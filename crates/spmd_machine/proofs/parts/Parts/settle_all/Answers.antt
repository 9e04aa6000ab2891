use Rattle.std.proofs.Common.{◌≡◌, refl, ◌∙◌, arith}
use Rattle.spmd_model.specs.Quiet.{past_quiet}
use Rattle.spmd_machine.specs.Machines.{model_of, shared_in, shown}
use Rattle.spmd_machine.proofs.Ready.{along_shared, same_then}
use Rattle.spmd_machine.proofs.Rounds.{fold_more}
use Rattle.spmd_machine.proofs.parts.Parts.settle_all.Goals as goal

pub loop-p-init : goal.loop-p-init
loop-p-init c = record { ready = c.requires.ready; same = record { program = refl; plan = refl; style = refl; count = refl }; state = refl }

pub settle-requires-clause-worker : goal.settle-requires-clause-worker
settle-requires-clause-worker c = omega (arith, c.loop-p.invariant.same.count, c.requires.ready.count)

pub loop-p-preserved : goal.loop-p-preserved
loop-p-preserved c =
    let first = c.args.self.now in
    let m = c.loop-p.self in
    let inv = c.loop-p.invariant in
    let after = along_shared (λ d shared. shown c.settle.new.self ≡ past_quiet d shared (shown m) c.loop-p.p) first m inv.same c.settle.ensures.state in
    record {
      ready = c.settle.ensures.ready;
      same = same_then first m c.settle.new.self inv.same c.settle.ensures.same;
      state = after ∙ fold_more (past_quiet (model_of first) (shared_in first)) (shown first) (shown m) c.loop-p.p inv.state;
    }
