use Rattle.std.proofs.Common.{◌≡◌, ◌+◌, ◌<◌, refl, sym, ◌∙◌, arith}
use Rattle.spmd_model.specs.Quiet.{turned}
use Rattle.spmd_model.specs.Reached.{HasCome}
use Rattle.spmd_machine.specs.Machines.{model_of, plan_in, shared_in, shown, step_answer, style_in, tree_in}
use Rattle.spmd_machine.proofs.Ready.{along, along_shared, same_then}
use Rattle.spmd_machine.proofs.Rounds.{round_more, round_none, round_still, round_as, answered_stepped, answered_other}
use Rattle.spmd_machine.proofs.Sequential.{has_come}
use Rattle.spmd_machine.proofs.parts.Parts.round.Goals as goal
use Rattle.spmd_machine.proofs.parts.Parts.round.Goals.{in-Stepped, in_default}

pub loop-p-preserved : goal.loop-p-preserved
loop-p-preserved c =
    let first = c.args.self.now in
    let m = c.loop-p.self in
    let n = c.loop-p.p in
    let inv = c.loop-p.invariant in
    let lt : n < (plan_in first).workers = omega arith in
    let come = along (λ w. HasCome w (shown m)) first m inv.same (has_come (style_in m) (tree_in m) (plan_in m) inv.ready.formed inv.ready.fits (shown m) inv.ready.reached) in
    let after = along_shared (λ w shared. shown c.step.new.self ≡ turned w shared (shown m) n) first m inv.same c.step.ensures.step in
    let answer = along (λ w. c.step.result ≡ step_answer w (shown m) n) first m inv.same c.step.ensures.answer in
    record {
      ready = c.step.ensures.ready;
      same = same_then first m c.step.new.self inv.same c.step.ensures.same;
      round = elim c.match-step.branch [
        | in-Stepped w ↦
            let can = answered_stepped (model_of first) (shown m) n (sym w.in-Stepped.is ∙ answer) in
            round_as (model_of first) (shared_in first) (shown first) _ _ (n + 1) _ _ (sym after) (sym w.has_stepped-is) (round_more (model_of first) (shared_in first) (shown first) (shown m) n c.loop-p.has_stepped inv.round lt come can)
        | in_default w ↦
            let can = answered_other (model_of first) (shown m) n c.step.result answer w.in_default.not-Stepped in
            round_as (model_of first) (shared_in first) (shown first) _ _ (n + 1) _ _ (sym after) (sym w.has_stepped-is) (round_still (model_of first) (shared_in first) (shown first) (shown m) n c.loop-p.has_stepped inv.round lt come can)
      ];
    }

pub loop-p-init : goal.loop-p-init
loop-p-init c = record { ready = c.requires.ready; same = record { program = refl; plan = refl; style = refl; count = refl }; round = round_none (model_of c.args.self.now) (shared_in c.args.self.now) (shown c.args.self.now) }
