use Rattle.std.proofs.Common.{◌≡◌, ℕ, ◌+◌, ◌<◌, false, fold}
use Rattle.spmd_model.specs.Quiet.{turned}
use Rattle.spmd_model.proofs.MachineOrder.{sound_by}
use Rattle.spmd_machine.specs.Machines.{IsReached, model_of, plan_in, shared_in, shown, style_in, tree_in}
use Rattle.spmd_model.specs.Fair.{can_step}
use Rattle.spmd_machine.specs.Promises.{one_round}
use Rattle.spmd_machine.proofs.Ready.{along, along_shared, same_then}
use Rattle.spmd_model.proofs.Fair.{ended_still}
use Rattle.spmd_machine.proofs.Rounds.{rounds_more}
use Rattle.spmd_machine.proofs.Sequential.{has_come}
use Rattle.spmd_machine.proofs.parts.Parts.round_robin.Goals as goal

pub loop-preserved : goal.loop-preserved
loop-preserved c =
    let first = c.args.self.now in
    let m = c.loop.self in
    let inv = c.loop.invariant in
    let run = along_shared (λ w shared. shown c.round.new.self ≡ fold (turned w shared) (shown m) (one_round w)) first m inv.same c.round.ensures.run in
    record {
      ready = c.round.ensures.ready;
      same = same_then first m c.round.new.self inv.same c.round.ensures.same;
      run = (inv.run.0 + 1, rounds_more (model_of first) (shared_in first) (shown first) (shown m) (shown c.round.new.self) inv.run.0 inv.run.1 run);
    }

pub returns-clause-rounds : goal.returns-clause-rounds
returns-clause-rounds c =
    let first = c.args.self.now in
    let m = c.loop.self in
    let inv = c.loop.invariant in
    let run = along_shared (λ w shared. shown c.round.new.self ≡ fold (turned w shared) (shown m) (one_round w)) first m inv.same c.round.ensures.run in
    (inv.run.0 + 1, rounds_more (model_of first) (shared_in first) (shown first) (shown m) (shown c.round.new.self) inv.run.0 inv.run.1 run)

pub returns-clause-ended : goal.returns-clause-ended
returns-clause-ended c =
    let first = c.args.self.now in
    let m = c.loop.self in
    let n = c.round.new.self in
    let inv = c.loop.invariant in
    let ready = c.requires.ready in
    let same = same_then first m n inv.same c.round.ensures.same in
    let reached = along (λ w. IsReached w (shown n)) first n same c.round.ensures.ready.reached in
    ended_still (model_of first) (shown n) (sound_by (style_in first) (tree_in first) (plan_in first) ready.formed ready.fits) (has_come (style_in first) (tree_in first) (plan_in first) ready.formed ready.fits (shown n) reached)
    (along (λ w. (p : ℕ) → p < w.workers → can_step w (shown n) p ≡ false) first m inv.same (c.round.ensures.still c.loop-test.false))

pub returns-clause-same : goal.returns-clause-same
returns-clause-same c = same_then c.args.self.now c.loop.self c.round.new.self c.loop.invariant.same c.round.ensures.same
