use Rattle.std.proofs.Common.{suc, ◌++◌, map, false, length, ap, ◌∙◌, arith}
use Rattle.sync_plan.proofs.ProcessorSets.{members-zero}
use Rattle.nest_tree.specs.View.{tree_of}
use Rattle.nest_walk.specs.InstancesLeft.{instances_left}
use Rattle.owner_partition.specs.PhasesLeft.{phases_left, phases_passed}
use Rattle.turns.specs.CounterTurns.{works, boundary_turns, counter_turns}
use Rattle.turns.proofs.counters.CounterTurns.new.Goals as goal

pub returns-clause-few : goal.returns-clause-few
returns-clause-few c =
    let all = ap length c.new.ensures.phases in
    omega (arith, all, c.new.result.counted)

pub returns-clause-turns : goal.returns-clause-turns
returns-clause-turns c =
    let tree = tree_of c.args.program.now in
    let plan = c.args.plan.now in
    let p = c.args.processor in
    let later = counter_turns tree plan p in
    ap (λ ms. boundary_turns 0 false ms ++ (map works (instances_left c.none.result) ++ later (suc (phases_passed c.new.result)) (phases_left c.new.result))) members-zero
    ∙ ap (λ is. map works is ++ later (suc (phases_passed c.new.result)) (phases_left c.new.result)) c.none.ensures.instances
    ∙ ap (λ n. later (suc n) (phases_left c.new.result)) c.new.ensures.passed
    ∙ ap (later 1) c.new.ensures.phases
