use Rattle.std.proofs.Common.{List, length, ap, arith}
use Rattle.nest_tree.specs.View.{tree_of}
use Rattle.nest_tree.proofs.FirstLimits.{kept}
use Rattle.nest_model.proofs.Stops.{stops-few}
use Rattle.nest_model.specs.Visits.{Visit}
use Rattle.nest_walk.specs.Walks.{enters_but}
use Rattle.owner_partition.proofs.phases.PhaseCursor.new.Goals as goal

pub invariant_of-result-clause-counted : goal.invariant_of-result-clause-counted
invariant_of-result-clause-counted c =
    let tree = tree_of c.args.program.now in
    let few = stops-few tree (enters_but c.closed.result.now) c.args.program.now.formed in
    let most = (kept tree c.args.program.now.limits).most_worked in
    let all = ap (λ (vs : List Visit). length vs) c.new.ensures.visits in
    omega (arith, all, few, most)
