use Rattle.std.proofs.Common.{◌≡◌, ◌+◌, drop}
use Rattle.nest_tree.specs.View.{statements_from}
use Rattle.nest_model.specs.Visits.{stops_of}
use Rattle.nest_walk.specs.Walks.{enters_but}
use Rattle.owner_partition.proofs.cut.+phases.Given as goal

abbrev pub invariant-phase_count-loop-item : goal.invariant-phase_count-loop-item
invariant-phase_count-loop-item l =
    l.count + stops_of (enters_but l.closed) (statements_from (drop l.item-index l.items)) ≡ stops_of (enters_but l.closed) (statements_from l.items)
