use Rattle.std.proofs.Common.{◌≡◌, ◌+◌, drop}
use Rattle.nest_tree.specs.View.{statements_from}
use Rattle.nest_model.specs.Visits.{stops_of}
use Rattle.nest_walk.specs.Walks.{enters_but}
use Rattle.nest_walk.proofs.count.+stops.Given as goal

abbrev pub invariant-stop_count-loop-item : goal.invariant-stop_count-loop-item
invariant-stop_count-loop-item l =
    l.count + stops_of (enters_but l.marks) (statements_from (drop l.item-index l.items)) ≡ stops_of (enters_but l.marks) (statements_from l.items)
