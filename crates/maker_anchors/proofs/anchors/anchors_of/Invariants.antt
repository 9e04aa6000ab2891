use Rattle.std.proofs.Common.{◌≡◌, ◌+◌, ◌++◌, drop}
use Rattle.nest_tree.specs.View.{tree_of}
use Rattle.sync_plan.specs.Shape.{static_phases}
use Rattle.maker_anchors.specs.Anchors.{anchors_from, maker_anchors}
use Rattle.maker_anchors.proofs.anchors.anchors_of.Given as goal

abbrev pub invariant-loop-place : goal.invariant-loop-place
invariant-loop-place l =
    let tree = tree_of l.program in
    l.anchors.items ++ anchors_from tree l.cut.marks l.workers (l.place + 1) (drop l.place (static_phases tree l.cut.marks)) ≡ maker_anchors tree l.cut.marks l.workers
