use Rattle.std.proofs.Common.{◌≡◌, ◌+◌, drop}
use Rattle.nest_tree.specs.View.{tree_of}
use Rattle.sync_plan.specs.Fit.{misplaced_print}
use Rattle.sync_plan.specs.Shape.{static_phases}
use Rattle.plan_checker.proofs.places.misplaced_print.Given as goal

abbrev pub invariant-loop-place : goal.invariant-loop-place
invariant-loop-place l =
    let text = static_phases (tree_of l.program) l.cut.marks in
    misplaced_print (l.place + 1) l.cut.marks (drop l.place text) (drop l.place l.anchors) ≡ misplaced_print 1 l.cut.marks text l.anchors
