use Rattle.std.proofs.Common.{◌≡◌, ◌+◌, drop, length, IsTrue}
use Rattle.nest_tree.specs.View.{tree_of}
use Rattle.nest_tree.specs.WellFormed.{loops_of}
use Rattle.owner_partition.specs.Placement.{unplaced}
use Rattle.sync_plan.specs.Fit.{numbered_anchors}
use Rattle.plan_checker.specs.Named.{are_given_anchors}
use Rattle.plan_checker.proofs.places.check_phases.Given as goal

abbrev pub invariant-loop-place : goal.invariant-loop-place
invariant-loop-place l =
    let tree = tree_of l.program in
    record {
      given : IsTrue (are_given_anchors (loops_of tree.items) (length tree.params) (drop l.place l.anchors));
      first : unplaced tree l.cut.marks l.workers (numbered_anchors (l.place + 1) (drop l.place l.anchors)) ≡ unplaced tree l.cut.marks l.workers (numbered_anchors 1 l.anchors);
    }
