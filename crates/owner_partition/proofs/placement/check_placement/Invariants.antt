use Rattle.std.proofs.Common.{◌≡◌, drop, IsTrue}
use Rattle.std.specs.List.{list_all}
use Rattle.nest_tree.specs.View.{tree_of}
use Rattle.owner_partition.specs.Placement.{is_anchor_given, unplaced}
use Rattle.owner_partition.proofs.placement.check_placement.Given as goal

abbrev pub invariant-loop-phase : goal.invariant-loop-phase
invariant-loop-phase l =
    let tree = tree_of l.program in
    record {
      given : IsTrue (list_all (is_anchor_given tree) (drop l.phase-index l.anchors));
      first : unplaced tree l.cut.marks l.workers (drop l.phase-index l.anchors) ≡ unplaced tree l.cut.marks l.workers l.anchors;
    }
