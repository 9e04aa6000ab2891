use Rattle.std.proofs.Common.{◌≡◌, IsTrue, drop, map}
use Rattle.std.specs.List.{flat_map}
use Rattle.nest_tree.specs.Loads.{loads_in_item}
use Rattle.nest_tree.specs.View.{printed_of, tree_of}
use Rattle.nest_walk.specs.Cursors.{loops_in}
use Rattle.nest_walk.specs.Places.{numbers_of}
use Rattle.nest_walk.specs.RoundsOf.{rounds_of}
use Rattle.range_check.specs.Outside.{accesses_outside, are_sound_accesses}
use Rattle.range_check.proofs.check.check_items.Given as goal

abbrev pub invariant-loop-item : goal.invariant-loop-item
invariant-loop-item l =
    let tree = tree_of l.program in
    let loops = loops_in tree (rounds_of l.path) in
    let left = flat_map loads_in_item (map printed_of (drop l.item-index l.items)) in
    record {
      sound : IsTrue (are_sound_accesses tree (numbers_of (rounds_of l.path)) loops left);
      first : accesses_outside tree loops l.line left ≡ accesses_outside tree loops l.line (flat_map loads_in_item (map printed_of l.items));
    }
