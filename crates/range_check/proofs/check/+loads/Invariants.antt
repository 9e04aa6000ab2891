use Rattle.std.proofs.Common.{◌≡◌, IsTrue, drop}
use Rattle.nest_tree.specs.Loads.{loads_among}
use Rattle.nest_tree.specs.View.{expressions_from, tree_of}
use Rattle.nest_walk.specs.Cursors.{loops_in}
use Rattle.nest_walk.specs.Places.{numbers_of}
use Rattle.nest_walk.specs.RoundsOf.{rounds_of}
use Rattle.range_check.specs.Outside.{accesses_outside, are_sound_accesses}
use Rattle.range_check.proofs.check.+loads.Given as goal

abbrev pub invariant-check_all_loads-loop-argument : goal.invariant-check_all_loads-loop-argument
invariant-check_all_loads-loop-argument l =
    let tree = tree_of l.program in
    let loops = loops_in tree (rounds_of l.path) in
    let left = loads_among (expressions_from (drop l.argument-index l.arguments)) in
    record {
      sound : IsTrue (are_sound_accesses tree (numbers_of (rounds_of l.path)) loops left);
      first : accesses_outside tree loops l.line left ≡ accesses_outside tree loops l.line (loads_among (expressions_from l.arguments));
    }
