use Rattle.std.proofs.Common.{◌≡◌, ◌+◌, drop}
use Rattle.nest_tree.specs.Layout.{bounds_of}
use Rattle.nest_tree.specs.View.{tree_of}
use Rattle.nest_model.specs.Accesses.{subscript_values}
use Rattle.nest_walk.specs.Cursors.{loops_in}
use Rattle.nest_walk.specs.RoundsOf.{rounds_of}
use Rattle.range_check.specs.Outside.{access_outside, first_outside}
use Rattle.range_check.proofs.check.check_access.Given as goal

abbrev pub invariant-loop-dimension : goal.invariant-loop-dimension
invariant-loop-dimension l =
    let tree = tree_of l.program in
    let loops = loops_in tree (rounds_of l.path) in
    first_outside l.line (l.dimension + 1) (drop l.dimension (bounds_of tree l.access.variable)) (drop l.dimension (subscript_values tree loops l.access.subscripts)) ≡ access_outside tree loops l.line l.access
