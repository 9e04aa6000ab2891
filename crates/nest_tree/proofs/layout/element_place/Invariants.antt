use Rattle.std.proofs.Common.{drop}
use Rattle.nest_tree.specs.Layout.{element_count, element_place}
use Rattle.nest_tree.proofs.Places.{Placing}
use Rattle.nest_tree.proofs.layout.element_place.Given as goal

abbrev pub invariant-loop-dimension : goal.invariant-loop-dimension
invariant-loop-dimension l =
    Placing l.place l.stride (drop l.dimension l.bounds) (drop l.dimension l.subscripts) (element_place l.bounds l.subscripts) (element_count l.bounds)
