use Rattle.std.proofs.Common.{◌≡◌, drop, map}
use Rattle.nest_tree.specs.Values.{wrapped}
use Rattle.nest_tree.specs.declared.tree.Parameter.{Parameter}
use Rattle.nest_walk.specs.Places.{place_among}
use Rattle.nest_walk.specs.RoundsOf.{rounds_of}
use Rattle.nest_walk.proofs.cells.place_on.Given as goal

abbrev pub invariant-loop-dimension : goal.invariant-loop-dimension
invariant-loop-dimension l =
    l.place ≡ wrapped (place_among (drop l.dimension l.bounds) (drop l.dimension l.subscripts) (rounds_of l.path) (map (λ (p : Parameter). p.value) l.params))
