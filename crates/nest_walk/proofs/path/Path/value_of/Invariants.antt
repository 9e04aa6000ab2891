use Rattle.std.proofs.Common.{◌≡◌}
use Rattle.nest_walk.specs.Paths.{rounds_to, value_among}
use Rattle.nest_walk.specs.RoundsOf.{rounds_of}
use Rattle.nest_walk.proofs.path.Path.value_of.Given as goal

abbrev pub invariant-loop-depth : goal.invariant-loop-depth
invariant-loop-depth l = value_among (rounds_to l.self.numbers l.self.values l.depth) l.number ≡ value_among (rounds_of l.self) l.number
