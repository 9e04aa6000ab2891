-- The loops of a path.
use Rattle.std.specs.Prelude.{List}
use Rattle.nest_walk.specs.Paths.{Round, rounds_to}
use Rattle.nest_walk.specs.declared.path.Path.{Path}

abbrev pub rounds_of : Path → List Round
rounds_of p = rounds_to p.numbers p.values p.depth
