use Rattle.std.proofs.Common.{map, take}
use Rattle.nest_tree.specs.Loads.{loads_among}
use Rattle.nest_tree.specs.View.{expressions_from, tree_of}
use Rattle.nest_walk.specs.Grown.{GrewBy}
use Rattle.nest_walk.specs.Places.{numbers_of}
use Rattle.nest_walk.specs.RoundsOf.{rounds_of}
use Rattle.nest_walk.specs.Tables.{AreLoadCells, element}
use Rattle.nest_walk.proofs.table.+loads.Given as goal

abbrev pub invariant-push_all_loads-loop-argument : goal.invariant-push_all_loads-loop-argument
invariant-push_all_loads-loop-argument l =
    GrewBy (AreLoadCells (tree_of l.program) (numbers_of (rounds_of l.path))) (map element (loads_among (expressions_from (take l.argument-index l.arguments)))) l.initial.loads.items l.loads.items
