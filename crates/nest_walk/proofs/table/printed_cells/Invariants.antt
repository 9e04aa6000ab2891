use Rattle.std.proofs.Common.{map, take}
use Rattle.std.specs.List.{flat_map}
use Rattle.nest_tree.specs.View.{printed_of, tree_of}
use Rattle.nest_walk.specs.Grown.{GrewBy}
use Rattle.nest_walk.specs.Places.{numbers_of}
use Rattle.nest_walk.specs.RoundsOf.{rounds_of}
use Rattle.nest_walk.specs.Tables.{AreLoadCells, loaded_in_item}
use Rattle.nest_walk.proofs.table.printed_cells.Given as goal

abbrev pub invariant-loop-item : goal.invariant-loop-item
invariant-loop-item l =
    GrewBy (AreLoadCells (tree_of l.program) (numbers_of (rounds_of l.path))) (flat_map loaded_in_item (map printed_of (take l.item-index l.items))) l.initial.loads.items l.loads.items
