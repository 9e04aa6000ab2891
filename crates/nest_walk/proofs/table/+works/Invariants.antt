use Rattle.std.proofs.Common.{take}
use Rattle.nest_tree.specs.View.{statements_from, tree_of}
use Rattle.nest_model.specs.Visits.{every}
use Rattle.nest_walk.specs.Grown.{GrewBy}
use Rattle.nest_walk.specs.Places.{numbers_of}
use Rattle.nest_walk.specs.RoundsOf.{rounds_of}
use Rattle.nest_walk.specs.Tables.{ArePlacedCells}
use Rattle.nest_walk.specs.Texts.{placed_of}
use Rattle.nest_walk.proofs.table.+works.Given as goal

abbrev pub invariant-push_works-loop-item : goal.invariant-push_works-loop-item
invariant-push_works-loop-item l =
    GrewBy (ArePlacedCells (tree_of l.program)) (placed_of every (numbers_of (rounds_of l.path)) (statements_from (take l.item-index l.items))) l.initial.works.items l.works.items
