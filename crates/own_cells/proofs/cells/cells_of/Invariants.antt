use Rattle.std.proofs.Common.{◌≡◌, length, take}
use Rattle.nest_tree.specs.View.{tree_of}
use Rattle.own_cells.specs.OwnCells.{cells_of}
use Rattle.own_cells.proofs.cells.cells_of.Given as goal

abbrev pub invariant-loop-scalar : goal.invariant-loop-scalar
invariant-loop-scalar l = record {
  made : l.cells.items ≡ cells_of (tree_of l.program) (take l.scalar-index l.scalars);
  count : length l.cells.items ≡ l.scalar-index;
}
