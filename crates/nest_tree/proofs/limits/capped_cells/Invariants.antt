use Rattle.std.proofs.Common.{◌≡◌, ◌≤◌, ◌^◌, map, take}
use Rattle.nest_tree.specs.Layout.{cells_in}
use Rattle.nest_tree.specs.Limits.{capped}
use Rattle.nest_tree.specs.View.{declaration_of}
use Rattle.nest_tree.proofs.limits.capped_cells.Given as goal

abbrev pub invariant-loop-variable : goal.invariant-loop-variable
invariant-loop-variable l = record {
  cells : l.cells ≡ capped (cells_in (take l.variable-index (map declaration_of l.variables)));
  most : l.cells ≤ 2 ^ 64;
}
