-- Cells in equal steps along a loop.
use Rattle.std.specs.Prelude.{ℕ, ℤ, ◌+ℤ◌, ◌*ℤ◌, List, ◌≡◌}
use Rattle.nest_tree.specs.Layout.{count_of}
use Rattle.nest_tree.specs.Values.{wrapped}
use Rattle.nest_walk.specs.CellForms.{cell_at}
use Rattle.nest_walk.specs.Paths.{Round, by_depth}
use Rattle.nest_walk.specs.Strips.{at_value}
use Rattle.nest_walk.specs.declared.cells.CellForm.{CellForm}
use Rattle.nest_walk.specs.declared.table.LoadCells.{LoadCells}
use Rattle.nest_walk.specs.declared.table.LoadCells.TheVariants.{Element, Array}
use Rattle.flat_code.specs.declared.lines.Line.{Line}

-- the cell where the loop has this value, in 64 bits
abbrev pub cell_on : Line → ℤ → ℕ
cell_on line v = count_of (wrapped (line.origin +ℤ line.stride *ℤ v))

-- the first cell of a load where the loops have these values by depth
abbrev pub first_of_load : List ℤ → LoadCells → ℕ
first_of_load values (Element form) = cell_at form values
first_of_load values (Array first count) = first

-- whatever value the innermost of these loops has, the cell of a form is that of the line; the same of the first cell of a load
abbrev pub IsLineOf : CellForm → List Round → Line → Type 0
IsLineOf form rounds line = (v : ℤ) → cell_at form (by_depth (at_value rounds v)) ≡ cell_on line v

abbrev pub IsLoadLine : LoadCells → List Round → Line → Type 0
IsLoadLine load rounds line =
    (v : ℤ) → first_of_load (by_depth (at_value rounds v)) load ≡ cell_on line v
