-- The cells of a piece of work where the loops have these values by depth.
use Rattle.std.specs.Prelude.{ℕ, ◌+◌, ℤ, Bool, nat_le, nat_lt, List, [], ◌∷◌}
use Rattle.std.specs.List.{range_with_len}
use Rattle.nest_walk.specs.CellForms.{cell_at}
use Rattle.flat_code.specs.Lines.{first_of_load}
use Rattle.nest_walk.specs.declared.cells.CellForm.{CellForm}
use Rattle.nest_walk.specs.declared.table.LoadCells.{LoadCells}
use Rattle.nest_walk.specs.declared.table.LoadCells.TheVariants.{Element, Array}

-- the cells of a load
abbrev pub cells_of_load : List ℤ → LoadCells → List ℕ
cells_of_load values (Element form) = cell_at form values ∷ []
cells_of_load values (Array first count) = range_with_len first count

-- they are among so many
abbrev pub is_load_within : ℕ → List ℤ → LoadCells → Bool
is_load_within cells values (Element form) = nat_lt (cell_at form values) cells
is_load_within cells values (Array first count) = nat_le (first + count) cells

-- the cell of a store is among so many
abbrev pub is_store_within : ℕ → List ℤ → CellForm → Bool
is_store_within cells values form = nat_lt (cell_at form values) cells

-- the first cell of a load is among so many
abbrev pub is_first_within : ℕ → List ℤ → LoadCells → Bool
is_first_within cells values load = nat_lt (first_of_load values load) cells
