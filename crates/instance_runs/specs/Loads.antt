-- The loads of a piece of work, value by value.
use Rattle.std.specs.Prelude.{ℕ, ◌+◌, ◌≡◌, ◌<◌, ℤ, List, take, Some, None, slice_get, sum_by}
use Rattle.nest_walk.specs.CellForms.{cell_at}
use Rattle.nest_walk.specs.declared.table.LoadCells.{LoadCells}
use Rattle.nest_walk.specs.declared.table.LoadCells.TheVariants.{Element, Array}
use Rattle.nest_walk.specs.declared.table.WorkCells.{WorkCells}

-- how many values a load gives, and loads together
abbrev pub width : LoadCells → ℕ
width (Element form) = 1
width (Array first count) = count

abbrev pub widths : List LoadCells → ℕ
widths loads = sum_by width loads

-- every load of a table gives a value
abbrev pub AreWide : List WorkCells → Type 0
AreWide entries = (n k : ℕ) (cells : WorkCells) (l : LoadCells) → slice_get entries n ≡ Some cells
    → slice_get cells.loads.items k ≡ Some l → 0 < width l

-- the cell of a load whose elements up to this one are loaded, where the loops have these values by depth
abbrev pub cell_of_load : List ℤ → LoadCells → ℕ → ℕ
cell_of_load values (Element form) element = cell_at form values
cell_of_load values (Array first count) element = first + element

-- so many values are loaded where this load comes next and so many of its elements are loaded
pub record IsLoading (loads : List LoadCells) (done load element : ℕ) : Type 0 where
  pub counted : widths (take load loads) + element ≡ done
  pub within : (l : LoadCells) → slice_get loads load ≡ Some l → element < width l
  pub over : slice_get loads load ≡ None → widths loads ≡ done
