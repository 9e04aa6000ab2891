-- Where the loads of an instance stand.
use Rattle.std.specs.Prelude.{ℕ, ◌-◌, ◌≡◌, true, Some, slice_get}
use Rattle.nest_tree.specs.Tree.{Tree}
use Rattle.nest_tree.specs.WellFormed.{IsWellFormed}
use Rattle.nest_model.specs.Ranges.{is_instance_inside}
use Rattle.nest_walk.specs.RoundsOf.{rounds_of}
use Rattle.nest_walk.specs.Tables.{IsCellTable, entries}
use Rattle.nest_walk.specs.declared.cursor.Stop.{Stop}
use Rattle.nest_walk.specs.declared.path.Path.{Path}
use Rattle.nest_walk.specs.declared.table.CellTable.{CellTable}
use Rattle.nest_walk.specs.declared.table.WorkCells.{WorkCells}
use Rattle.instance_runs.specs.Loads.{IsLoading}
use Rattle.instance_runs.specs.Stops.{IsInstance}
use Rattle.instance_runs.specs.declared.load_place.LoadPlace.{LoadPlace}

-- the stop with these loops round it is an instance with each access in range, and so many of its loads are done at the place
pub record IsAtLoad (tree : Tree) (table : CellTable) (path : Path) (stop : Stop) (done : ℕ)
    (place : LoadPlace) : Type 0 where
  pub formed : IsWellFormed tree
  pub table_is : IsCellTable tree table
  pub comes : IsInstance tree (rounds_of path) stop
  pub inside : is_instance_inside tree comes.instance ≡ true
  pub loading : (cells : WorkCells) → slice_get (entries table) (stop.first - 1) ≡ Some cells
      → IsLoading cells.loads.items done place.load place.element
