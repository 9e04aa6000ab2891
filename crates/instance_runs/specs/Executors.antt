-- What instances are executed with.
use Rattle.std.specs.Prelude.{ℕ, ℤ, ◌≡◌, ◌≤◌, true, List, ◌++◌, length, Some, slice_get}
use Rattle.nest_tree.specs.Limits.{IsWithinLimits}
use Rattle.nest_tree.specs.Tree.{Tree, param_values}
use Rattle.nest_tree.specs.View.{tree_of}
use Rattle.nest_tree.specs.WellFormed.{IsWellFormed, loops_of}
use Rattle.nest_model.specs.Ranges.{is_instance_inside}
use Rattle.nest_walk.specs.ByNumber.{with_rounds}
use Rattle.nest_walk.specs.Paths.{Round}
use Rattle.nest_walk.specs.Tables.{IsCellTable, entries}
use Rattle.nest_walk.specs.declared.table.WorkCells.{WorkCells}
use Rattle.flat_code.specs.CodeTables.{IsCodeTable, most_registers}
use Rattle.spmd_model.specs.Deeds.{Deed, instance_deeds}
use Rattle.instance_runs.specs.Loads.{widths}
use Rattle.instance_runs.specs.Stops.{IsInstance}
use Rattle.instance_runs.specs.declared.execute.Executor.{Executor}
use Rattle.nest_walk.specs.declared.cursor.Stop.{Stop}

abbrev pub executor_tree : Executor → Tree
executor_tree x = tree_of x.program.now

-- the output so far, and how much there can be before memory is asked for
abbrev pub executor_output : Executor → List ℕ
executor_output x = x.output.bytes

abbrev pub executor_room : Executor → ℕ
executor_room x = x.output.room

-- what it is lent and its codes are its program's, and it has room for the registers and lines of any piece of work
pub record CanExecute (x : Executor) : Type 0 where
  pub formed : IsWellFormed (executor_tree x)
  pub limits : IsWithinLimits (executor_tree x)
  pub table : IsCellTable (executor_tree x) x.table.now
  pub params : x.params.now ≡ param_values (executor_tree x)
  pub codes : IsCodeTable (executor_tree x) x.codes
  pub loops : loops_of (executor_tree x).items ≤ length x.loops.items
  pub lines : most_registers x.codes ≤ length x.lines.items
  pub registers : most_registers x.codes ≤ length x.registers.items
  pub room : (n : ℕ) (cells : WorkCells) → slice_get (entries x.table.now) n ≡ Some cells
      → widths cells.loads.items ≤ length x.registers.items

-- its values of loops by number are those of these loops, and of others whatever they were
pub record AreWritten (x : Executor) (rounds : List Round) : Type 0 where
  pub before : List ℤ
  pub long : loops_of (executor_tree x).items ≤ length before
  pub is : x.loops.items ≡ with_rounds before rounds

-- the instance at a stop with these loops round it comes next, and each access of it is in range
pub record Begins (tree : Tree) (rounds : List Round) (stop : Stop) (left : List Deed) :
    Type 0 where
  pub at : IsInstance tree rounds stop
  pub inside : is_instance_inside tree at.instance ≡ true
  pub rest : List Deed
  pub is : left ≡ instance_deeds tree at.instance ++ rest
