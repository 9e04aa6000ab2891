-- What the tables of a program have.
use Rattle.std.specs.Prelude.{ℕ, ℤ, ◌≡◌, List}
use Rattle.nest_tree.specs.Limits.{IsWithinLimits}
use Rattle.nest_tree.specs.Tree.{Tree, param_values}
use Rattle.nest_tree.specs.WellFormed.{IsWellFormed}
use Rattle.nest_model.specs.Ranges.{IsInRange}
use Rattle.nest_walk.specs.Tables.{IsCellTable}
use Rattle.nest_walk.specs.declared.table.CellTable.{CellTable}
use Rattle.sync_plan.specs.Fit.{IsFit}
use Rattle.sync_plan.specs.declared.plan.Plan.{Plan}
use Rattle.instance_runs.specs.Rooms.{longest_output}

-- they are those of a program under a plan that fits it
pub record AreTables (tree : Tree) (plan : Plan) (table : CellTable) (params : List ℤ) (room : ℕ) :
    Type 0 where
  pub formed : IsWellFormed tree
  pub limits : IsWithinLimits tree
  pub ranges : IsInRange tree
  pub fits : IsFit tree plan
  pub cells : IsCellTable tree table
  pub given : params ≡ param_values tree
  pub long : room ≡ longest_output tree
