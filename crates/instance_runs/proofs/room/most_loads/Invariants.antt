use Rattle.std.proofs.Common.{◌≡◌, ◌<◌, ◌≤◌, ℕ, Some}
use Rattle.std.specs.Prelude.{slice_get}
use Rattle.nest_walk.specs.Tables.{entries}
use Rattle.nest_walk.specs.declared.table.WorkCells.{WorkCells}
use Rattle.instance_runs.specs.Loads.{widths}
use Rattle.instance_runs.specs.Rooms.{IsReached}
use Rattle.instance_runs.proofs.room.most_loads.Given as goal

abbrev pub invariant-loop-number : goal.invariant-loop-number
invariant-loop-number l = record {
  most : (k : ℕ) (cells : WorkCells) → k < l.number → slice_get (entries l.table) k ≡ Some cells → widths cells.loads.items ≤ l.most;
  reached : IsReached (entries l.table) l.most;
}
