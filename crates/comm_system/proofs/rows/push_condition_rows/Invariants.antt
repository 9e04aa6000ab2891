use Rattle.std.proofs.Common.{drop, map}
use Rattle.nest_rows.proofs.RowLists.{AreLeft}
use Rattle.comm_system.specs.RowViews.{condition_of}
use Rattle.comm_system.proofs.rows.push_condition_rows.Given as goal

abbrev pub invariant-loop-row : goal.invariant-loop-row
invariant-loop-row l = AreLeft (map condition_of l.rows) l.initial.system l.system (map condition_of (drop l.row-index l.rows))
