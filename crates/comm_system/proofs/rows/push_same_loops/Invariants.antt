use Rattle.std.proofs.Common.{◌+◌, ◌*◌, ◌-◌}
use Rattle.nest_rows.proofs.RowLists.{AreLeft}
use Rattle.comm_system.specs.PairRows.{same_loops}
use Rattle.comm_system.proofs.rows.push_same_loops.Given as goal

abbrev pub invariant-loop-index : goal.invariant-loop-index
invariant-loop-index l = AreLeft (same_loops l.m l.n l.count) l.initial.system l.system (same_loops (l.m + 2 * l.index) (l.n + 2 * l.index) (l.count - l.index))
