use Rattle.std.proofs.Common.{◌+◌, drop}
use Rattle.nest_rows.proofs.RowLists.{AreLeft}
use Rattle.comm_system.specs.PairRows.{free_have}
use Rattle.comm_system.proofs.rows.push_free.Given as goal

abbrev pub invariant-loop-index : goal.invariant-loop-index
invariant-loop-index l = AreLeft (free_have l.first l.bounds) l.initial.system l.system (free_have (l.first + l.index) (drop l.index l.bounds))
