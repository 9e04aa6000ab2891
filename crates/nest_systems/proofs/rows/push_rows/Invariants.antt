use Rattle.std.proofs.Common.{drop}
use Rattle.nest_rows.proofs.RowLists.{AreLeft}
use Rattle.nest_systems.proofs.rows.push_rows.Given as goal

abbrev pub invariant-loop-constraint : goal.invariant-loop-constraint
invariant-loop-constraint l = AreLeft l.constraints l.initial.system l.system (drop l.constraint-index l.constraints)
