use Rattle.std.proofs.Common.{drop, map}
use Rattle.nest_rows.proofs.RowLists.{AreLeft}
use Rattle.comm_system.specs.PairRows.{same_element}
use Rattle.comm_system.specs.RowViews.{sum_seen}
use Rattle.comm_system.proofs.rows.push_same_element.Given as goal

abbrev pub invariant-loop-index : goal.invariant-loop-index
invariant-loop-index l = AreLeft (same_element (map sum_seen l.xs) (map sum_seen l.ys)) l.initial.system l.system (same_element (map sum_seen (drop l.index l.xs)) (map sum_seen (drop l.index l.ys)))
