use Rattle.std.proofs.Common.{◌≡◌, ◌+◌, ◌++◌, drop, map, IsTrue}
use Rattle.std.specs.List.{list_all}
use Rattle.comm_system.specs.PairRows.{free_sums}
use Rattle.comm_system.specs.RowViews.{is_small_sum, sum_seen}
use Rattle.comm_system.proofs.rows.free_sums.Given as goal

abbrev pub invariant-loop-index : goal.invariant-loop-index
invariant-loop-index l = record {
  sums : map sum_seen l.sums.items ++ free_sums (l.first + l.index) (drop l.index l.bounds) ≡ free_sums l.first l.bounds;
  small : IsTrue (list_all is_small_sum l.sums.items);
}
