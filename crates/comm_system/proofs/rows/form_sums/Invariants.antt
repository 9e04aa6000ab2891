use Rattle.std.proofs.Common.{◌≡◌, map, take, IsTrue}
use Rattle.std.specs.List.{list_all}
use Rattle.nest_rows.specs.Views.{heads_of}
use Rattle.comm_system.specs.PairRows.{sum_of}
use Rattle.comm_system.specs.RowViews.{is_small_sum, sum_seen}
use Rattle.comm_system.proofs.rows.form_sums.Given as goal

abbrev pub invariant-loop-form : goal.invariant-loop-form
invariant-loop-form l = record {
  sums : map sum_seen l.sums.items ≡ map (sum_of l.first (heads_of l.around)) (take l.form-index l.forms);
  small : IsTrue (list_all is_small_sum l.sums.items);
}
