use Rattle.std.proofs.Common.{◌+◌, ◌++◌, ◌∷◌, [], map, drop, ap, ◌∙◌}
use Rattle.std.proofs.lemmas.List.{map-append}
use Rattle.comm_system.specs.PairRows.{Sum, free_sums}
use Rattle.comm_system.specs.RowViews.{free_at, sum_seen}
use Rattle.comm_system.proofs.RowSteps.{free_sums_more, list_more, small_more}
use Rattle.comm_system.proofs.rows.free_sums.Goals as goal

pub loop-index-preserved : goal.loop-index-preserved
loop-index-preserved c =
    let first = c.args.first in
    let bounds = c.args.bounds.now in
    let k = c.loop-index.index in
    let sums = c.loop-index.sums.items in
    let s = c.in_ok-free_sum.field-0 in
    let pushed = ap (map sum_seen) c.in_ok-push.ensures.items ∙ map-append sum_seen sums (s ∷ []) ∙ ap (λ (x : Sum). map sum_seen sums ++ x ∷ []) c.in_ok-free_sum.ensures.sum in
    record {
      sums = list_more (free_sums first bounds) (map sum_seen sums) (map sum_seen c.push.new.self.items) (free_sums (first + k) (drop k bounds)) (free_sums (first + (k + 1)) (drop (k + 1) bounds)) (free_at (first + k)) c.loop-index.invariant.sums (free_sums_more first bounds k c.loop-index-test.true) pushed;
      small = small_more sums c.push.new.self.items s c.loop-index.invariant.small c.in_ok-free_sum.ensures.small c.in_ok-push.ensures.items;
    }
