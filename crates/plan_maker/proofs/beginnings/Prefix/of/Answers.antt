use Rattle.std.proofs.Common.{◌≡◌, ◌-◌, length, sym, ap, ◌∙◌, arith}
use Rattle.std.specs.List.{range_with_len}
use Rattle.std.proofs.lemmas.List.{length-take-le}
use Rattle.std.proofs.lemmas.List.FromFn.{length-range_with_len}
use Rattle.std.proofs.lemmas.List.Sorted.{length_permutation}
use Rattle.plan_maker.proofs.beginnings.Prefix.of.Goals as goal

pub slice_bounds-count_with-end : goal.slice_bounds-count_with-end
slice_bounds-count_with-end c =
    let n = c.vars-2.result in
    let all : length c.as_slice.result.now ≡ n = ap length c.as_slice.ensures.value ∙ length_permutation (range_with_len 1 n) c.in_ok-order.order.items c.in_ok-order.ensures.once ∙ length-range_with_len 1 n in
    sym (length-take-le (c.vars.result - c.unknown_count.result) c.as_slice.result.now (omega (arith, all, c.vars.ensures, c.vars-2.ensures)))
