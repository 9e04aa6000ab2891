use Rattle.std.proofs.Common.{◌≡◌, ◌+◌, ◌-◌, ◌∷◌, [], ◌++◌, ap, sym, ◌∙◌, arith}
use Rattle.std.specs.List.{range_with_len}
use Rattle.list_lemmas.proofs.Ranges.{range-more}
use Rattle.comm_system.proofs.pair_systems.unknowns_from.Goals as goal

pub loop-number-preserved : goal.loop-number-preserved
loop-number-preserved c =
    let from = c.args.first in
    let number = c.loop-number.number in
    let low = c.loop-number.invariant.low in
    let next : number + 1 - from ≡ number - from + 1 = omega (arith, low) in
    let here : from + (number - from) ≡ number = omega (arith, low) in
    record {
      low = omega (arith, low);
      is = c.in_ok-push.ensures.items ∙ ap (λ xs. xs ++ number ∷ []) c.loop-number.invariant.is
          ∙ sym (ap (range_with_len from) next ∙ range-more from (number - from) ∙ ap (λ k. range_with_len from (number - from) ++ k ∷ []) here);
    }
