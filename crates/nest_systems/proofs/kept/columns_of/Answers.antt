use Rattle.std.proofs.Common.{◌≡◌, ◌+◌, ◌-◌, ◌∷◌, [], ◌++◌, append_assoc, map, ap, sym, ◌∙◌, arith}
use Rattle.std.specs.List.{range_with_len}
use Rattle.list_lemmas.proofs.Ranges.{range-more}
use Rattle.presolve.proofs.Searching.{at_least}
use Rattle.nest_systems.proofs.kept.columns_of.Goals as goal

pub overflow_sub-number : goal.overflow_sub-number
overflow_sub-number c = at_least 1 (c.args.constants + 1) c.args.kept.now c.loop-number.number-index c.requires.rising c.loop-number-test.true

pub loop-place-preserved : goal.loop-place-preserved
loop-place-preserved c =
    let from = c.args.constants in
    let place = c.loop-place.place in
    let front = map (λ n. n - 1) c.args.kept.now in
    let low = c.loop-place.invariant.low in
    let next : place + 1 - from ≡ place - from + 1 = omega (arith, low) in
    let here : from + (place - from) ≡ place = omega (arith, low) in
    record {
      low = omega (arith, low);
      is = c.in_ok-push-2.ensures.items ∙ ap (λ xs. xs ++ place ∷ []) c.loop-place.invariant.is ∙ append_assoc front (range_with_len from (place - from)) (place ∷ [])
          ∙ ap (λ xs. front ++ xs) (sym (ap (range_with_len from) next ∙ range-more from (place - from) ∙ ap (λ k. range_with_len from (place - from) ++ k ∷ []) here));
    }
