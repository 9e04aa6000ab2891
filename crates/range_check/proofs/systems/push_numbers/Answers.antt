use Rattle.std.proofs.Common.{◌+◌, ◌*◌, ◌++◌, [], ◌∷◌, append_assoc, ap, sym, ◌∙◌, arith}
use Rattle.std.proofs.lemmas.List.FromFn.{map-range_with_len_more}
use Rattle.range_check.specs.RangeSystems.{in_steps}
use Rattle.range_check.proofs.systems.push_numbers.Goals as goal

pub loop-index-preserved : goal.loop-index-preserved
loop-index-preserved c =
    let k = c.loop-index.index in
    let next = c.args.first + c.args.step * k in
    c.in_ok-push.ensures.items ∙ ap (λ xs. xs ++ next ∷ []) c.loop-index.invariant ∙ append_assoc c.args.order.now.items (in_steps c.args.first c.args.step k) (next ∷ [])
    ∙ ap (λ xs. c.args.order.now.items ++ xs) (sym (map-range_with_len_more (λ j. c.args.first + c.args.step * j) 0 k k (omega arith)))
