use Rattle.std.proofs.Common.{◌+◌, ◌++◌, ◌∷◌, [], ap, sym, ◌∙◌}
use Rattle.plan_maker.proofs.OrderOnce.{range-more}
use Rattle.plan_maker.proofs.orders.numbers.Goals as goal

pub loop-number-preserved : goal.loop-number-preserved
loop-number-preserved c =
    c.in_ok-push.ensures.items ∙ ap (λ xs. xs ++ (c.loop-number.number + 1) ∷ []) c.loop-number.invariant ∙ sym (range-more c.loop-number.number)
