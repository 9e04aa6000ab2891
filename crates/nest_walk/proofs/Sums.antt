-- Coefficients times values, from one pair on, wrapped to 64 bits.
use Rattle.std.proofs.Common.{◌≡◌, ℕ, ◌+◌, ◌<◌, ℤ, ◌+ℤ◌, ◌*ℤ◌, List, length, get_or, drop, w64, ap, sym, ◌∙◌}
use Rattle.std.proofs.lemmas.Int.{int_wrap-add_left}
use Rattle.std.proofs.lemmas.List.{at_drop_more}
use Rattle.std.proofs.Math.IntN.{+ℤ_assoc}
use Rattle.nest_tree.specs.Values.{wrapped}
use Rattle.nest_walk.specs.Paths.{Round, dot_among, value_among}

-- a product more, and then the rest
sum_step : (sum product rest next : ℤ) → next ≡ wrapped (sum +ℤ product) → wrapped (next +ℤ rest) ≡ wrapped (sum +ℤ (product +ℤ rest))
sum_step sum product rest next e = ap (λ z. wrapped (z +ℤ rest)) e ∙ int_wrap-add_left w64 (sum +ℤ product) rest ∙ ap wrapped (+ℤ_assoc sum product rest)

pub loops_step : (pairs : List (ℕ × ℤ)) (rounds : List Round) (i : ℕ) (d : ℕ × ℤ) (sum next : ℤ) → i < length pairs →
    next ≡ wrapped (sum +ℤ (get_or pairs i d).1 *ℤ value_among rounds (get_or pairs i d).0) →
    wrapped (next +ℤ dot_among (drop (i + 1) pairs) rounds) ≡ wrapped (sum +ℤ dot_among (drop i pairs) rounds)
loops_step pairs rounds i d sum next h e =
    sum_step sum _ (dot_among (drop (i + 1) pairs) rounds) next e ∙ ap (λ z. wrapped (sum +ℤ z)) (sym (at_drop_more (λ ps. dot_among ps rounds) pairs i d h))

-- two sums one behind the other
pub sum_both : (a b c first all : ℤ) → first ≡ wrapped (a +ℤ b) → all ≡ wrapped (first +ℤ c) → all ≡ wrapped (a +ℤ b +ℤ c)
sum_both a b c first all e f = f ∙ ap (λ z. wrapped (z +ℤ c)) e ∙ int_wrap-add_left w64 (a +ℤ b) c
