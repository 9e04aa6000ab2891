-- Coefficients times loops' values, from one pair on.
use Rattle.std.proofs.Common.{◌≡◌, ℕ, zero, suc, ◌+◌, ◌<◌, ℤ, ◌+ℤ◌, ◌*ℤ◌, List, [], ◌∷◌, length, get_or, drop, add-one, IsTrue, refl, arith}
use Rattle.std.proofs.Math.Seq.{drop-cons}
use Rattle.std.proofs.lemmas.Bool.Decides.{nat_tests}
use Rattle.std.proofs.lemmas.Int.{ints}
use Rattle.nest_tree.specs.Form.{is_small, rises_above}
use Rattle.nest_walk.specs.Paths.{Round, dot_among, value_among}

-- numbers rise, so the one at place i is above i; and no coefficient is large
pub record LoopPair (pair : ℕ × ℤ) (below : ℕ) : Type 0 where
  pub above : below < pair.0
  pub small : IsTrue (is_small pair.1)

pub loop_pair : (least : ℕ) (pairs : List (ℕ × ℤ)) (i : ℕ) (d : ℕ × ℤ) → IsTrue (rises_above least pairs) → i < length pairs → LoopPair (get_or pairs i d) (least + i)
loop_pair least [] i d rises h = absurd (omega arith)
loop_pair least (p ∷ pairs) zero d rises h = record { above = grind (arith, nat_tests); small = grind (arith, nat_tests) }
loop_pair least (p ∷ pairs) (suc i) d rises h =
    let above : least < p.0 = grind (arith, nat_tests) in
    let rest = loop_pair p.0 pairs i d (grind arith) (omega arith) in record { above = omega (arith, rest.above); small = rest.small }

among_drop : (pairs : List (ℕ × ℤ)) (rounds : List Round) (i : ℕ) (d : ℕ × ℤ) → i < length pairs →
    dot_among (drop i pairs) rounds ≡ (get_or pairs i d).1 *ℤ value_among rounds (get_or pairs i d).0 +ℤ dot_among (drop (i + 1) pairs) rounds
among_drop pairs rounds i d h = rw (add-one, drop-cons pairs i d h) refl

-- a step of the sum
pub among_step : (pairs : List (ℕ × ℤ)) (rounds : List Round) (i : ℕ) (d : ℕ × ℤ) (sum product : ℤ) → i < length pairs →
    product ≡ (get_or pairs i d).1 *ℤ value_among rounds (get_or pairs i d).0 → sum +ℤ product +ℤ dot_among (drop (i + 1) pairs) rounds ≡ sum +ℤ dot_among (drop i pairs) rounds
among_step pairs rounds i d sum product h e = omega (arith, ints, e, among_drop pairs rounds i d h)
