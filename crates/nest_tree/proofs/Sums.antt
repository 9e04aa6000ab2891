-- Coefficients times values, from one pair on.
use Rattle.std.proofs.Common.{◌≡◌, ℕ, zero, suc, ◌+◌, ◌*◌, ◌^◌, ◌≤◌, ◌<◌, ℤ, ◌+ℤ◌, ◌*ℤ◌, List, [], ◌∷◌, length, get_or, drop, add-one, IsTrue, unsigned_abs, w64, w32, Fits, FitsSigned, refl, ap, sym, ◌∙◌, arith}
use mir.Syntax.{w128}
use Rattle.std.proofs.Math.Seq.{drop-cons}
use Rattle.std.proofs.lemmas.Bool.Decides.{nat_tests}
use Rattle.std.proofs.lemmas.Int.{ints, int_wrap-add_left, int_wrap_fits, fits_signed_from_abs}
use Rattle.std.proofs.Math.IntN.{+ℤ_assoc}
use Rattle.list_lemmas.proofs.Integers.{size_sum}
use Rattle.nest_tree.specs.Form.{dot, is_small, numbered, reach_within, rises_above}
use Rattle.nest_tree.specs.Intervals.{ends_of, plus, multiple, dot_ends}
use Rattle.nest_tree.specs.Values.{wrapped}

-- numbers rise, so the one at place i is above i; and no coefficient is large
pub record Good (pair : ℕ × ℤ) (below greatest : ℕ) : Type 0 where
  pub above : below < pair.0
  pub reaches : pair.0 ≤ greatest
  pub small : IsTrue (is_small pair.1)

pub pair-at : (least greatest : ℕ) (pairs : List (ℕ × ℤ)) (i : ℕ) (d : ℕ × ℤ) →
    IsTrue (rises_above least pairs) → IsTrue (reach_within greatest pairs) → i < length pairs → Good (get_or pairs i d) (least + i) greatest
pair-at least greatest [] i d rises given h = absurd (omega arith)
pair-at least greatest (p ∷ pairs) zero d rises given h = record {
  above = grind (arith, nat_tests);
  reaches = grind (arith, nat_tests);
  small = grind (arith, nat_tests);
}
pair-at least greatest (p ∷ pairs) (suc i) d rises given h =
    let above : least < p.0 = grind (arith, nat_tests) in
    let rest = pair-at p.0 greatest pairs i d (grind arith) (grind arith) (omega arith) in record {
      above = omega (arith, rest.above);
      reaches = rest.reaches;
      small = rest.small;
    }

pub dot-drop : (pairs : List (ℕ × ℤ)) (values : List ℤ) (i : ℕ) (d : ℕ × ℤ) → i < length pairs →
    dot (drop i pairs) values ≡ (get_or pairs i d).1 *ℤ numbered values (get_or pairs i d).0 +ℤ dot (drop (i + 1) pairs) values
dot-drop pairs values i d h = rw (add-one, drop-cons pairs i d h) refl

-- a step of a sum that wraps
pub wrapped_sum-step : (pairs : List (ℕ × ℤ)) (values : List ℤ) (i : ℕ) (d : ℕ × ℤ) (sum next : ℤ) → i < length pairs →
    next ≡ wrapped (sum +ℤ (get_or pairs i d).1 *ℤ numbered values (get_or pairs i d).0) →
    wrapped (next +ℤ dot (drop (i + 1) pairs) values) ≡ wrapped (sum +ℤ dot (drop i pairs) values)
wrapped_sum-step pairs values i d sum next h e =
    let product = (get_or pairs i d).1 *ℤ numbered values (get_or pairs i d).0 in
    let rest = dot (drop (i + 1) pairs) values in
    ap (λ z. wrapped (z +ℤ rest)) e ∙ int_wrap-add_left w64 (sum +ℤ product) rest ∙ ap wrapped (+ℤ_assoc sum product rest ∙ ap (λ z. sum +ℤ z) (sym (dot-drop pairs values i d h)))

-- a sum of a start and of i terms, none past 2 ^ 94, with one term more: it stays near, since the term's number n has 32 bits
pub record Nears (start sum : ℤ) (i : ℕ) : Type 0 where
  pub fits : FitsSigned w128 sum
  pub few : i < 2 ^ 32
  pub near : unsigned_abs sum ≤ unsigned_abs start + i * 2 ^ 94

pub near-step : (start sum term : ℤ) (i n : ℕ) → unsigned_abs start ≤ 2 ^ 126 → unsigned_abs sum ≤ unsigned_abs start + i * 2 ^ 94 →
    i < n → Fits w32 n → unsigned_abs term ≤ 2 ^ 94 → Nears start (sum +ℤ term) (i + 1)
near-step start sum term i n small near above few size =
    let s = size_sum sum term in record {
      fits = fits_signed_from_abs w128 (sum +ℤ term) (omega (arith, few));
      few = omega (arith, few);
      near = omega arith;
    }

-- a step of an exact sum
pub exact_sum-step : (pairs : List (ℕ × ℤ)) (values : List ℤ) (i : ℕ) (d : ℕ × ℤ) (sum product : ℤ) → i < length pairs →
    product ≡ (get_or pairs i d).1 *ℤ numbered values (get_or pairs i d).0 →
    sum +ℤ product +ℤ dot (drop (i + 1) pairs) values ≡ sum +ℤ dot (drop i pairs) values
exact_sum-step pairs values i d sum product h e = omega (arith, ints, e, dot-drop pairs values i d h)

-- two sums that wrap on the way to a small one
pub small-fits : (z : ℤ) → IsTrue (is_small z) → FitsSigned w64 z
small-fits z h = fits_signed_from_abs w64 z (grind (arith, nat_tests))

pub wrapped_sum-twice : (k a b sum all : ℤ) → sum ≡ wrapped (k +ℤ a) → all ≡ wrapped (sum +ℤ b) → IsTrue (is_small (k +ℤ a +ℤ b)) → all ≡ k +ℤ a +ℤ b
wrapped_sum-twice k a b sum all e f small =
    f ∙ ap (λ z. wrapped (z +ℤ b)) e ∙ int_wrap-add_left w64 (k +ℤ a) b ∙ int_wrap_fits w64 (k +ℤ a +ℤ b) (small-fits (k +ℤ a +ℤ b) small)

dot_ends-drop : (pairs : List (ℕ × ℤ)) (ends : List (ℤ × ℤ)) (i : ℕ) (d : ℕ × ℤ) → i < length pairs →
    dot_ends (drop i pairs) ends ≡ plus (multiple (get_or pairs i d).1 (ends_of ends (get_or pairs i d).0)) (dot_ends (drop (i + 1) pairs) ends)
dot_ends-drop pairs ends i d h = rw (add-one, drop-cons pairs i d h) refl

plus_assoc : (x y z : ℤ × ℤ) → plus (plus x y) z ≡ plus x (plus y z)
plus_assoc x y z =
    let low : x.0 +ℤ y.0 +ℤ z.0 ≡ x.0 +ℤ (y.0 +ℤ z.0) = omega (arith, ints) in
    let high : x.1 +ℤ y.1 +ℤ z.1 ≡ x.1 +ℤ (y.1 +ℤ z.1) = omega (arith, ints) in cc

-- a step of the ends of an interval
pub interval_sum-step : (pairs : List (ℕ × ℤ)) (ends : List (ℤ × ℤ)) (i : ℕ) (d : ℕ × ℤ) (low high : ℤ) (term : ℤ × ℤ) → i < length pairs →
    term ≡ multiple (get_or pairs i d).1 (ends_of ends (get_or pairs i d).0) →
    plus (low +ℤ term.0, high +ℤ term.1) (dot_ends (drop (i + 1) pairs) ends) ≡ plus (low, high) (dot_ends (drop i pairs) ends)
interval_sum-step pairs ends i d low high term h e =
    plus_assoc (low, high) term (dot_ends (drop (i + 1) pairs) ends) ∙ ap (plus (low, high)) (ap (λ t. plus t (dot_ends (drop (i + 1) pairs) ends)) e ∙ sym (dot_ends-drop pairs ends i d h))
