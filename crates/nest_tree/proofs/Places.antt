-- The places of elements.
use Rattle.std.proofs.Common.{◌≡◌, ℕ, suc, ◌+◌, ◌*◌, ◌^◌, ◌≤◌, ◌<◌, ℤ, pos, negsuc, ◌+ℤ◌, ◌-ℤ◌, ◌≤ℤ◌, List, [], ◌∷◌, length, get_or, add-one, drop, IsTrue, nat_le, unsigned_abs, refl, ap, ◌∙◌, arith, zero, take}
use Rattle.std.specs.List.{list_all}
use Rattle.std.proofs.lemmas.Bool.Decides.{nat_tests}
use Rattle.std.proofs.lemmas.Int.{ints}
use Rattle.std.proofs.lemmas.Bool.{and_parts}
use Rattle.std.proofs.lemmas.Nat.{mul-add-lt, mul-le, pow-add}
use Rattle.std.proofs.Math.Seq.{drop-cons}
use Rattle.std.proofs.Math.Nat.{one-le-mul, le-mul_of_pos_right, mul-add, mul_assoc, mul_comm}
use Rattle.nest_tree.specs.Layout.{count_of, extent, element_count, element_place, is_inside, are_inside, bounds_at, cells_in}
use Rattle.nest_tree.specs.declared.tree.Spread.{Spread}
use Rattle.nest_tree.specs.Tree.{Declaration}
use Rattle.nest_tree.specs.WellFormed.{is_good_declaration, is_good_dimension, is_good_placing, is_number_of}

-- a dimension's bounds are small, and the lower is at most the upper
pub record Dimension (bounds : ℤ × ℤ) : Type 0 where
  pub low : unsigned_abs bounds.0 ≤ 2147483647
  pub high : unsigned_abs bounds.1 ≤ 2147483647
  pub ordered : bounds.0 ≤ℤ bounds.1

pub good_dimension : (bounds : ℤ × ℤ) → IsTrue (is_good_dimension bounds) → Dimension bounds
good_dimension bounds h = record {
  low = grind (arith, nat_tests);
  high = grind (arith, nat_tests);
  ordered = grind (arith, ints);
}

pub count_of-some : (z : ℤ) → pos 0 ≤ℤ z → pos (count_of z) ≡ z
count_of-some (pos n) h = refl
count_of-some (negsuc n) h = absurd (omega (arith, ints))

pub extent-is : (bounds : ℤ × ℤ) → Dimension bounds → pos (extent bounds) ≡ bounds.1 -ℤ bounds.0 +ℤ pos 1
extent-is bounds d = count_of-some (bounds.1 -ℤ bounds.0 +ℤ pos 1) (omega (arith, ints, d.ordered))

pub inside-ends : (bounds : ℤ × ℤ) (s : ℤ) → IsTrue (is_inside bounds s) → (bounds.0 ≤ℤ s) × (s ≤ℤ bounds.1)
inside-ends bounds s h = (grind (arith, ints), grind (arith, ints))

-- an array whose dimensions have places has elements
pub element_count-some : (bounds : List (ℤ × ℤ)) → IsTrue (list_all is_good_dimension bounds) → 1 ≤ element_count bounds
element_count-some [] good = omega arith
element_count-some (b ∷ bounds) good =
    let g = and_parts (is_good_dimension b) (list_all is_good_dimension bounds) good in
    let d = good_dimension b g.0 in
    let here : 1 ≤ extent b = omega (arith, ints, extent-is b d, d.ordered) in
    one-le-mul here (element_count-some bounds g.1)

-- an element's place, dimension by dimension: what is left of the bounds and the subscripts, with the place so far and the elements that one step along the next dimension passes
pub record Placing (place stride : ℕ) (bounds : List (ℤ × ℤ)) (subscripts : List ℤ) (whole count : ℕ) : Type 0 where
  pub reached : place + stride * element_place bounds subscripts ≡ whole
  pub counted : stride * element_count bounds ≡ count
  pub below : place < stride
  pub inside : IsTrue (are_inside bounds subscripts)
  pub good : IsTrue (list_all is_good_dimension bounds)

-- one dimension further
placing-next : (place stride o : ℕ) (b : ℤ × ℤ) (bounds : List (ℤ × ℤ)) (s : ℤ) (subscripts : List ℤ) (whole count : ℕ) →
    Placing place stride (b ∷ bounds) (s ∷ subscripts) whole count → o ≡ count_of (s -ℤ b.0) → o < extent b →
    Placing (place + o * stride) (stride * extent b) bounds subscripts whole count
placing-next place stride o b bounds s subscripts whole count p is below = record {
  reached =
      let rest = element_place bounds subscripts in
      omega (arith, mul_comm o stride, mul_assoc stride (extent b) rest, mul-add stride o (extent b * rest), p.reached, ap (λ n. stride * (n + extent b * rest)) is);
  counted = mul_assoc stride (extent b) (element_count bounds) ∙ p.counted;
  below = omega (arith, mul-add-lt o stride place (extent b) below p.below);
  inside = (and_parts (is_inside b s) (are_inside bounds subscripts) p.inside).1;
  good = (and_parts (is_good_dimension b) (list_all is_good_dimension bounds) p.good).1;
}

-- what is known of the next dimension
pub record Next (b : ℤ × ℤ) (s : ℤ) (stride count : ℕ) : Type 0 where
  pub good : IsTrue (is_good_dimension b)
  pub inside : IsTrue (is_inside b s)
  pub within : stride * extent b ≤ count

placing-head : (place stride : ℕ) (b : ℤ × ℤ) (bounds : List (ℤ × ℤ)) (s : ℤ) (subscripts : List ℤ) (whole count : ℕ) →
    Placing place stride (b ∷ bounds) (s ∷ subscripts) whole count → Next b s stride count
placing-head place stride b bounds s subscripts whole count p =
    let g = and_parts (is_good_dimension b) (list_all is_good_dimension bounds) p.good in
    let next = mul_assoc stride (extent b) (element_count bounds) ∙ p.counted in record {
      good = g.0;
      inside = (and_parts (is_inside b s) (are_inside bounds subscripts) p.inside).0;
      within = omega (arith, next, le-mul_of_pos_right (stride * extent b) (element_count-some bounds g.1));
    }

module _ (bounds : List (ℤ × ℤ)) (subscripts : List ℤ) (i : ℕ) (d : ℤ × ℤ) (e : ℤ) (place stride whole count : ℕ) (h : i < length bounds) (k : i < length subscripts) (p : Placing place stride (drop i bounds) (drop i subscripts) whole count) where
  here : Placing place stride (get_or bounds i d ∷ drop (suc i) bounds) (get_or subscripts i e ∷ drop (suc i) subscripts) whole count
  here = rw (← drop-cons bounds i d h, ← drop-cons subscripts i e k) p

  pub placing-at : Next (get_or bounds i d) (get_or subscripts i e) stride count
  placing-at = placing-head place stride _ _ _ _ whole count here

  pub placing-step : (o : ℕ) → o ≡ count_of (get_or subscripts i e -ℤ (get_or bounds i d).0) → o < extent (get_or bounds i d) →
      Placing (place + o * stride) (stride * extent (get_or bounds i d)) (drop (i + 1) bounds) (drop (i + 1) subscripts) whole count
  placing-step o is below = rw add-one (placing-next place stride o _ _ _ _ whole count here is below)

few : (bounds : List (ℤ × ℤ)) (axis : ℕ) (spread : Spread) → IsTrue (is_good_placing bounds axis spread) → length bounds ≤ 3
few [] axis spread h = omega arith
few (b ∷ bounds) axis spread h =
    let g = and_parts (is_number_of (length (b ∷ bounds)) axis) (nat_le (length (b ∷ bounds)) 3) h in grind (arith, nat_tests, g.1)

-- the elements, dimension by dimension: `count` of the first i, and what is left
pub record Counting (count i : ℕ) (left : List (ℤ × ℤ)) (whole : ℕ) : Type 0 where
  pub counted : count * element_count left ≡ whole
  pub most : count ≤ 2 ^ (32 * i)
  pub good : IsTrue (list_all is_good_dimension left)

counting-next : (count i : ℕ) (b : ℤ × ℤ) (left : List (ℤ × ℤ)) (whole : ℕ) → Counting count i (b ∷ left) whole → Counting (count * extent b) (i + 1) left whole
counting-next count i b left whole c =
    let g = and_parts (is_good_dimension b) (list_all is_good_dimension left) c.good in
    let d = good_dimension b g.0 in
    let small : extent b ≤ 2 ^ 32 = omega (arith, ints, extent-is b d, d.low, d.high) in
    let power : 2 ^ (32 * (i + 1)) ≡ 2 ^ (32 * i) * 2 ^ 32 = ap (λ n. 2 ^ n) (mul-add 32 i 1) ∙ pow-add 2 (32 * i) 32 in record {
      counted = mul_assoc count (extent b) (element_count left) ∙ c.counted;
      most = rw power (mul-le count (extent b) (2 ^ (32 * i)) (2 ^ 32) c.most small);
      good = g.1;
    }

module _ (bounds : List (ℤ × ℤ)) (i : ℕ) (d : ℤ × ℤ) (count whole : ℕ) (h : i < length bounds) (c : Counting count i (drop i bounds) whole) where
  first : Counting count i (get_or bounds i d ∷ drop (suc i) bounds) whole
  first = rw (← drop-cons bounds i d h) c

  pub counting-good : IsTrue (is_good_dimension (get_or bounds i d))
  counting-good = (and_parts (is_good_dimension (get_or bounds i d)) (list_all is_good_dimension (drop (suc i) bounds)) first.good).0

  pub counting-step : Counting (count * extent (get_or bounds i d)) (i + 1) (drop (i + 1) bounds) whole
  counting-step =
      let next = counting-next count i (get_or bounds i d) (drop (suc i) bounds) whole first in
      record { counted = rw add-one next.counted; most = next.most; good = rw add-one next.good }

-- a variable of a program has at most three dimensions
pub good_declaration : (v : Declaration) → IsTrue (is_good_declaration v) → IsTrue (list_all is_good_dimension v.bounds) × (length v.bounds ≤ 3)
good_declaration v h =
    let g = and_parts (list_all is_good_dimension v.bounds) (is_good_placing v.bounds v.axis v.spread) h in
    (g.0, few v.bounds v.axis v.spread g.1)

-- cells of two variables are apart: where places in them are one cell, the variables are one
pub same_variable : (vs : List Declaration) (i j p r : ℕ) → i < length vs → j < length vs → p < element_count (bounds_at vs i) → r < element_count (bounds_at vs j) → cells_in (take i vs) + p ≡ cells_in (take j vs) + r → i ≡ j
same_variable [] i j p r lt lt' small small' e = absurd (omega (arith, lt))
same_variable (v ∷ vs) zero zero p r lt lt' small small' e = refl
same_variable (v ∷ vs) zero (suc j) p r lt lt' small small' e = absurd (omega (arith, small, e))
same_variable (v ∷ vs) (suc i) zero p r lt lt' small small' e = absurd (omega (arith, small', e))
same_variable (v ∷ vs) (suc i) (suc j) p r lt lt' small small' e = ap suc (same_variable vs i j p r (omega (arith, lt)) (omega (arith, lt')) small small' (omega (arith, e)))
