-- Values in equal steps.
use Rattle.std.proofs.Common.{◌≡◌, ℕ, zero, suc, ◌+◌, ◌-◌, ◌<◌, ◌≤◌, ◌^◌, ℤ, pos, negsuc, ◌+ℤ◌, ◌-ℤ◌, ◌*ℤ◌, true, false, ◌∷◌, map, length, w64, FitsSigned, unsigned_abs, of_z, int_lt, refl, ap, sym, ◌∙◌, arith}
use Rattle.std.specs.List.{list_all, range_with_len}
use Rattle.std.specs.Prelude.{int_div}
use Rattle.std.proofs.lemmas.Bool.{and_parts, leb-true, ltb-false}
use Rattle.std.proofs.lemmas.Int.{ints, int_wrap_fits, fits_signed_from_abs}
use Rattle.std.proofs.Math.Nat.{div-le_self}
use Rattle.nest_tree.specs.Form.{is_small}
use Rattle.nest_tree.specs.Layout.{count_of}
use Rattle.nest_tree.specs.Values.{wrapped}
use Rattle.nest_walk.specs.Progressions.{progression}

shift : (first step : ℤ) (a count : ℕ) →
    map (λ n. first +ℤ (pos n *ℤ step)) (range_with_len (a + 1) count) ≡ map (λ n. first +ℤ step +ℤ (pos n *ℤ step)) (range_with_len a count)
shift first step a zero = refl
shift first step a (suc count) =
    let here : first +ℤ (pos (a + 1) *ℤ step) ≡ first +ℤ step +ℤ (pos a *ℤ step) = omega (arith, ints) in
    ap (λ x. x ∷ map (λ n. first +ℤ (pos n *ℤ step)) (range_with_len (a + 1 + 1) count)) here
    ∙ ap (λ xs. (first +ℤ step +ℤ (pos a *ℤ step)) ∷ xs) (shift first step (a + 1) count)

pub progression-more : (first step : ℤ) (count : ℕ) → progression first step (suc count) ≡ first ∷ progression (first +ℤ step) step count
progression-more first step count =
    let here : first +ℤ (pos 0 *ℤ step) ≡ first = omega (arith, ints) in
    ap (λ x. x ∷ map (λ n. first +ℤ (pos n *ℤ step)) (range_with_len 1 count)) here ∙ ap (λ xs. first ∷ xs) (shift first step 0 count)

pub small_fits : (z : ℤ) → is_small z ≡ true → FitsSigned w64 z
small_fits z h =
    let le : unsigned_abs z ≤ 2147483647 = leb-true (unsigned_abs z) 2147483647 h in
    fits_signed_from_abs w64 z (omega arith)

pub small_wrapped : (z : ℤ) → is_small z ≡ true → wrapped z ≡ z
small_wrapped z h = int_wrap_fits w64 z (small_fits z h)

-- the next value is taken
pub taken : (next step : ℤ) (count : ℕ) → 0 < length (progression next step count) → list_all is_small (progression next step count) ≡ true →
    progression next step count ≡ next ∷ progression (wrapped (next +ℤ pos 1 *ℤ step)) step (count - 1)
taken next step zero some small = absurd (omega arith)
taken next step (suc zero) some small = progression-more next step zero
taken next step (suc (suc count)) some small =
    let more = progression-more next step (suc count) in
    let all : list_all is_small (next ∷ progression (next +ℤ step) step (suc count)) ≡ true = ap (list_all is_small) (sym more) ∙ small in
    let later : list_all is_small (progression (next +ℤ step) step (suc count)) ≡ true = (and_parts (is_small next) _ all).1 in
    let second : list_all is_small ((next +ℤ step) ∷ progression (next +ℤ step +ℤ step) step count) ≡ true = ap (list_all is_small) (sym (progression-more (next +ℤ step) step count)) ∙ later in
    let fits = small_wrapped (next +ℤ step) (and_parts (is_small (next +ℤ step)) _ second).0 in
    let sum : next +ℤ pos 1 *ℤ step ≡ next +ℤ step = omega (arith, ints) in
    let before : suc count ≡ suc (suc count) - 1 = omega arith in
    more ∙ ap (λ z. next ∷ progression z step (suc count)) (sym (ap wrapped sum ∙ fits)) ∙ ap (λ k. next ∷ progression (wrapped (next +ℤ pos 1 *ℤ step)) step k) before

-- how many trips
pub abs-int_div : (a d : ℤ) → unsigned_abs (int_div a d) ≤ unsigned_abs a
abs-int_div (pos a) (pos b) = div-le_self a b
abs-int_div (pos a) (negsuc b) = omega (arith, ints, div-le_self a (suc b))
abs-int_div (negsuc a) (pos b) = omega (arith, ints, div-le_self (suc a) b)
abs-int_div (negsuc a) (negsuc b) = div-le_self (suc a) (suc b)

pub span_fits : (m1 m2 : ℤ) → is_small m1 ≡ true → is_small m2 ≡ true → FitsSigned w64 (m2 -ℤ m1)
span_fits m1 m2 h1 h2 =
    let a = leb-true (unsigned_abs m1) 2147483647 h1 in
    let b = leb-true (unsigned_abs m2) 2147483647 h2 in
    fits_signed_from_abs w64 (m2 -ℤ m1) (omega (arith, ints, a, b))

pub sum_fits : (m1 m2 m3 : ℤ) → is_small m1 ≡ true → is_small m2 ≡ true → is_small m3 ≡ true → FitsSigned w64 (m2 -ℤ m1 +ℤ m3)
sum_fits m1 m2 m3 h1 h2 h3 =
    let a = leb-true (unsigned_abs m1) 2147483647 h1 in
    let b = leb-true (unsigned_abs m2) 2147483647 h2 in
    let c = leb-true (unsigned_abs m3) 2147483647 h3 in
    fits_signed_from_abs w64 (m2 -ℤ m1 +ℤ m3) (omega (arith, ints, a, b, c))

pub quotient_fits : (m1 m2 m3 : ℤ) → is_small m1 ≡ true → is_small m2 ≡ true → is_small m3 ≡ true → FitsSigned w64 (int_div (m2 -ℤ m1 +ℤ m3) m3)
quotient_fits m1 m2 m3 h1 h2 h3 =
    let a = leb-true (unsigned_abs m1) 2147483647 h1 in
    let b = leb-true (unsigned_abs m2) 2147483647 h2 in
    let c = leb-true (unsigned_abs m3) 2147483647 h3 in
    let near : unsigned_abs (m2 -ℤ m1 +ℤ m3) < 2 ^ 63 = omega (arith, ints, a, b, c) in
    fits_signed_from_abs w64 (int_div (m2 -ℤ m1 +ℤ m3) m3) (omega (arith, near, abs-int_div (m2 -ℤ m1 +ℤ m3) m3))

pub nonzero_bits : (z : ℤ) → FitsSigned w64 z → 0 < unsigned_abs z → 0 < of_z w64 z
nonzero_bits (pos n) f h = h
nonzero_bits (negsuc n) f h = omega (arith, f.sfits)

pub count_some : (q : ℤ) → int_lt (pos 0) q ≡ true → unsigned_abs q ≡ count_of q
count_some (pos n) h = refl
count_some (negsuc n) h = cc

pub count_none : (q : ℤ) → int_lt (pos 0) q ≡ false → 0 ≡ count_of q
count_none (pos zero) h = refl
count_none (pos (suc n)) h = let le = ltb-false 0 (suc n) h in absurd (omega arith)
count_none (negsuc n) h = refl
