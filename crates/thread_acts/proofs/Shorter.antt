-- Shorter ways to write own trips, where a step, a coefficient, a divisor, a factor or a stride is 1.
use Rattle.std.proofs.Common.{◌≡◌, ℕ, ◌*◌, ◌/◌, ◌%◌, ◌<◌, ◌==◌, ℤ, pos, negsuc, ◌+ℤ◌, ◌-ℤ◌, ◌*ℤ◌, ◌≤ℤ◌, ◌<ℤ◌, int_div, int_rem, int_lt, unsigned_abs, Bool, true, false, cond, [], if◌then◌else◌, ◌⊎◌, inl, inr, refl, ap, ap₂, subst, ◌∙◌, arith}
use Rattle.std.specs.Int.{int_max, int_min}
use Rattle.std.proofs.Math.Nat.{div-lt_iff_lt-mul, mod-eq_of_lt, pos_of_dvd_of_pos}
use Rattle.std.proofs.lemmas.Bool.{eq-eqb}
use Rattle.std.proofs.lemmas.Int.{ints, quot-rem, rem_below}
use Rattle.std.proofs.lemmas.Nat.Gcd.{mod-eq-zero_of_dvd}
use Rattle.nest_model.specs.Instances.{trips}
use Rattle.thread_code.specs.Closed.{IsTurningOf, floored, raised, turn_from}
use Rattle.thread_code.proofs.Rounded.{floored_ends, raised_ends}
use Rattle.thread_acts.specs.ThreadDeeds.{last_trip}

pub raised_one : (a : ℤ) → raised a (pos 1) ≡ a
raised_one a = by (raised a (pos 1)) (raised_ends a 0)
  where
    by : (z : ℤ) → (a ≤ℤ (z *ℤ pos 1)) × ((z *ℤ pos 1) <ℤ (a +ℤ pos 1)) → z ≡ a
    by z ends = omega (arith, ints, ends)

pub floored_one : (a : ℤ) → floored a (pos 1) ≡ a
floored_one a = by (floored a (pos 1)) (floored_ends a 0)
  where
    by : (z : ℤ) → ((z *ℤ pos 1) ≤ℤ a) × (a <ℤ (z *ℤ pos 1 +ℤ pos 1)) → z ≡ a
    by z ends = omega (arith, ints, ends)

-- the greater and the lesser of two
greater : (a b : ℤ) → ((int_max a b ≡ a) × (b ≤ℤ a)) ⊎ ((int_max a b ≡ b) × (a ≤ℤ b))
greater a b = by (int_lt b a) refl
  where
    by : (t : Bool) → int_lt b a ≡ t → ((cond t a b ≡ a) × (b ≤ℤ a)) ⊎ ((cond t a b ≡ b) × (a ≤ℤ b))
    by true e = inl (refl, grind (arith, ints, e))
    by false e = inr (refl, grind (arith, ints, e))

lesser : (a b : ℤ) → ((int_min a b ≡ b) × (b ≤ℤ a)) ⊎ ((int_min a b ≡ a) × (a ≤ℤ b))
lesser a b = by (int_lt b a) refl
  where
    by : (t : Bool) → int_lt b a ≡ t → ((cond t b a ≡ b) × (b ≤ℤ a)) ⊎ ((cond t b a ≡ a) × (a ≤ℤ b))
    by true e = inl (refl, grind (arith, ints, e))
    by false e = inr (refl, grind (arith, ints, e))

pub first_upwards : (m1 low : ℤ) → m1 +ℤ (int_max (pos 0) (raised (low -ℤ m1) (pos 1)) *ℤ pos 1) ≡ int_max m1 low
first_upwards m1 low = ap (λ z. m1 +ℤ (int_max (pos 0) z *ℤ pos 1)) (raised_one (low -ℤ m1)) ∙ by (greater (pos 0) (low -ℤ m1)) (greater m1 low)
  where
    by : {x y : ℤ} → ((x ≡ pos 0) × ((low -ℤ m1) ≤ℤ pos 0)) ⊎ ((x ≡ low -ℤ m1) × (pos 0 ≤ℤ (low -ℤ m1))) → ((y ≡ m1) × (low ≤ℤ m1)) ⊎ ((y ≡ low) × (m1 ≤ℤ low)) → m1 +ℤ (x *ℤ pos 1) ≡ y
    by (inl a) (inl b) = omega (arith, ints, a, b)
    by (inl a) (inr b) = omega (arith, ints, a, b)
    by (inr a) (inl b) = omega (arith, ints, a, b)
    by (inr a) (inr b) = omega (arith, ints, a, b)

pub first_downwards : (m1 high : ℤ) → m1 +ℤ (int_max (pos 0) (raised (m1 -ℤ high) (pos 1)) *ℤ negsuc 0) ≡ int_min m1 high
first_downwards m1 high = ap (λ z. m1 +ℤ (int_max (pos 0) z *ℤ negsuc 0)) (raised_one (m1 -ℤ high)) ∙ by (greater (pos 0) (m1 -ℤ high)) (lesser m1 high)
  where
    by : {x y : ℤ} → ((x ≡ pos 0) × ((m1 -ℤ high) ≤ℤ pos 0)) ⊎ ((x ≡ m1 -ℤ high) × (pos 0 ≤ℤ (m1 -ℤ high))) → ((y ≡ high) × (high ≤ℤ m1)) ⊎ ((y ≡ m1) × (m1 ≤ℤ high)) → m1 +ℤ (x *ℤ negsuc 0) ≡ y
    by (inl a) (inl b) = omega (arith, ints, a, b)
    by (inl a) (inr b) = omega (arith, ints, a, b)
    by (inr a) (inl b) = omega (arith, ints, a, b)
    by (inr a) (inr b) = omega (arith, ints, a, b)

-- ---- in turn

-- nothing is asked where the divisor is 1
pub any_divided : (factor stride : ℕ) (m1 m2 s : ℤ) (y : ℕ) → turn_from (record { divisor = 1; factor = factor; stride = stride }) m1 m2 s y ≡ trips (m1 +ℤ (pos (y * factor % stride) *ℤ s)) m2 (pos stride *ℤ s)
any_divided factor stride m1 m2 s y =
    let whole : y / 1 ≡ y = omega arith in
    let rest : y % 1 ≡ 0 = omega arith in
    ap (λ (b : Bool). if b then trips (m1 +ℤ (pos (y / 1 * factor % stride) *ℤ s)) m2 (pos stride *ℤ s) else []) (eq-eqb (y % 1) 0 rest)
    ∙ ap (λ q. trips (m1 +ℤ (pos (q * factor % stride) *ℤ s)) m2 (pos stride *ℤ s)) whole

-- each trip of those that are asked is made where the stride is 1
pub each_trip : (divisor factor : ℕ) (m1 m2 s : ℤ) (y : ℕ) → turn_from (record { divisor = divisor; factor = factor; stride = 1 }) m1 m2 s y ≡ (if y % divisor == 0 then trips m1 m2 s else [])
each_trip divisor factor m1 m2 s y =
    let rest : y / divisor * factor % 1 ≡ 0 = omega arith in
    let first : m1 +ℤ (pos 0 *ℤ s) ≡ m1 = omega (arith, ints) in
    let once : pos 1 *ℤ s ≡ s = omega (arith, ints) in
    ap₂ (λ a b. if y % divisor == 0 then trips a m2 b else []) (ap (λ n. m1 +ℤ (pos n *ℤ s)) rest ∙ first) once

-- the factor 1 is left out
pub factor_one : (workers rest divisor stride : ℕ) (y : ℕ) → IsTurningOf workers rest (record { divisor = divisor; factor = 1; stride = stride }) → y < workers → y / divisor * 1 % stride ≡ y / divisor
factor_one workers rest divisor stride y t below =
    let some : 0 < workers = omega (arith, below) in
    let long = pos_of_dvd_of_pos t.of_workers some in
    let none = mod-eq-zero_of_dvd divisor t.of_workers in
    let exact : workers ≡ divisor * (workers / divisor) = omega (arith, none) in
    let few : y / divisor < workers / divisor = less y divisor (workers / divisor) long (subst (λ n. y < n) exact below) in
    let once : y / divisor * 1 ≡ y / divisor = omega arith in
    ap₂ (λ q n. q % n) once t.stride ∙ mod-eq_of_lt few
  where
    less : (y d c : ℕ) → 0 < d → y < d * c → y / d < c
    less y d c some lt = (div-lt_iff_lt-mul some).1 (omega (arith, lt))

-- ---- the last trip

pub last_upwards : (m1 m2 : ℤ) → last_trip m1 m2 (pos 1) ≡ m2
last_upwards m1 m2 = let whole : int_div (m2 -ℤ m1) (pos 1) ≡ m2 -ℤ m1 = omega (arith, ints) in ap (λ z. m1 +ℤ (z *ℤ pos 1)) whole ∙ omega (arith, ints)

pub last_downwards : (m1 m2 : ℤ) → last_trip m1 m2 (negsuc 0) ≡ m2
last_downwards m1 m2 = by (int_div (m2 -ℤ m1) (negsuc 0)) (int_rem (m2 -ℤ m1) (negsuc 0)) (quot-rem (m2 -ℤ m1) (negsuc 0)) (rem_below (m2 -ℤ m1) (negsuc 0) (omega arith))
  where
    by : (q r : ℤ) → q *ℤ negsuc 0 +ℤ r ≡ m2 -ℤ m1 → unsigned_abs r < 1 → m1 +ℤ (q *ℤ negsuc 0) ≡ m2
    by q r e low = omega (arith, ints, e, low)
