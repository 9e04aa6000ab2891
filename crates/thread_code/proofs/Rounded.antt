-- Quotients that are rounded down and up, and remainders that are never negative.
use Rattle.std.proofs.Common.{◌≡◌, ◌↔◌, ℕ, suc, ◌+◌, ◌*◌, ◌<◌, ℤ, pos, negsuc, ◌+ℤ◌, ◌-ℤ◌, ◌*ℤ◌, ◌≤ℤ◌, ◌<ℤ◌, int_div, int_rem, int_lt, Bool, true, false, if◌then◌else◌, refl, ap, sym, ◌∙◌, arith}
use Rattle.std.specs.Int.{int_rem_euclid}
use Rattle.std.proofs.lemmas.Int.{ints, quot-rem, rem_below}
use Rattle.list_lemmas.proofs.Integers.{add-mul}
use Rattle.owner_partition.proofs.Congruences.{Residue, residue_of}
use Rattle.thread_code.specs.Closed.{floored, modulo, one_if, raised}

-- ---- multiples of a number above 0

pub more_times : (x y : ℤ) (d m : ℕ) → y ≡ x +ℤ pos d → y *ℤ pos m ≡ x *ℤ pos m +ℤ pos (d * m)
more_times x y d m e = ap (λ z. z *ℤ pos m) e ∙ add-mul x (pos d) (pos m)

pub times_up : (x y : ℤ) (m : ℕ) → x ≤ℤ y → (x *ℤ pos m) ≤ℤ (y *ℤ pos m)
times_up x y m le = by (y -ℤ x) refl
  where
    by : (d : ℤ) → y -ℤ x ≡ d → (x *ℤ pos m) ≤ℤ (y *ℤ pos m)
    by (pos d) e = let more = more_times x y d m (omega (arith, ints, e)) in omega (arith, ints, more)
    by (negsuc d) e = absurd (omega (arith, ints, e, le))

pub times_back : (x y : ℤ) (m : ℕ) → (x *ℤ pos m) <ℤ (y *ℤ pos m +ℤ pos m) → x ≤ℤ y
times_back x y m lt = by (y -ℤ x) refl
  where
    by : (d : ℤ) → y -ℤ x ≡ d → x ≤ℤ y
    by (pos d) e = omega (arith, ints, e)
    by (negsuc d) e =
        let more = more_times y x (suc d) m (omega (arith, ints, e)) in
        let split : suc d * m ≡ m + d * m = omega arith in
        absurd (omega (arith, ints, more, split, lt))

-- ---- what the runtime's functions are

-- C's remainder is below the divisor on either side of 0
near : (a : ℤ) (m : ℕ) → (int_rem a (pos (suc m)) <ℤ pos (suc m)) × ((pos 0 -ℤ pos (suc m)) <ℤ int_rem a (pos (suc m)))
near a m = let below = rem_below a (pos (suc m)) (omega arith) in (omega (arith, ints, below), omega (arith, ints, below))

is_below : (a b : ℤ) → int_lt a b ≡ true → a <ℤ b
is_below a b h = grind (arith, ints, h)

not_below : (a b : ℤ) → int_lt a b ≡ false → b ≤ℤ a
not_below a b h = grind (arith, ints, h)

down_ends : (a q r : ℤ) (b : ℕ) (t : Bool) → q *ℤ pos b +ℤ r ≡ a → r <ℤ pos b → (pos 0 -ℤ pos b) <ℤ r → int_lt r (pos 0) ≡ t → (((q -ℤ one_if t) *ℤ pos b) ≤ℤ a) × (a <ℤ ((q -ℤ one_if t) *ℤ pos b +ℤ pos b))
down_ends a q r b true e high low test =
    let under = is_below r (pos 0) test in
    let less = more_times (q -ℤ pos 1) q 1 b (omega (arith, ints)) in
    let one : 1 * b ≡ b = omega arith in
    (omega (arith, ints, e, low, less, one), omega (arith, ints, e, under, less, one))
down_ends a q r b false e high low test =
    let over = not_below r (pos 0) test in
    let same : q -ℤ pos 0 ≡ q = omega (arith, ints) in
    let product = ap (λ z. z *ℤ pos b) same in
    (omega (arith, ints, e, over, product), omega (arith, ints, e, high, product))

up_ends : (a q r : ℤ) (b : ℕ) (t : Bool) → q *ℤ pos b +ℤ r ≡ a → r <ℤ pos b → (pos 0 -ℤ pos b) <ℤ r → int_lt (pos 0) r ≡ t → (a ≤ℤ ((q +ℤ one_if t) *ℤ pos b)) × (((q +ℤ one_if t) *ℤ pos b) <ℤ (a +ℤ pos b))
up_ends a q r b true e high low test =
    let over = is_below (pos 0) r test in
    let more = more_times q (q +ℤ pos 1) 1 b refl in
    let one : 1 * b ≡ b = omega arith in
    (omega (arith, ints, e, high, more, one), omega (arith, ints, e, over, more, one))
up_ends a q r b false e high low test =
    let under = not_below (pos 0) r test in
    let same : q +ℤ pos 0 ≡ q = omega (arith, ints) in
    let product = ap (λ z. z *ℤ pos b) same in
    (omega (arith, ints, e, under, product), omega (arith, ints, e, low, product))

pub floored_ends : (a : ℤ) (m : ℕ) → ((floored a (pos (suc m)) *ℤ pos (suc m)) ≤ℤ a) × (a <ℤ (floored a (pos (suc m)) *ℤ pos (suc m) +ℤ pos (suc m)))
floored_ends a m =
    let ends = near a m in
    down_ends a (int_div a (pos (suc m))) (int_rem a (pos (suc m))) (suc m) (int_lt (int_rem a (pos (suc m))) (pos 0)) (quot-rem a (pos (suc m))) ends.0 ends.1 refl

pub raised_ends : (a : ℤ) (m : ℕ) → (a ≤ℤ (raised a (pos (suc m)) *ℤ pos (suc m))) × ((raised a (pos (suc m)) *ℤ pos (suc m)) <ℤ (a +ℤ pos (suc m)))
raised_ends a m =
    let ends = near a m in
    up_ends a (int_div a (pos (suc m))) (int_rem a (pos (suc m))) (suc m) (int_lt (pos 0) (int_rem a (pos (suc m)))) (quot-rem a (pos (suc m))) ends.0 ends.1 refl

pub floored_is : (a : ℤ) (m : ℕ) (x : ℤ) → (x ≤ℤ floored a (pos (suc m))) ↔ ((x *ℤ pos (suc m)) ≤ℤ a)
floored_is a m x = by (floored a (pos (suc m))) (floored_ends a m)
  where
    by : (f : ℤ) → ((f *ℤ pos (suc m)) ≤ℤ a) × (a <ℤ (f *ℤ pos (suc m) +ℤ pos (suc m))) → (x ≤ℤ f) ↔ ((x *ℤ pos (suc m)) ≤ℤ a)
    by f (low, high) = ((λ h. let up = times_up x f (suc m) h in omega (arith, ints, up, low)), λ h. times_back x f (suc m) (omega (arith, ints, h, high)))

pub raised_is : (a : ℤ) (m : ℕ) (x : ℤ) → (raised a (pos (suc m)) ≤ℤ x) ↔ (a ≤ℤ (x *ℤ pos (suc m)))
raised_is a m x = by (raised a (pos (suc m))) (raised_ends a m)
  where
    by : (f : ℤ) → (a ≤ℤ (f *ℤ pos (suc m))) × ((f *ℤ pos (suc m)) <ℤ (a +ℤ pos (suc m))) → (f ≤ℤ x) ↔ (a ≤ℤ (x *ℤ pos (suc m)))
    by f (low, high) = ((λ h. let up = times_up f x (suc m) h in omega (arith, ints, up, low)), λ h. times_back f x (suc m) (omega (arith, ints, h, high)))

-- two ways to write a number as a multiple and a rest
pub same_rest : (x y : ℤ) (m r t : ℕ) → r < m → t < m → x *ℤ pos m +ℤ pos r ≡ y *ℤ pos m +ℤ pos t → r ≡ t
same_rest x y m r t low high e =
    let one = times_back x y m (omega (arith, ints, e, low, high)) in
    let two = times_back y x m (omega (arith, ints, e, low, high)) in
    let equal : x ≡ y = omega (arith, ints, one, two) in
    omega (arith, ints, e, ap (λ z. z *ℤ pos m) equal)

-- a whole number from 0 on
pub natural : (z : ℤ) → pos 0 ≤ℤ z → (n : ℕ) × (z ≡ pos n)
natural (pos n) h = (n, refl)
natural (negsuc n) h = absurd (omega (arith, ints, h))

pub modulo_is : (a : ℤ) (m : ℕ) → modulo a (pos (suc m)) ≡ int_rem_euclid a (pos (suc m))
modulo_is a m =
    let ends = near a m in
    by (int_lt (int_rem a (pos (suc m))) (pos 0)) (int_div a (pos (suc m))) (int_rem a (pos (suc m))) (residue_of (suc m) a (omega arith)) (quot-rem a (pos (suc m))) ends.0 ends.1 refl
  where
    same : (q y : ℤ) (s : Residue (suc m) a) → q *ℤ pos (suc m) +ℤ y ≡ a → pos 0 ≤ℤ y → y <ℤ pos (suc m) → y ≡ int_rem_euclid a (pos (suc m))
    same q y s e low high =
        let n = natural y low in
        let left = more_times q (q +ℤ pos s.up) s.up (suc m) refl in
        let right : pos s.down *ℤ pos (suc m) ≡ pos (s.down * suc m) = refl in
        let whole : (q +ℤ pos s.up) *ℤ pos (suc m) +ℤ pos n.0 ≡ pos s.down *ℤ pos (suc m) +ℤ pos s.residue = omega (arith, ints, left, right, e, n.1, s.same) in
        let below : n.0 < suc m = omega (arith, ints, high, n.1) in
        n.1 ∙ ap pos (same_rest (q +ℤ pos s.up) (pos s.down) (suc m) n.0 s.residue below s.below whole) ∙ sym s.is

    by : (t : Bool) (q r : ℤ) → Residue (suc m) a → q *ℤ pos (suc m) +ℤ r ≡ a → r <ℤ pos (suc m) → (pos 0 -ℤ pos (suc m)) <ℤ r → int_lt r (pos 0) ≡ t → (if t then r +ℤ pos (suc m) else r) ≡ int_rem_euclid a (pos (suc m))
    by true q r s e high low test =
        let under = is_below r (pos 0) test in
        let less = more_times (q -ℤ pos 1) q 1 (suc m) (omega (arith, ints)) in
        let one : 1 * suc m ≡ suc m = omega arith in
        same (q -ℤ pos 1) (r +ℤ pos (suc m)) s (omega (arith, ints, e, less, one)) (omega (arith, ints, low)) (omega (arith, ints, under))
    by false q r s e high low test = same q r s e (not_below r (pos 0) test) high
