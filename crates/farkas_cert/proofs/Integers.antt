-- Products and quotients of whole numbers.
use Rattle.std.proofs.Common.{◌≡◌, ◌+◌, ◌*◌, ◌/◌, ◌≤◌, ◌<◌, ℤ, pos, negsuc, ◌*ℤ◌, ◌≤ℤ◌, int_div, int_rem, arith}
use Rattle.std.specs.Int.{int_div_euclid}
use Rattle.std.proofs.Math.Nat.{mul-le-mul_left, le-div_iff_mul-le, div-lt_iff_lt-mul}
use Rattle.std.proofs.Math.IntN.{*ℤ_comm}
use Rattle.std.proofs.lemmas.Int.{ints, quot-rem}
use borrow.Author.Differences.{le_out}

-- a multiplier of at least 0 keeps an order
pub mul_le_ℤ : (m a b : ℤ) → pos 0 ≤ℤ m → a ≤ℤ b → (m *ℤ a) ≤ℤ (m *ℤ b)
mul_le_ℤ (pos n) a b h k = omega (arith, ints, mul-le-mul_left n (le_out a b k))
mul_le_ℤ (negsuc n) a b h k = absurd (omega (arith, ints))

-- a divisor that leaves nothing gives the number back
pub div_exact : (a d : ℤ) → int_rem a d ≡ pos 0 → d *ℤ int_div a d ≡ a
div_exact a d h = omega (arith, ints, quot-rem a d, *ℤ_comm d (int_div a d), h)

-- what is at most a bound when multiplied by the divisor, is at most the rounded quotient
pub le_div_euclid : (d z b : ℤ) → pos 1 ≤ℤ d → (d *ℤ z) ≤ℤ b → z ≤ℤ int_div_euclid b d
le_div_euclid (negsuc n) z b h k = absurd (omega (arith, ints))
le_div_euclid (pos n) (pos q) (pos m) h k =
    let positive : 0 < n = omega (arith, ints) in
    let fits : q * n ≤ m = omega (arith, ints) in
    let quotient : q ≤ m / n = (le-div_iff_mul-le positive).1 fits in omega (arith, ints)
le_div_euclid (pos n) (negsuc q) (pos m) h k = omega (arith, ints)
le_div_euclid (pos n) (pos q) (negsuc m) h k = absurd (omega (arith, ints))
le_div_euclid (pos n) (negsuc q) (negsuc m) h k =
    let positive : 0 < n = omega (arith, ints) in
    let fits : m < (q + 1) * n = omega (arith, ints) in
    let quotient : m / n < q + 1 = (div-lt_iff_lt-mul positive).1 fits in omega (arith, ints)
