-- Quotients in 64 bits.
use Rattle.std.proofs.Common.{◌≡◌, ℕ, zero, suc, ◌-◌, ◌/◌, ◌%◌, ◌^◌, ◌<◌, ℤ, pos, negsuc, neg_ℤ, unsigned_abs, FitsSigned, w64, ap, refl, arith, to_z, of_z}
use Rattle.std.proofs.Math.Nat.{div-le_self}
use Rattle.std.specs.Int.{int_wrap}
use Rattle.std.specs.Prelude.{int_div}
use Rattle.nest_tree.specs.Values.{wrapped, quotient}

-- the other sign has the same size
pub abs_neg : (n : ℕ) → unsigned_abs (neg_ℤ (pos n)) ≡ n
abs_neg zero = refl
abs_neg (suc n) = refl

-- a quotient's size is the quotient of the sizes
pub int_div-abs : (a d : ℤ) → unsigned_abs (int_div a d) ≡ unsigned_abs a / unsigned_abs d
int_div-abs (pos a) (pos d) = refl
int_div-abs (pos a) (negsuc d) = abs_neg (a / suc d)
int_div-abs (negsuc a) (pos d) = abs_neg (suc a / d)
int_div-abs (negsuc a) (negsuc d) = refl

-- a whole number below 2 ^ 64 in size, cast to 64 bits and back, is its value
pub wrapped_small : (z : ℤ) → unsigned_abs z < 2 ^ 64 → to_z w64 (of_z w64 z) ≡ wrapped z
unfolding int_wrap
wrapped_small (pos n) lt = ap (to_z w64) {y = n % 2 ^ 64} (omega arith)
wrapped_small (negsuc n) lt = ap (to_z w64) {y = 2 ^ 64 - 1 - n % 2 ^ 64} (omega arith)

-- a quotient of 64 bits, cast, is the quotient of the values
pub quotient_cast : (a d : ℤ) → FitsSigned w64 a → to_z w64 (of_z w64 (int_div a d)) ≡ quotient a d
quotient_cast a d f =
    let small : unsigned_abs a < 2 ^ 64 = abs_small a f in
    let h : unsigned_abs (int_div a d) < 2 ^ 64 = omega (arith, int_div-abs a d, div-le_self (unsigned_abs a) (unsigned_abs d)) in
    wrapped_small (int_div a d) h
  where
    abs_small : (a : ℤ) → FitsSigned w64 a → unsigned_abs a < 2 ^ 64
    abs_small (pos n) f = omega (arith, f.sfits)
    abs_small (negsuc n) f = omega (arith, f.sfits)
