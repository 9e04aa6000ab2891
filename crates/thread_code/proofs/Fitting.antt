-- Products and sums that fit their type.
use Rattle.std.proofs.Common.{◌^◌, ◌≤◌, ℤ, pos, negsuc, ◌+ℤ◌, ◌*ℤ◌, FitsSigned, unsigned_abs, w64, arith}
use Rattle.std.specs.Int.{w128}
use Rattle.std.proofs.lemmas.Int.{fits_signed_from_abs, ints, unsigned_abs-mul}
use Rattle.std.proofs.lemmas.Nat.{mul-le}

abs_small : (a : ℤ) → FitsSigned w64 a → unsigned_abs a ≤ 2 ^ 63
abs_small (pos n) f = omega (arith, f.sfits)
abs_small (negsuc n) f = omega (arith, f.sfits)

pub product_near : (a b : ℤ) → FitsSigned w64 a → FitsSigned w64 b → unsigned_abs (a *ℤ b) ≤ 2 ^ 126
product_near a b f g =
    let size = mul-le (unsigned_abs a) (unsigned_abs b) (2 ^ 63) (2 ^ 63) (abs_small a f) (abs_small b g) in
    omega (arith, unsigned_abs-mul a b, size)

pub product_fits : (a b : ℤ) → FitsSigned w64 a → FitsSigned w64 b → FitsSigned w128 (a *ℤ b)
product_fits a b f g = let near = product_near a b f g in fits_signed_from_abs w128 (a *ℤ b) (omega (arith, near))

pub sum_fits : (a b : ℤ) → FitsSigned w64 a → unsigned_abs b ≤ 2 ^ 126 → FitsSigned w128 (a +ℤ b)
sum_fits a b f near = let small = abs_small a f in fits_signed_from_abs w128 (a +ℤ b) (omega (arith, ints, small, near))
