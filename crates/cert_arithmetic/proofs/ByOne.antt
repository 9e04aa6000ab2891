-- A division by 1 leaves nothing, and gives the number back.
use Rattle.std.proofs.Common.{◌≡◌, suc, ℤ, pos, negsuc, int_div, int_rem, if◌then◌else◌, Some, None, refl}
use Rattle.std.specs.Int.{int_div_euclid}
use Rattle.std.specs.Ordering.{int_eq}
use Rattle.std.proofs.Math.Nat.{div-one, mod-one}

pub exact_by_one : (z : ℤ) → Some z ≡ (if int_eq (int_rem z (pos 1)) (pos 0) then Some (int_div z (pos 1)) else None)
exact_by_one (pos n) = rw (div-one n, mod-one n) refl
exact_by_one (negsuc n) = rw (div-one (suc n), mod-one (suc n)) refl

pub floor_by_one : (z : ℤ) → z ≡ int_div_euclid z (pos 1)
floor_by_one (pos n) = rw (div-one n) refl
floor_by_one (negsuc n) = rw (div-one n) refl
