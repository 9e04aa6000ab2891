-- Whole numbers as counts, and the interval of a loop by a block of no place.
use Rattle.std.proofs.Common.{◌≡◌, ◌≤◌, ℤ, SFits, w64, true, false, refl, arith}
use Rattle.std.proofs.lemmas.Bool.Decides.{nat_tests}
use Rattle.std.proofs.lemmas.Int.{ints}
use Rattle.nest_tree.specs.WellFormed.{is_value}
use Rattle.std.specs.Prelude.{pos, negsuc, int_lt, unsigned_abs}
use Rattle.nest_tree.specs.Layout.{count_of}

pub unsigned_count : (z : ℤ) → int_lt z (pos 0) ≡ false → unsigned_abs z ≡ count_of z
unsigned_count (pos n) h = refl
unsigned_count (negsuc n) h = absurd (let no : true ≡ false = h in cc)

-- a number of 64 bits is a value
pub value_64 : (z : ℤ) → SFits w64 z → is_value z ≡ true
value_64 (pos n) h = let few : n ≤ 9223372036854775807 = omega (arith, ints, h) in grind (arith, nat_tests)
value_64 (negsuc n) h = let few : n ≤ 9223372036854775807 = omega (arith, ints, h) in grind (arith, nat_tests)
