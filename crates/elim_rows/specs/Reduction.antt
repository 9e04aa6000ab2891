-- Rows in their lowest terms.
use Rattle.std.specs.Prelude.{ℕ, ℤ, pos, negsuc, int_div, unsigned_abs, max, List, [], ◌∷◌, map, ◌≡◌, refl}
use Rattle.std.specs.Int.{int_div_euclid, ◌∣◌}
use Rattle.std.specs.List.{All}
use Rattle.farkas_cert.specs.declared.system.Row.{Row}

-- d divides each of these numbers
abbrev pub DividesEach : ℕ → List ℤ → Type 0
DividesEach d coefs = All (λ a. d ∣ unsigned_abs a) coefs

-- the greatest common divisor: each number that divides them all divides it (where all are 0, it is 0)
abbrev pub IsCommonDivisor : List ℤ → ℕ → Type 0
IsCommonDivisor coefs g = DividesEach g coefs × ((d : ℕ) → DividesEach d coefs → d ∣ g)

-- the row divided by d, which divides its coefficients: the bound is rounded down
abbrev pub divided : ℕ → Row → Row
divided d row = record {
  coefs = map (λ a. int_div a (pos d)) row.coefs;
  bound = int_div_euclid row.bound (pos d);
}

-- the row is the raw one, reduced by g, the greatest common divisor of its coefficients (by 1 where all are 0)
abbrev pub IsReducedBy : ℕ → Row → Row → Type 0
IsReducedBy g raw row = IsCommonDivisor raw.coefs g × (row ≡ divided (max g 1) raw)

-- the row is the raw one, reduced
abbrev pub IsReduced : Row → Row → Type 0
IsReduced raw row = (g : ℕ) × IsReducedBy g raw row

-- 4 * i - 6 * j <= 3, halved, is 2 * i - 3 * j <= 1
pub divided-example : divided 2 (record { coefs = pos 4 ∷ negsuc 5 ∷ []; bound = pos 3 })
    ≡ record { coefs = pos 2 ∷ negsuc 2 ∷ []; bound = pos 1 }
divided-example = refl

-- - 2 * i <= - 1, halved, is - i <= - 1
pub divided-below_zero : divided 2 (record { coefs = negsuc 1 ∷ []; bound = negsuc 0 })
    ≡ record { coefs = negsuc 0 ∷ []; bound = negsuc 0 }
divided-below_zero = refl
