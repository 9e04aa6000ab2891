-- The row that a step makes of the rows before it.
use Rattle.std.specs.Prelude.{ℕ, ◌-◌, ℤ, pos, negsuc, ◌+ℤ◌, ◌*ℤ◌, int_div, Bool, true, ◌&&◌, nat_lt, if◌then◌else◌, List, [], ◌∷◌, map, slice_index_or, ◌≡◌, refl}
use Rattle.std.specs.Int.{int_div_euclid}
use Rattle.std.specs.List.{range_with_len}
pub use Rattle.cert_arithmetic.specs.Numbers.{is_narrow}
use Rattle.farkas_cert.specs.declared.system.Row.{Row}
use Rattle.farkas_cert.specs.declared.certificate.Step.{Step}

-- 0 <= 0
abbrev pub no_row : Row
no_row = record { coefs = []; bound = pos 0 }

-- the row with this number, from 1
abbrev pub row_at : List Row → ℕ → Row
row_at rows number = slice_index_or rows (number - 1) no_row

-- the entry k of a row: its coefficients, counted from 0, then the bound
abbrev pub entry_at : ℕ → Row → ℕ → ℤ
entry_at vars row k = if nat_lt k vars then slice_index_or row.coefs k (pos 0) else row.bound

-- the products of a step at entry k, in the order of its terms: multiplier times the entry of the row that it names
abbrev pub products_at : ℕ → List Row → List (ℕ × ℤ) → ℕ → List ℤ
products_at vars rows terms k = map (λ t. t.1 *ℤ entry_at vars (row_at rows t.0) k) terms

abbrev pub total : List ℤ → ℤ
total [] = pos 0
total (p ∷ products) = p +ℤ total products

-- what a step sums at entry k
abbrev pub sum_at : ℕ → List Row → List (ℕ × ℤ) → ℕ → ℤ
sum_at vars rows terms k = total (products_at vars rows terms k)

-- the row that a step makes: the quotients of the coefficients, and that of the bound rounded down
abbrev pub made_row : ℕ → List Row → Step → Row
made_row vars rows step = record {
  coefs = map
      (λ k. int_div (sum_at vars rows step.terms k) step.divisor) (range_with_len 0 vars);
  bound = int_div_euclid (sum_at vars rows step.terms vars) step.divisor;
}

-- each product is narrow, and so is each running sum of them, from this sum on
abbrev pub stays_narrow : ℤ → List ℤ → Bool
stays_narrow sum [] = true
stays_narrow sum (p ∷ products) =
    is_narrow p && is_narrow (sum +ℤ p) && stays_narrow (sum +ℤ p) products

-- 2 * i - 2 * j <= 1, halved, is i - j <= 0
pub made_row-example : made_row 2 (record { coefs = pos 2 ∷ negsuc 1 ∷ []; bound = pos 1 } ∷ [])
    (record { divisor = pos 2; terms = (1, pos 1) ∷ [] })
    ≡ record { coefs = pos 1 ∷ negsuc 0 ∷ []; bound = pos 0 }
made_row-example = refl

-- and so is - 2 * i <= - 1: - i <= - 1
pub made_row-below_zero : made_row 1 (record { coefs = negsuc 1 ∷ []; bound = negsuc 0 } ∷ [])
    (record { divisor = pos 2; terms = (1, pos 1) ∷ [] })
    ≡ record { coefs = negsuc 0 ∷ []; bound = negsuc 0 }
made_row-below_zero = refl
