-- Pairs of rows of opposite sign, and their least combination.
use Rattle.std.specs.Prelude.{ℕ, ◌-◌, ◌/◌, ◌≤◌, ℤ, pos, negsuc, ◌+ℤ◌, ◌*ℤ◌, ◌<ℤ◌, unsigned_abs, false, IsTrue, List, [], ◌∷◌, slice_index_or, ◌≡◌, refl}
use Rattle.std.specs.Int.{IsGcd}
use Rattle.farkas_cert.specs.declared.system.Row.{Row}
use Rattle.farkas_cert.specs.Combination.{entry_at, stays_narrow}

-- the coefficient of a variable, numbered from 1
abbrev pub coef_of : ℕ → Row → ℤ
coef_of variable row = slice_index_or row.coefs (variable - 1) (pos 0)

-- the first row bounds the variable from above, the other from below, and m and n are the least multipliers by which it cancels: the size of the other's coefficient over the greatest common divisor of both
pub record IsPair (variable : ℕ) (upper lower : Row) (m n : ℤ) : Type 0 where
  pub above : pos 0 <ℤ coef_of variable upper
  pub below : coef_of variable lower <ℤ pos 0
  pub divisor : ℕ
  pub common : IsGcd (unsigned_abs (coef_of variable upper)) (unsigned_abs (coef_of variable lower))
      divisor
  pub upper_times : m ≡ pos (unsigned_abs (coef_of variable lower) / divisor)
  pub lower_times : n ≡ pos (unsigned_abs (coef_of variable upper) / divisor)

-- m * a + n * b, for each a with its b
abbrev pub combined : ℤ → List ℤ → ℤ → List ℤ → List ℤ
combined m [] n bs = []
combined m (a ∷ as') n [] = []
combined m (a ∷ as') n (b ∷ bs) = (m *ℤ a +ℤ n *ℤ b) ∷ combined m as' n bs

-- m times the first row and n times the other
abbrev pub combination : ℤ → Row → ℤ → Row → Row
combination m upper n lower = record {
  coefs = combined m upper.coefs n lower.coefs;
  bound = m *ℤ upper.bound +ℤ n *ℤ lower.bound;
}

-- the products of the combination at entry k, as those of a certificate's step
abbrev pub products_of : ℕ → ℤ → Row → ℤ → Row → ℕ → List ℤ
products_of vars m upper n lower k =
    (m *ℤ entry_at vars upper k) ∷ (n *ℤ entry_at vars lower k) ∷ []

-- at some entry, of the variables or of the bound, a product or a sum passes 2 ^ 126 in size
abbrev pub IsWide : ℕ → ℤ → Row → ℤ → Row → Type 0
IsWide vars m upper n lower =
    (k : ℕ) × (k ≤ vars) × (stays_narrow (pos 0) (products_of vars m upper n lower k) ≡ false)

-- at no entry does one
abbrev pub IsNarrow : ℕ → ℤ → Row → ℤ → Row → Type 0
IsNarrow vars m upper n lower =
    (k : ℕ) → k ≤ vars → IsTrue (stays_narrow (pos 0) (products_of vars m upper n lower k))

-- 2 * i + j <= 3 and - 3 * i <= 5: three times the first and twice the other is 3 * j <= 19
pub combination-example : combination (pos 3) (record { coefs = pos 2 ∷ pos 1 ∷ []; bound = pos 3 })
    (pos 2) (record { coefs = negsuc 2 ∷ pos 0 ∷ []; bound = pos 5 })
    ≡ record { coefs = pos 0 ∷ pos 3 ∷ []; bound = pos 19 }
combination-example = refl
