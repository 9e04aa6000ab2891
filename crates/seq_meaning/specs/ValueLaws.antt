-- What the laws of value arithmetic speak of.
use Rattle.std.specs.Prelude.{ℤ, ◌≡◌, ◌≤◌, ◌<◌, ◌-◌, ◌^◌, pos, negsuc, ◌+ℤ◌, ◌-ℤ◌, ◌*ℤ◌, unsigned_abs}

-- two whole numbers differ by a multiple of 2 ^ 64
abbrev pub IsSameModulo : ℤ → ℤ → Type 0
IsSameModulo a b = (k : ℤ) × (a ≡ b +ℤ k *ℤ pos (2 ^ 64))

-- - 2 ^ 63
abbrev pub least_value : ℤ
least_value = negsuc (2 ^ 63 - 1)

-- q is a divided by d, truncated toward zero: q times d is no farther from zero than a, and what is left of a is nearer to zero than d
pub record IsTruncated (a d q : ℤ) : Type 0 where
  pub no_farther : unsigned_abs (q *ℤ d) ≤ unsigned_abs a
  pub less_left : unsigned_abs (a -ℤ q *ℤ d) < unsigned_abs d
