-- Sums as they are, and with the other sign.
use Rattle.std.specs.Prelude.{ℕ, ℤ, neg_ℤ, List, map}
use Rattle.nest_rows.specs.declared.constraint.Sign.{Sign}
use Rattle.nest_rows.specs.declared.constraint.Sign.TheVariants.{Plus, Minus}

abbrev pub signed : Sign → ℤ → ℤ
signed Plus z = z
signed Minus z = neg_ℤ z

abbrev pub flipped : Sign → Sign
flipped Plus = Minus
flipped Minus = Plus

-- each term with this sign
abbrev pub with_sign : Sign → List (ℕ × ℤ) → List (ℕ × ℤ)
with_sign sign terms = map (λ t. (t.0, signed sign t.1)) terms
