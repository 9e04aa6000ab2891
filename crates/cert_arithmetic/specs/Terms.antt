-- Terms: numbers of rows, from 1, and multipliers.
use Rattle.std.specs.Prelude.{ℕ, ℤ, pos, int_lt, Bool, ◌&&◌, not, nat_le, List}
use Rattle.std.specs.List.{list_any}

-- a multiplier is below 0
abbrev pub has_negative : List (ℕ × ℤ) → Bool
has_negative terms = list_any (λ t. int_lt t.1 (pos 0)) terms

-- a term names row 0, or one past so many rows
abbrev pub names_bad_row : ℕ → List (ℕ × ℤ) → Bool
names_bad_row count terms = list_any (λ t. not (nat_le 1 t.0 && nat_le t.0 count)) terms
