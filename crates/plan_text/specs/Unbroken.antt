-- Bytes without a line feed.
use Rattle.std.specs.Prelude.{ℕ, ◌==◌, Bool, not, nat_lt, List}
use Rattle.std.specs.List.{list_all}

abbrev pub is_unbroken : List ℕ → Bool
is_unbroken line = list_all (λ b. not (b == 10)) line

-- a byte of a word: it shows
abbrev pub is_glyph : ℕ → Bool
is_glyph b = nat_lt 32 b
