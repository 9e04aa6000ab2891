-- Going over the lines of a source, as the private functions do it.
use Rattle.std.specs.Prelude.{ℕ, ◌==◌, Bool, true, false, ◌&&◌, nat_lt, if◌then◌else◌, List, [], ◌∷◌, Option, Some, None}
use Rattle.std.specs.List.{list_all}
use Rattle.std.specs.Char.{is_ascii_digit}
use Rattle.f77_lines.specs.Texts.{quoted_after, decimal_from}

-- the first line with its line feed
unfoldable pub first_of : List ℕ → List ℕ
first_of [] = []
first_of (b ∷ bytes) = if b == 10 then b ∷ [] else b ∷ first_of bytes

-- the bytes behind the first line
unfoldable pub after_first : List ℕ → List ℕ
after_first [] = []
after_first (b ∷ bytes) = if b == 10 then bytes else after_first bytes

-- whether what stands behind these characters stands inside a constant
abbrev pub quoted_behind : Bool → List ℕ → Bool
quoted_behind quoted [] = quoted
quoted_behind quoted (c ∷ cs) = quoted_behind (quoted_after quoted c) cs

-- the label of these digits, where those in front of them stand for `front`; `blank` says that there were none
unfoldable pub label_behind : ℕ → Bool → List ℕ → Option ℕ
label_behind front true [] = Some front
label_behind front false [] = if nat_lt 0 front then Some front else None
label_behind front blank (d ∷ ds) = if list_all is_ascii_digit (d ∷ ds)
    && nat_lt 0 (decimal_from front (d ∷ ds)) then Some (decimal_from front (d ∷ ds)) else None
