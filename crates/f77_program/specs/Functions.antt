-- MIN and MAX.
use Rattle.std.specs.Prelude.{ℕ, ℤ, Bool, List, codes, int_le, if◌then◌else◌}
use Rattle.std.specs.Str.{bytes_eq}

abbrev pub is_minimum : List ℕ → Bool
is_minimum n = bytes_eq n (codes "MIN")

-- the least of two values or the greatest
abbrev pub chosen_by : Bool → ℤ → ℤ → ℤ
chosen_by minimum a b =
    if minimum then (if int_le a b then a else b) else (if int_le a b then b else a)
