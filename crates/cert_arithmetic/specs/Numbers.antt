-- Narrow numbers.
use Rattle.std.specs.Prelude.{◌^◌, ℤ, unsigned_abs, Bool, nat_le}

-- at most 2 ^ 126 in size
abbrev pub is_narrow : ℤ → Bool
is_narrow z = nat_le (unsigned_abs z) (2 ^ 126)
