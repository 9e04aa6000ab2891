-- How the loops that are common to two phases stand to each other in two instances.
use Rattle.std.specs.Prelude.{ℕ, ◌-◌, ◌==◌, Bool, true, false, nat_lt, List, [], ◌∷◌, ◌++◌, if◌then◌else◌}
use Rattle.std.specs.List.{range_with_len}
pub use Rattle.nest_rows.specs.InCommon.{common}

-- the levels of phases s and t with so many common loops: each loop that may be at an earlier trip in s, from the outermost, then 0, all equal, where s stands before t
abbrev pub levels : ℕ → ℕ → ℕ → List ℕ
levels loops s t = range_with_len 1 loops ++ (if nat_lt s t then 0 ∷ [] else [])

-- how the loops round two instances stand: so many from the outermost are equal, and whether the next one is at an earlier trip in the first
pub record Order : Type 0 where
  pub equal : ℕ
  pub earlier : Bool

abbrev pub order_at : ℕ → ℕ → Order
order_at loops level = if level == 0
    then record { equal = loops; earlier = false }
    else record { equal = level - 1; earlier = true }

-- two trips of a loop inside so many Outer loops
abbrev pub two_trips : ℕ → Order
two_trips outer = record { equal = outer; earlier = true }
