-- Numbers of rows where further rows come behind the given ones.
use Rattle.std.specs.Prelude.{ℕ, ◌+◌, nat_le, if◌then◌else◌, ◌≡◌, refl}
use Rattle.elim_level.specs.declared.level.Held.{Held}

-- the number of a row where so many more rows follow the given ones: these keep their numbers
abbrev pub moved_by : ℕ → ℕ → ℕ → ℕ
moved_by given more number = if nat_le number given then number else number + more

-- behind 3 given rows come 2 more: row 3 stays row 3, and row 4 is row 6
pub moved_by-example : moved_by 3 2 3 ≡ 3
moved_by-example = refl

pub moved_by-example_derived : moved_by 3 2 4 ≡ 6
moved_by-example_derived = refl

-- the row by its moved number
abbrev pub moved_held : ℕ → ℕ → Held → Held
moved_held given more held = record { row = held.row; number = moved_by given more held.number }
