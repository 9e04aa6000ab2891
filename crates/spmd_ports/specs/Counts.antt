-- Counts of faults and of empty answers: 64 bits wide, they stop at their last value.
use Rattle.std.specs.Prelude.{◌≡◌, ◌==◌, ℕ, ◌+◌, ◌-◌, ◌^◌, ◌≤◌, ◌&&◌, nat_lt, if◌then◌else◌, refl}

-- the last value of a count
abbrev pub last_count : ℕ
last_count = 2 ^ 64 - 1

-- a count raised by one, unless it stands at its last value
abbrev pub raised : ℕ → ℕ
raised count = if nat_lt count last_count then count + 1 else count

-- the count rose: it is above what it was, or it stands at its last value
abbrev pub Rose : ℕ → ℕ → Type 0
Rose old new = raised old ≤ new

-- a count of empty answers behind a call that took n bytes of so many: 0 of a nonempty piece raise it
abbrev pub empties_after : ℕ → ℕ → ℕ → ℕ
empties_after empties n offered = if n == 0 && nat_lt 0 offered then raised empties else empties

-- from 0 a count goes to 1, and at its last value it stands
first : raised 0 ≡ 1
first = refl

last : raised last_count ≡ last_count
last = refl
