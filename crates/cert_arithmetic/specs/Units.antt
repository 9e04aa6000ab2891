-- Counts of units of work.
use Rattle.std.specs.Prelude.{ℕ, ◌+◌, ◌≤◌}

-- the count did not fall, and rose by at most so many
abbrev pub RoseWithin : ℕ → ℕ → ℕ → Type 0
RoseWithin most old new = (old ≤ new) × (new ≤ old + most)
