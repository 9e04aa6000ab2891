-- Standard output, as its callers see it: two counts, and nothing of its content.
use Rattle.std.specs.Prelude.{ℕ}
use Rattle.spmd_ports.specs.Counts.{empties_after}

pub record StandardSink : Type 0 where
  -- the faults so far
  pub faults : ℕ
  -- the empty answers so far: calls that took 0 bytes of a nonempty piece
  pub empties : ℕ

-- standard output behind a call that took n bytes of so many
abbrev pub answered : StandardSink → ℕ → ℕ → StandardSink
answered s n offered = record s { empties = empties_after s.empties n offered }
