-- A source over memory, as its callers see it.
use Rattle.std.specs.Prelude.{ℕ, List, length, drop, min}
use Rattle.spmd_ports.specs.Counts.{raised}

pub record MemorySource : Type 0 where
  -- the bytes that are left to read
  pub left : List ℕ
  -- the most bytes that one call gives
  pub piece : ℕ
  -- the calls that fail, counted from 1
  pub failing : List ℕ
  -- the calls so far
  pub calls : ℕ
  -- the faults so far
  pub faults : ℕ

-- the source before its first call
abbrev pub fresh : List ℕ → ℕ → List ℕ → MemorySource
fresh bytes piece failing =
    record { left = bytes; piece = piece; failing = failing; calls = 0; faults = 0 }

-- how many bytes a call gives that has this much room
abbrev pub given : MemorySource → ℕ → ℕ
given s room = min (min s.piece room) (length s.left)

-- the source behind a call that gave n bytes
abbrev pub read_on : MemorySource → ℕ → MemorySource
read_on s n = record s { left = drop n s.left; calls = raised s.calls }

-- the source behind a call that failed
abbrev pub failed : MemorySource → MemorySource
failed s = record s { calls = raised s.calls; faults = raised s.faults }
