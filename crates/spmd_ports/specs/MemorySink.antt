-- A sink over memory, as its callers see it.
use Rattle.std.specs.Prelude.{ℕ, ◌-◌, ◌==◌, Bool, if◌then◌else◌, List, [], ◌++◌, length, take, min}
use Rattle.std.specs.List.{list_any}
use Rattle.spmd_ports.specs.Counts.{raised, empties_after}

pub record MemorySink : Type 0 where
  -- the bytes that were written
  pub written : List ℕ
  -- how many bytes there is room for, those that were written among them
  pub room : ℕ
  -- the most bytes that one call takes
  pub piece : ℕ
  -- the calls that fail, counted from 1
  pub failing : List ℕ
  -- the calls that take nothing, counted from 1
  pub empty : List ℕ
  -- the calls so far
  pub calls : ℕ
  -- the faults so far
  pub faults : ℕ
  -- the empty answers so far: calls that took 0 bytes of a nonempty piece
  pub empties : ℕ

-- the sink before its first call
abbrev pub fresh : ℕ → ℕ → List ℕ → List ℕ → MemorySink
fresh room piece failing empty =
    record {
      written = [];
      room = room;
      piece = piece;
      failing = failing;
      empty = empty;
      calls = 0;
      faults = 0;
      empties = 0;
    }

-- the next call takes nothing, whatever room there is
abbrev pub takes_nothing : MemorySink → Bool
takes_nothing s = list_any (λ call. call == raised s.calls) s.empty

-- how many bytes the next call takes of so many
abbrev pub taken : MemorySink → ℕ → ℕ
taken s offered =
    if takes_nothing s then 0 else min (min s.piece offered) (s.room - length s.written)

-- the sink behind a call that took the first n of these bytes
abbrev pub written_on : MemorySink → ℕ → List ℕ → MemorySink
written_on s n bytes = record s {
  written = s.written ++ take n bytes;
  calls = raised s.calls;
  empties = empties_after s.empties n (length bytes);
}

-- the sink behind a call that failed
abbrev pub failed : MemorySink → MemorySink
failed s = record s { calls = raised s.calls; faults = raised s.faults }
