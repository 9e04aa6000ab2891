-- Which two accesses conflict, and the pairs of two phases.
use Rattle.std.specs.Prelude.{List, map}
use Rattle.std.specs.List.{filter, flat_map}
use Rattle.owner_partition.specs.Cuts.{Cutting}
pub use Rattle.conflict_rules.specs.Conflicts.{conflict}
use Rattle.conflict_rules.specs.References.{Reference, StaticPhase, references_of}
use Rattle.comm_system.specs.Shown.{shared_of, shown_of}

-- an access of a first phase, and one of a second
pub record Pair : Type 0 where
  pub first : Reference
  pub second : Reference

-- the ordered pairs of conflicting accesses, the first rising, then the second; an access that stores conflicts with itself
abbrev pub pairs_among : List Reference → List Reference → List Pair
pairs_among firsts seconds =
    flat_map (λ a. map (λ b. record { first = a; second = b }) (filter (conflict a) seconds)) firsts

-- those of two phases under a cut, and those of two trips of a phase: there each processor has its own cells of own scalars
abbrev pub pairs_of : Cutting → StaticPhase → StaticPhase → List Pair
pairs_of cut s t = pairs_among (shown_of cut s) (shown_of cut t)

abbrev pub pairs_within : Cutting → StaticPhase → List Pair
pairs_within cut s = pairs_among (shared_of cut s) (references_of s)
