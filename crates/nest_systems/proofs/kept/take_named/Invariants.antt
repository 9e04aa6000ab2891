use Rattle.std.proofs.Common.{take}
use Rattle.nest_systems.specs.Kept.{HasTaken, unknowns_in}
use Rattle.nest_systems.proofs.kept.take_named.Given as goal

abbrev pub invariant-loop-unknown : goal.invariant-loop-unknown
invariant-loop-unknown l = HasTaken l.constants (unknowns_in (take l.unknown-index l.terms)) l.initial.kept.items l.kept.items
