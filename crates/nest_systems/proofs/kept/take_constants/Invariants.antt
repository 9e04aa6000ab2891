use Rattle.std.proofs.Common.{take}
use Rattle.nest_systems.specs.Kept.{HasTaken}
use Rattle.nest_systems.proofs.kept.take_constants.Given as goal

abbrev pub invariant-loop-unknown : goal.invariant-loop-unknown
invariant-loop-unknown l = HasTaken l.constants (take l.unknown-index l.unknowns) l.initial.kept.items l.kept.items
