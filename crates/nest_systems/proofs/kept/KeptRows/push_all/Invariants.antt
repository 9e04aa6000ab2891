use Rattle.std.proofs.Common.{◌+◌, take}
use Rattle.std.specs.List.{range_with_len}
use Rattle.nest_systems.specs.Kept.{HasKept}
use Rattle.nest_systems.proofs.kept.KeptRows.push_all.Given as goal

abbrev pub invariant-loop-index : goal.invariant-loop-index
invariant-loop-index l = HasKept (take l.index l.constraints) (range_with_len (l.before + 1) l.index) l.initial.self l.self
