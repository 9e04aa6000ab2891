use Rattle.std.proofs.Common.{take}
use Rattle.std.specs.List.{All}
use Rattle.elim_level.specs.Gathering.{IsNarrowPair}
use Rattle.elim_level.proofs.pairs.wide_with.Given as goal

abbrev pub invariant-loop-lower : goal.invariant-loop-lower
invariant-loop-lower l = All (λ h. IsNarrowPair l.variable l.upper.row h.row) (take l.lower-index l.lowers)
