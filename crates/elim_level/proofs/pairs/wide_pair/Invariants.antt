use Rattle.std.proofs.Common.{take}
use Rattle.std.specs.List.{All}
use Rattle.elim_level.specs.Gathering.{IsNarrowPair}
use Rattle.elim_level.proofs.pairs.wide_pair.Given as goal

abbrev pub invariant-loop-upper : goal.invariant-loop-upper
invariant-loop-upper l = All (λ u. All (λ h. IsNarrowPair l.variable u.row h.row) l.lowers) (take l.upper-index l.uppers)
