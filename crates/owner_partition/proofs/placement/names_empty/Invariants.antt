use Rattle.std.proofs.Common.{◌≡◌, drop}
use Rattle.owner_partition.specs.Placement.{names_empty}
use Rattle.owner_partition.proofs.placement.names_empty.Given as goal

abbrev pub invariant-loop-number : goal.invariant-loop-number
invariant-loop-number l = names_empty l.ends (drop l.number-index l.pairs) ≡ names_empty l.ends l.pairs
