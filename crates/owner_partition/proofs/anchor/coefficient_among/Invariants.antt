use Rattle.std.proofs.Common.{◌≡◌, drop}
use Rattle.owner_partition.specs.OwnInstances.{coefficient_of}
use Rattle.owner_partition.proofs.anchor.coefficient_among.Given as goal

abbrev pub invariant-loop-loop_number : goal.invariant-loop-loop_number
invariant-loop-loop_number l = coefficient_of (drop l.loop_number-index l.pairs) l.number ≡ coefficient_of l.pairs l.number
