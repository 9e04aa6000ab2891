use Rattle.std.proofs.Common.{refl}
use Rattle.nest_tree.specs.Limits.{no_ends}
use Rattle.owner_partition.proofs.placement.check_anchor.Goals as goal

pub check_from-requires-clause-ends : goal.check_from-requires-clause-ends
unfolding no_ends
check_from-requires-clause-ends c = refl
