use Rattle.std.proofs.Common.{refl}
use Rattle.nest_tree.specs.Limits.{no_ends}
use Rattle.nest_tree.proofs.limits.draft_limits.Goals as goal

pub check_draft-requires-clause-ends : goal.check_draft-requires-clause-ends
unfolding no_ends
check_draft-requires-clause-ends c = refl
