use Rattle.spmd_answer.proofs.Existence.{never_none}
use Rattle.spmd_answer.proofs.laws.never_none.Goals as goal

pub returns : goal.returns
returns c = never_none
