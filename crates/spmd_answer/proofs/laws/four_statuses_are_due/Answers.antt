use Rattle.spmd_answer.proofs.Statuses.{is_due-status}
use Rattle.spmd_answer.proofs.laws.four_statuses_are_due.Goals as goal

pub returns : goal.returns
returns c = is_due-status
