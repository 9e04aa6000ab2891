use Rattle.spmd_answer.proofs.Unique.{one_is_due, one_refused, one_status}
use Rattle.spmd_answer.proofs.laws.one_due.Goals as goal

pub returns-clause-status : goal.returns-clause-status
returns-clause-status c = one_status

pub returns-clause-refusal : goal.returns-clause-refusal
returns-clause-refusal c = one_refused

pub returns-clause-text : goal.returns-clause-text
returns-clause-text c = λ wanted settings bytes a b fixed. one_is_due wanted settings bytes a b fixed
