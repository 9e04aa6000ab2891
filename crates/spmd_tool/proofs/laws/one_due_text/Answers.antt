use Rattle.spmd_tool.proofs.Dues.{never_due, one_due, one_status, refused_due, shown-due, some_due}
use Rattle.spmd_tool.proofs.laws.one_due_text.Goals as goal

pub returns-clause-some : goal.returns-clause-some
returns-clause-some c = some_due

pub returns-clause-status : goal.returns-clause-status
returns-clause-status c = one_status

pub returns-clause-refusal : goal.returns-clause-refusal
returns-clause-refusal c = refused_due

pub returns-clause-only : goal.returns-clause-only
returns-clause-only c = one_due

pub returns-clause-shown : goal.returns-clause-shown
returns-clause-shown c = shown-due

pub returns-clause-never_none : goal.returns-clause-never_none
returns-clause-never_none c = never_due
