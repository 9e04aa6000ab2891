use Rattle.std.proofs.Common.{sym, ◌∙◌}
use Rattle.f77_forms.proofs.Answered.{decided}
use Rattle.f77_forms.proofs.laws.form_or_fault.Goals as goal

pub returns-clause-either : goal.returns-clause-either
returns-clause-either c = decided

pub returns-clause-not_both : goal.returns-clause-not_both
returns-clause-not_both c = λ text f fault h r. r.no_form f h

pub returns-clause-one_fault : goal.returns-clause-one_fault
returns-clause-one_fault c = λ text a b h k. sym h.fault_is ∙ k.fault_is
