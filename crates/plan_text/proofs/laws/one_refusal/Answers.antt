use Rattle.std.proofs.Common.{refl}
use Rattle.plan_text.proofs.PlanLaws.{one_alien}
use Rattle.plan_text.proofs.laws.one_refusal.Goals as goal

pub returns-clause-one : goal.returns-clause-one
returns-clause-one c = one_alien

pub returns-clause-none : goal.returns-clause-none
returns-clause-none c = λ x n h u. u.no_text (x, h, refl)
