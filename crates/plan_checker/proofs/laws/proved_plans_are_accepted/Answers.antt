use Rattle.plan_checker.proofs.ProvedFit.{proved_plans_fit}
use Rattle.plan_checker.proofs.laws.proved_plans_are_accepted.Goals as goal

pub returns : goal.returns
returns c = proved_plans_fit
