use Rattle.plan_checker.proofs.Versions.{one_in_two}
use Rattle.plan_checker.proofs.laws.accepted_plans_may_chain.Goals as goal

pub returns : goal.returns
returns c = one_in_two
