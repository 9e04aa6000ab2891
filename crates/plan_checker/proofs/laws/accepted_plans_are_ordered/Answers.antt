use Rattle.plan_checker.proofs.AcceptedOrder.{accepted_ordered}
use Rattle.plan_checker.proofs.laws.accepted_plans_are_ordered.Goals as goal

pub returns : goal.returns
returns c = accepted_ordered
