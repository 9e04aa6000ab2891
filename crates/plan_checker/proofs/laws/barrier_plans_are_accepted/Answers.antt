use Rattle.plan_checker.proofs.Blocked.{barriers_accepted}
use Rattle.plan_checker.proofs.laws.barrier_plans_are_accepted.Goals as goal

pub returns : goal.returns
returns c = barriers_accepted
