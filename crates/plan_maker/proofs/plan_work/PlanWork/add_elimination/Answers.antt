use Rattle.std.proofs.Common.{refl}
use Rattle.plan_maker.specs.PlanWork.{elimination}
use Rattle.plan_maker.proofs.plan_work.PlanWork.add_elimination.Goals as goal

pub add-requires-in-Infeasible : goal.add-requires-in-Infeasible
add-requires-in-Infeasible c = (elimination c.args.pairs, c.requires, refl)
