use Rattle.plan_maker.proofs.PlanWorks.{one_more}
use Rattle.plan_maker.proofs.plan_work.PlanWork.add.Goals as goal

pub invariant_of-self : goal.invariant_of-self
invariant_of-self c = record { taken = one_more c.args.self.now.pairs c.args.pairs c.in-Some.pairs c.args.self.now.taken c.requires c.in-Some.ensures.1 }
