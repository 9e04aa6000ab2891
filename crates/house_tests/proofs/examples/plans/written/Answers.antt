use Rattle.plan_text.proofs.Counts.{counts_of_text}
use Rattle.house_tests.proofs.examples.plans.written.Goals as goal

pub write_plan-requires : goal.write_plan-requires
write_plan-requires c = counts_of_text c.in_ok-plan.plan c.in_ok-plan.ensures.shown
