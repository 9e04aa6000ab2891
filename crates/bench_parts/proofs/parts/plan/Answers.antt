use Rattle.plan_text.proofs.Counts.{counts_of_text}
use Rattle.bench_parts.proofs.parts.plan.Goals as goal

pub write_plan-requires : goal.write_plan-requires
write_plan-requires c = counts_of_text c.in-Ok.plan c.in-Ok.ensures.shown
