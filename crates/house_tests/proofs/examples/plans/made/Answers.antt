use Rattle.nest_tree.specs.View.{tree_of}
use Rattle.plan_text.proofs.Counts.{counts_of_fit}
use Rattle.house_tests.proofs.examples.plans.made.Goals as goal

pub write_plan-requires : goal.write_plan-requires
write_plan-requires c =
    let made = c.in_ok-plan.ensures in
    counts_of_fit (tree_of c.args.program.now) c.in_ok-plan.plan c.args.program.now.formed made.conditions made.accepted.fits
