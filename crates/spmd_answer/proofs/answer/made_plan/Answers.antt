use Rattle.std.proofs.Common.{sym, true≢false}
use Rattle.nest_tree.specs.View.{tree_of}
use Rattle.spmd_answer.specs.Due.{written}
use Rattle.plan_text.proofs.Counts.{counts_of_fit}
use Rattle.spmd_answer.proofs.answer.made_plan.Goals as goal

pub text_of_plan-requires : goal.text_of_plan-requires
text_of_plan-requires c =
    let made = c.in_ok-plan.ensures in
    counts_of_fit (tree_of c.args.program.now) c.in_ok-plan.plan c.args.program.now.formed made.conditions made.accepted.fits

pub returns-clause-due : goal.returns-clause-due
returns-clause-due c = λ settings at bytes. written _ (c.in_ok-plan.plan, c.in_ok-plan.reasons, c.in_ok-plan.ensures, c.in_ok-text_of_plan.ensures) c.done.ensures

pub returns-clause-receipt : goal.returns-clause-receipt
returns-clause-receipt c = λ settings bytes shared. absurd (true≢false (sym shared))
