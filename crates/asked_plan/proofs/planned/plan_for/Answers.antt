use Rattle.std.proofs.Common.{sym, subst}
use Rattle.std.proofs.lemmas.Result.{IfErr-weaker, IfOk-weaker}
use Rattle.nest_tree.specs.View.{tree_of}
use Rattle.command_words.specs.declared.request.PlanChoice.{PlanChoice}
use Rattle.plan_text.proofs.Counts.{counts_of_fit, counts_of_text}
use Rattle.asked_plan.specs.Plans.{IsPlanFor, IsPlanErrorFor}
use Rattle.asked_plan.proofs.planned.plan_for.Goals as goal

pub returns-in_ok-plan-in-Made-clause-plan : goal.returns-in_ok-plan-in-Made-clause-plan
returns-in_ok-plan-in-Made-clause-plan g c =
    subst (λ (choice : PlanChoice). IsPlanFor choice c.args.asked.now.workers (tree_of c.args.program.now) c.args.bytes.now c.in_ok-plan-in-Made.plan) (sym c.in-Made.is) (c.in_ok-plan-in-Made.field-0-1, c.in_ok-plan-in-Made.ensures)

pub returns-in_ok-plan-in-Made-clause-counts : goal.returns-in_ok-plan-in-Made-clause-counts
returns-in_ok-plan-in-Made-clause-counts g c =
    let made = c.in_ok-plan-in-Made.ensures in
    counts_of_fit (tree_of c.args.program.now) c.in_ok-plan-in-Made.plan c.args.program.now.formed made.conditions made.accepted.fits

pub returns-in_ok-plan-in-Made-clause-accepted : goal.returns-in_ok-plan-in-Made-clause-accepted
returns-in_ok-plan-in-Made-clause-accepted g c = c.in_ok-plan-in-Made.ensures.accepted

pub returns-in_ok-make_barrier-in-Barrier-clause-accepted : goal.returns-in_ok-make_barrier-in-Barrier-clause-accepted
returns-in_ok-make_barrier-in-Barrier-clause-accepted g c = c.in_ok-make_barrier-in-Barrier.ensures.accepted

pub returns-in_ok-make_barrier-in-Barrier-clause-counts : goal.returns-in_ok-make_barrier-in-Barrier-clause-counts
returns-in_ok-make_barrier-in-Barrier-clause-counts g c =
    let barriers = c.in_ok-make_barrier-in-Barrier.ensures in
    counts_of_fit (tree_of c.args.program.now) c.in_ok-make_barrier-in-Barrier.field-0 c.args.program.now.formed barriers.conditions barriers.accepted.fits

pub returns-in-Given-clause-workers : goal.returns-in-Given-clause-workers
returns-in-Given-clause-workers g c = IfOk-weaker c.given_plan.result _ _ (λ plan taken. taken.workers_are) c.given_plan.ensures.taken

pub returns-in-Given-clause-counts : goal.returns-in-Given-clause-counts
returns-in-Given-clause-counts g c = IfOk-weaker c.given_plan.result _ _ (λ plan taken. counts_of_text plan taken.text.shown) c.given_plan.ensures.taken

pub returns-in-Given-clause-refused : goal.returns-in-Given-clause-refused
returns-in-Given-clause-refused g c =
    let tree = tree_of c.args.program.now in
    IfErr-weaker c.given_plan.result _ _ (λ s h. subst (λ (choice : PlanChoice). IsPlanErrorFor choice c.args.asked.now.workers tree c.args.bytes.now s) (sym c.in-Given.is) h) c.given_plan.ensures.refused

pub returns-in-Given-clause-accepted : goal.returns-in-Given-clause-accepted
returns-in-Given-clause-accepted g c = IfOk-weaker c.given_plan.result _ _ (λ plan taken. taken.accepted) c.given_plan.ensures.taken
