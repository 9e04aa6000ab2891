use Rattle.std.proofs.Common.{take, ap, ◌∙◌, ◌++◌, inl, inr}
use Rattle.nest_tree.specs.Layout.{cell_count}
use Rattle.plan_checker.proofs.AcceptedOrder.{accepted_stored}
use Rattle.spmd_model.specs.Fair.{first_of}
use Rattle.spmd_model.specs.States.{State}
use Rattle.spmd_model.specs.declared.style.Style.TheVariants.{Arrive}
use Rattle.thread_acts.proofs.Runs.{done_of, ended_of, goes_of, order_below, same_next, same_run}
use Rattle.thread_acts.proofs.laws.threads_run_as_the_machine.Goals as goal

pub returns-clause-run : goal.returns-clause-run
returns-clause-run c = λ table tree plan schedule turnings formed fits stored all. same_run table tree plan turnings formed fits stored schedule all

pub returns-clause-memory : goal.returns-clause-memory
returns-clause-memory c = λ table tree plan schedule turnings formed ranges accepted all done.
    ap (λ (s : State). take (cell_count tree) s.memory) (same_run table tree plan turnings formed accepted.fits (accepted_stored tree plan formed accepted) schedule all)
    ∙ c.accepted_plans_run_in_styles.ensures.memory Arrive tree plan schedule formed ranges accepted all (ended_of table tree plan turnings formed accepted.fits (accepted_stored tree plan formed accepted) schedule all done)

pub returns-clause-output : goal.returns-clause-output
returns-clause-output c = λ table tree plan schedule turnings formed ranges accepted all done.
    ap (λ (s : State). s.output) (same_run table tree plan turnings formed accepted.fits (accepted_stored tree plan formed accepted) schedule all)
    ∙ c.accepted_plans_run_in_styles.ensures.output Arrive tree plan schedule formed ranges accepted all (ended_of table tree plan turnings formed accepted.fits (accepted_stored tree plan formed accepted) schedule all done)

pub returns-clause-ends : goal.returns-clause-ends
returns-clause-ends c = λ table tree plan order turnings formed accepted fair.
    let end = c.accepted_plans_run_in_styles.ensures.ends Arrive tree plan order formed accepted fair in
    (end.0, done_of table tree plan turnings formed accepted.fits (accepted_stored tree plan formed accepted) (first_of order end.0) (order_below plan.workers end.0 order fair) end.1)

pub returns-clause-next : goal.returns-clause-next
returns-clause-next c = λ table tree plan schedule p turnings formed fits stored all below. same_next table tree plan turnings formed fits stored schedule p all below

pub returns-clause-front : goal.returns-clause-front
returns-clause-front c = λ table tree plan schedule turnings formed ranges accepted all.
    let front = c.accepted_plans_run_in_styles.ensures.front Arrive tree plan schedule formed ranges accepted all in
    (front.0, ap (λ (s : State). s.output ++ front.0) (same_run table tree plan turnings formed accepted.fits (accepted_stored tree plan formed accepted) schedule all) ∙ front.1)

pub returns-clause-unstuck : goal.returns-clause-unstuck
returns-clause-unstuck c = λ table tree plan schedule turnings formed accepted all.
    elim (c.accepted_plans_run_in_styles.ensures.unstuck Arrive tree plan schedule formed accepted all) [
      | inl ended ↦ inl (done_of table tree plan turnings formed accepted.fits (accepted_stored tree plan formed accepted) schedule all ended)
      | inr can ↦ inr (goes_of table tree plan turnings formed accepted.fits (accepted_stored tree plan formed accepted) schedule all can)
    ]
