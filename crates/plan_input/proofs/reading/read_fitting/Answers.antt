use Rattle.std.proofs.Common.{sym, ap, ◌∙◌}
use Rattle.std.proofs.lemmas.Result.{err_from_is_err_and}
use Rattle.std.specs.Result.{result_err}
use Rattle.nest_tree.specs.View.{tree_of}
use Rattle.sync_plan.specs.Fit.{first_misfit}
use Rattle.plan_checker.specs.Refusals.{first_refusal, refusal_of}
use Rattle.plan_checker.proofs.Certified.{unmapped}
use Rattle.plan_input.specs.Errors.{IsTextOf}
use Rattle.plan_input.proofs.Plans.{of_reason, of_syntax}
use Rattle.plan_input.proofs.reading.read_fitting.Goals as goal

pub returns-in_err-plan-clause-refused : goal.returns-in_err-plan-clause-refused
returns-in_err-plan-clause-refused c =
    let told = err_from_is_err_and c.from_residual.result c.from_residual.ensures.1 in
    rw told.1 (of_syntax (first_refusal (tree_of c.args.program.now)) c.args.bytes.now c.in_err-plan.field-0.0 told.0 c.in_err-plan.ensures.refused told.2)

pub returns-in-Ok-clause-fits : goal.returns-in-Ok-clause-fits
returns-in-Ok-clause-fits c = unmapped refusal_of (first_misfit (tree_of c.args.program.now) c.in_ok-plan.plan) (sym c.check_fit.ensures ∙ ap result_err c.in-Ok.is)

pub returns-in-Err-clause-refused : goal.returns-in-Err-clause-refused
returns-in-Err-clause-refused c =
    let text : IsTextOf c.in_ok-plan.plan c.args.bytes.now = record { shown = c.in_ok-plan.ensures.shown; bytes_are = c.in_ok-plan.ensures.plan } in
    of_reason (first_refusal (tree_of c.args.program.now)) c.args.bytes.now c.in_ok-plan.plan c.in-Err.refusal _ text (λ memoryful. sym c.in-Err.ensures) c.from.ensures
