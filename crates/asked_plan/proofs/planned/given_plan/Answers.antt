use Rattle.std.proofs.lemmas.Result.{err_from_is_err_and}
use Rattle.nest_tree.specs.View.{tree_of}
use Rattle.plan_input.specs.Errors.{IsTextOf}
use Rattle.plan_input.proofs.Plans.{of_reason, of_syntax}
use Rattle.asked_plan.specs.Plans.{first_reason}
use Rattle.asked_plan.proofs.planned.given_plan.Goals as goal

pub returns-in_err-plan-clause-refused : goal.returns-in_err-plan-clause-refused
returns-in_err-plan-clause-refused g c =
    let told = err_from_is_err_and c.from_residual.result c.from_residual.ensures.1 in
    rw told.1 (of_syntax (first_reason c.args.asked (tree_of c.args.program.now)) c.args.bytes.now c.in_err-plan.field-0.0 told.0 c.in_err-plan.ensures.refused told.2)

pub returns-in_err-check_asked-clause-refused : goal.returns-in_err-check_asked-clause-refused
returns-in_err-check_asked-clause-refused g c =
    let told = err_from_is_err_and c.from_residual-in_err-check_asked.result c.from_residual-in_err-check_asked.ensures.1 in
    let text : IsTextOf c.in_ok-plan.plan c.args.bytes.now = record { shown = c.in_ok-plan.ensures.shown; bytes_are = c.in_ok-plan.ensures.plan } in
    rw told.1 (of_reason (first_reason c.args.asked (tree_of c.args.program.now)) c.args.bytes.now c.in_ok-plan.plan c.in_err-check_asked.field-0.0 told.0 text c.in_err-check_asked.ensures.refused told.2)
