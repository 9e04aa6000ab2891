use Rattle.std.proofs.Common.{List, ℕ, ◌∙◌, ap, drop, subst}
use Rattle.std.proofs.lemmas.List.{take_rest}
use Rattle.std.proofs.lemmas.Result.{err_from_is_err_and}
use Rattle.nest_tree.specs.View.{tree_of}
use Rattle.plan_input.specs.Errors.{IsPlanError, IsTextOf}
use Rattle.asked_plan.specs.Plans.{IsErrorBehind}
use Rattle.asked_plan.proofs.planned.plan_behind.Goals as goal

pub returns-in_err-program-clause-refused : goal.returns-in_err-program-clause-refused
returns-in_err-program-clause-refused c =
    let result = err_from_is_err_and c.from_residual.result c.from_residual.ensures.1 in
    rw (result.1, result.2) (IsErrorBehind.source c.in_err-program.ensures.refused)

pub returns-in_err-plan-clause-refused : goal.returns-in_err-plan-clause-refused
returns-in_err-plan-clause-refused c =
    let tree = tree_of c.in_ok-program.program in
    let bytes = c.args.bytes.now in
    let error = c.in_err-plan.field-0.0 in
    let rest = take_rest bytes c.in_ok-program.rest ∙ ap (λ n. drop n bytes) c.in_ok-program.ensures.rest in
    let result = err_from_is_err_and c.from_residual-in_err-plan.result c.from_residual-in_err-plan.ensures.1 in
    rw (result.1, result.2)
    (IsErrorBehind.plan tree c.in_ok-program.ensures.program c.in_ok-program.ensures.inside (subst (λ (b : List ℕ). IsPlanError tree b error) rest c.in_err-plan.ensures.refused))

pub returns-clause-behind : goal.returns-clause-behind
returns-clause-behind c =
    let bytes = c.args.bytes.now in
    let rest = take_rest bytes c.in_ok-program.rest ∙ ap (λ n. drop n bytes) c.in_ok-program.ensures.rest in
    record {
      source = c.in_ok-program.ensures.program;
      inside = c.in_ok-program.ensures.inside;
      text = subst (λ (b : List ℕ). IsTextOf c.in_ok-plan.plan b) rest c.in_ok-plan.ensures.plan;
      fits = c.in_ok-plan.ensures.fits;
    }
