use Rattle.std.proofs.lemmas.Result.{err_from_is_err_and}
use Rattle.asked_plan.specs.Plans.{IsError}
use Rattle.plan_tool.specs.Subjects.{planless}
use Rattle.plan_tool.proofs.explain.account_of_made.Goals as goal

pub returns-in_err-program-clause-refused : goal.returns-in_err-program-clause-refused
returns-in_err-program-clause-refused c =
    let result = err_from_is_err_and c.from_residual.result c.from_residual.ensures.1 in
    rw (result.1, result.2) (planless (IsError.source c.in_err-program.ensures.refused))

pub returns-clause-account : goal.returns-clause-account
returns-clause-account c = record {
  plan = record {
    clear = c.in_ok-program.ensures.clear;
    source = c.in_ok-program.ensures.program;
    inside = c.in_ok-program.ensures.inside;
    plan_is = c.in_ok-account.ensures.plan;
  };
  reasons = c.in_ok-account.ensures.reasons;
}
