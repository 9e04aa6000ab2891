use Rattle.std.proofs.Common.{map, sym, subst}
use Rattle.std.proofs.lemmas.Result.{err_from_is_err_and}
use Rattle.f77_source.specs.Sources.{setting_of}
use Rattle.nest_tree.specs.View.{tree_of}
use Rattle.asked_plan.specs.Plans.{IsBehind}
use Rattle.plan_tool.proofs.Untold.{untold_plan}
use Rattle.plan_tool.specs.Subjects.{planless}
use Rattle.plan_words.specs.declared.request.Subject.TheVariants.{Behind}
use Rattle.plan_tool.proofs.explain.account_behind.Goals as goal

pub returns-in_err-program-clause-refused : goal.returns-in_err-program-clause-refused
returns-in_err-program-clause-refused g c =
    let result = err_from_is_err_and c.from_residual.result c.from_residual.ensures.1 in
    rw (result.1, result.2) (planless c.in_err-program.ensures.refused)

pub returns-in_err-account-clause-refused : goal.returns-in_err-account-clause-refused
returns-in_err-account-clause-refused g c =
    let told = err_from_is_err_and c.from_residual-in_err-account.result c.from_residual-in_err-account.ensures.1 in
    rw told.1 (untold_plan Behind c.args.bytes.now (map setting_of c.args.settings.now) (tree_of c.in_ok-program.field-0.program) c.in_ok-program.field-0.plan c.in_err-account.field-0.0 told.0 c.in_ok-program.ensures.behind c.in_err-account.ensures.refused told.2)

pub returns-clause-account : goal.returns-clause-account
returns-clause-account g c = record {
  plan = subst (IsBehind c.args.bytes.now (map setting_of c.args.settings.now) (tree_of c.in_ok-program.field-0.program)) (sym c.in_ok-account.ensures.plan) c.in_ok-program.ensures.behind;
  reasons = c.in_ok-account.ensures.reasons;
}
