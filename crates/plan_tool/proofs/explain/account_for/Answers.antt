use Rattle.std.proofs.Common.{map, sym, subst}
use Rattle.std.proofs.lemmas.Result.{IfErr-weaker, IfOk-weaker, err_from_is_err_and}
use Rattle.command_words.specs.declared.request.PlanChoice.{PlanChoice}
use Rattle.f77_source.specs.Sources.{setting_of}
use Rattle.nest_tree.specs.View.{tree_of}
use Rattle.asked_plan.specs.Plans.{IsPlanned}
use Rattle.plan_tool.specs.Subjects.{IsAccount, IsUntold, planless}
use Rattle.plan_words.specs.declared.request.Subject.TheVariants.{For}
use Rattle.plan_tool.proofs.explain.account_for.Goals as goal

pub returns-in-Made-clause-account : goal.returns-in-Made-clause-account
returns-in-Made-clause-account g c =
    let settings = map setting_of c.args.asked.now.settings.now in
    IfOk-weaker c.account_of_made.result _ _ (λ a h. subst (λ (choice : PlanChoice). IsAccount (For c.args.asked.now.workers choice) c.args.bytes.now settings (tree_of a.program) a.account) (sym c.in-Made.is) h) c.account_of_made.ensures.account

pub returns-in-Made-clause-refused : goal.returns-in-Made-clause-refused
returns-in-Made-clause-refused g c =
    let settings = map setting_of c.args.asked.now.settings.now in
    IfErr-weaker c.account_of_made.result _ _ (λ error h. subst (λ (choice : PlanChoice). IsUntold (For c.args.asked.now.workers choice) c.args.bytes.now settings error) (sym c.in-Made.is) h) c.account_of_made.ensures.refused

pub returns-in_err-program-in-Barrier-clause-refused : goal.returns-in_err-program-in-Barrier-clause-refused
returns-in_err-program-in-Barrier-clause-refused g c =
    let result = err_from_is_err_and c.from_residual.result c.from_residual.ensures.1 in
    rw (result.1, result.2) (planless c.in_err-program-in-Barrier.ensures.refused)

pub returns-in_ok-account-in-Barrier-clause-account : goal.returns-in_ok-account-in-Barrier-clause-account
returns-in_ok-account-in-Barrier-clause-account g c = record {
  plan = subst (IsPlanned c.args.asked.now.workers c.args.asked.now.choice c.args.bytes.now (map setting_of c.args.asked.now.settings.now) (tree_of c.in_ok-program-in-Barrier.field-0.program)) (sym c.in_ok-account-in-Barrier.ensures.plan) c.in_ok-program-in-Barrier.ensures.planned;
  reasons = c.in_ok-account-in-Barrier.ensures.reasons;
}
