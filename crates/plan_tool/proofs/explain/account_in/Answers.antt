use Rattle.std.proofs.Common.{map, sym, subst}
use Rattle.std.proofs.lemmas.Result.{IfErr-weaker, IfOk-weaker}
use Rattle.f77_source.specs.Sources.{setting_of}
use Rattle.nest_tree.specs.View.{tree_of}
use Rattle.plan_tool.specs.Subjects.{IsAccount, IsUntold}
use Rattle.plan_words.specs.Wanted.{IsCountedFor}
use Rattle.plan_words.specs.declared.request.Subject.{Subject}
use Rattle.plan_tool.proofs.explain.account_in.Goals as goal

pub account_for-requires-clause-some : goal.account_for-requires-clause-some
account_for-requires-clause-some g c = λ _ _. (subst IsCountedFor c.in-For.is c.requires.counted).0

pub account_for-requires-clause-few : goal.account_for-requires-clause-few
account_for-requires-clause-few g c = λ _ _. (subst IsCountedFor c.in-For.is c.requires.counted).1

pub returns-in-Behind-clause-account : goal.returns-in-Behind-clause-account
returns-in-Behind-clause-account g c =
    let settings = map setting_of c.args.settings.now in
    IfOk-weaker c.account_behind.result _ _ (λ a h. subst (λ (s : Subject). IsAccount s c.args.bytes.now settings (tree_of a.program) a.account) (sym c.in-Behind.is) h) c.account_behind.ensures.account

pub returns-in-Behind-clause-refused : goal.returns-in-Behind-clause-refused
returns-in-Behind-clause-refused g c =
    let settings = map setting_of c.args.settings.now in
    IfErr-weaker c.account_behind.result _ _ (λ error h. subst (λ (s : Subject). IsUntold s c.args.bytes.now settings error) (sym c.in-Behind.is) h) c.account_behind.ensures.refused

pub returns-in-For-clause-account : goal.returns-in-For-clause-account
returns-in-For-clause-account g c =
    let settings = map setting_of c.args.settings.now in
    IfOk-weaker c.account_for.result _ _ (λ a h. subst (λ (s : Subject). IsAccount s c.args.bytes.now settings (tree_of a.program) a.account) (sym c.in-For.is) h) c.account_for.ensures.account

pub returns-in-For-clause-refused : goal.returns-in-For-clause-refused
returns-in-For-clause-refused g c =
    let settings = map setting_of c.args.settings.now in
    IfErr-weaker c.account_for.result _ _ (λ error h. subst (λ (s : Subject). IsUntold s c.args.bytes.now settings error) (sym c.in-For.is) h) c.account_for.ensures.refused
