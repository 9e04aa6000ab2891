use Rattle.std.proofs.Common.{map, sym, subst}
use Rattle.std.proofs.lemmas.Result.{IfErr-weaker, IfOk-weaker}
use Rattle.f77_source.specs.Sources.{setting_of}
use Rattle.nest_tree.specs.View.{tree_of}
use Rattle.plan_tool.specs.Subjects.{IsPlanOf, IsErrorFor}
use Rattle.plan_words.specs.Wanted.{IsCountedFor}
use Rattle.plan_words.specs.declared.request.Subject.{Subject}
use Rattle.plan_tool.proofs.systems.planned.Goals as goal

pub plan_program-requires-clause-some : goal.plan_program-requires-clause-some
plan_program-requires-clause-some g c = λ _ _. (subst IsCountedFor c.in-For.is c.requires.counted).0

pub plan_program-requires-clause-few : goal.plan_program-requires-clause-few
plan_program-requires-clause-few g c = λ _ _. (subst IsCountedFor c.in-For.is c.requires.counted).1

pub returns-in-Behind-clause-plan : goal.returns-in-Behind-clause-plan
returns-in-Behind-clause-plan g c =
    let settings = map setting_of c.args.settings.now in
    IfOk-weaker c.plan_behind.result _ _ (λ p h. subst (λ (s : Subject). IsPlanOf s c.args.bytes.now settings (tree_of p.program) p.plan) (sym c.in-Behind.is) h) c.plan_behind.ensures.behind

pub returns-in-Behind-clause-refused : goal.returns-in-Behind-clause-refused
returns-in-Behind-clause-refused g c =
    let settings = map setting_of c.args.settings.now in
    IfErr-weaker c.plan_behind.result _ _ (λ error h. subst (λ (s : Subject). IsErrorFor s c.args.bytes.now settings error) (sym c.in-Behind.is) h) c.plan_behind.ensures.refused

pub returns-in-Behind-clause-fits : goal.returns-in-Behind-clause-fits
returns-in-Behind-clause-fits g c = IfOk-weaker c.plan_behind.result _ _ (λ p h. h.fits) c.plan_behind.ensures.behind

pub returns-in-For-clause-plan : goal.returns-in-For-clause-plan
returns-in-For-clause-plan g c =
    let settings = map setting_of c.args.settings.now in
    IfOk-weaker c.plan_program.result _ _ (λ p h. subst (λ (s : Subject). IsPlanOf s c.args.bytes.now settings (tree_of p.program) p.plan) (sym c.in-For.is) h) c.plan_program.ensures.planned

pub returns-in-For-clause-refused : goal.returns-in-For-clause-refused
returns-in-For-clause-refused g c =
    let settings = map setting_of c.args.settings.now in
    IfErr-weaker c.plan_program.result _ _ (λ error h. subst (λ (s : Subject). IsErrorFor s c.args.bytes.now settings error) (sym c.in-For.is) h) c.plan_program.ensures.refused
