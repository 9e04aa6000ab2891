use Rattle.std.proofs.Common.{sym, subst}
use Rattle.farkas_cert.specs.Inequalities.{Inequalities}
use Rattle.plan_maker.specs.Askable.{IsAskable}
use Rattle.plan_maker.specs.Found.{IsFound}
use Rattle.plan_maker.specs.Orders.{elimination_order}
use Rattle.plan_maker.specs.declared.verdict.Verdict.TheVariants.{Kept}
use Rattle.plan_maker.proofs.Judgements.{kept_so, refuted_so}
use Rattle.plan_maker.proofs.judge.judge_one.Goals as goal

pub find-requires-clause-asked : goal.find-requires-clause-asked
find-requires-clause-asked c =
    subst (λ (s : Inequalities). IsAskable s c.args.dists.now) (sym c.system.ensures.system) (record { narrow = c.system.ensures.narrow; owners = c.requires.owners; room = c.requires.room; few = c.requires.few })

pub returns-in_ok-told-in-Refuted : goal.returns-in_ok-told-in-Refuted
returns-in_ok-told-in-Refuted c = λ whole is widens.
    let system = c.system.result.now in
    let good = refuted_so whole c.args.left.now system (elimination_order system.vars c.args.dists.now) _ c.in-Refuted.certificate c.system.ensures.system c.in-Refuted.is c.in_ok-certificate.ensures in
    c.in_ok-told-in-Refuted.ensures whole is good

pub returns-in-Kept : goal.returns-in-Kept
returns-in-Kept c = λ whole is widens.
    let dists = c.args.dists.now in
    let system = c.system.result.now in
    let word = c.in-Kept.word in
    let found : IsFound system (elimination_order system.vars dists) (Kept word) = subst (IsFound system (elimination_order system.vars dists)) c.in-Kept.is c.in_ok-certificate.ensures in
    kept_so dists c.args.topic whole c.args.left.now word c.cause_for.result is widens (subst (λ (s : Inequalities). IsFound s (elimination_order s.vars dists) (Kept word)) c.system.ensures.system found) (c.cause_for.ensures whole)
