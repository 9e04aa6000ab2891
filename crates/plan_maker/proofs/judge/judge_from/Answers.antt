use Rattle.std.proofs.Common.{rules, ◌≡◌, ◌+◌, ◌<◌, List, Some, get_or, slice_get, length, map, take, ap, refl, sym, ◌∙◌, subst, arith}
use Rattle.std.proofs.lemmas.List.{take_all}
use Rattle.std.proofs.lemmas.Option.{get_or_from_slice_get}
use Rattle.farkas_cert.specs.declared.certificate.Certificate.{Certificate}
use Rattle.comm_system.specs.declared.obligation.Obligation.{Obligation}
use Rattle.comm_system.specs.SystemViews.{about, last_made, obligations_seen}
use Rattle.plan_maker.specs.Asked.{AreRefuted}
use Rattle.plan_maker.specs.Judged.{IsJudgement, asked_about}
use Rattle.plan_maker.specs.declared.cause.Cause.{Cause}
use Rattle.plan_maker.specs.declared.verdict.Verdict.{Verdict}
use Rattle.plan_maker.specs.declared.verdict.Verdict.TheVariants.{Refuted, Kept}
use Rattle.plan_maker.proofs.Questions.{map_kept, map_more}
use Rattle.plan_maker.proofs.Askable.{left_has}
use Rattle.plan_maker.proofs.judge.judge_from.Goals as goal

pub loop-index-init : goal.loop-index-init
loop-index-init c =
    let ask = asked_about c.args.dists.now in
    let os = obligations_seen c.args.systems.now in
    let size : length c.args.known.items ≡ c.len-index.result = search rules in
    record { same = refl; columns = refl; refuted = subst (λ n. AreRefuted (map ask (take n os)) c.args.known.items) size c.requires.known }

pub returns-in-Kept : goal.returns-in-Kept
returns-in-Kept c =
    let ask = asked_about c.args.dists.now in
    let os = obligations_seen c.args.systems.now in
    let i = c.loop-index.index in
    let o = last_made c.make.new.self in
    let same = c.in_ok-make.ensures.same ∙ c.loop-index.invariant.same in
    let at : slice_get os i ≡ Some o = ap (λ xs. slice_get xs i) (sym same) ∙ c.in_ok-make.ensures.made in
    let here : o ≡ get_or os i o = sym (get_or_from_slice_get os i o o at) in
    let inside : i < length os = omega (arith, c.loop-index-test.true, c.count-index-end.ensures) in
    let judged = subst (λ (j : Verdict Certificate Cause). IsJudgement (ask (about c.topic.result o.system)) j) c.in-Kept.is (c.in_ok-certificate.ensures o.system c.presolved.ensures.left c.presolved.ensures.widened) in
    let said = subst (λ (x : Obligation). IsJudgement (ask x) (Kept c.in-Kept.cause)) c.topic.ensures judged in
    map_kept ask os i o inside here c.loop-index.certificates.items c.in-Kept.cause c.loop-index.invariant.refuted said

pub loop-index-preserved : goal.loop-index-preserved
loop-index-preserved c =
    let ask = asked_about c.args.dists.now in
    let os = obligations_seen c.args.systems.now in
    let i = c.loop-index.index in
    let o = last_made c.make.new.self in
    let same = c.in_ok-make.ensures.same ∙ c.loop-index.invariant.same in
    let at : slice_get os i ≡ Some o = ap (λ xs. slice_get xs i) (sym same) ∙ c.in_ok-make.ensures.made in
    let here : o ≡ get_or os i o = sym (get_or_from_slice_get os i o o at) in
    let inside : i < length os = omega (arith, c.loop-index-test.true, c.count-index-end.ensures) in
    let judged = subst (λ (j : Verdict Certificate Cause). IsJudgement (ask (about c.topic.result o.system)) j) c.in-Refuted.is (c.in_ok-certificate.ensures o.system c.presolved.ensures.left c.presolved.ensures.widened) in
    let good = subst (λ (x : Obligation). IsJudgement (ask x) (Refuted c.in-Refuted.certificate)) c.topic.ensures judged in
    record {
      same = same;
      columns = c.in_ok-make.ensures.columns ∙ c.loop-index.invariant.columns;
      refuted = subst (AreRefuted (map ask (take (i + 1) os))) (sym c.in_ok-push-in-Refuted.ensures.items) (map_more ask os i o inside here c.loop-index.certificates.items c.in-Refuted.certificate c.loop-index.invariant.refuted good);
    }

pub returns : goal.returns
returns c =
    let ask = asked_about c.args.dists.now in
    let os = obligations_seen c.args.systems.now in
    let i = c.loop-index.index in
    subst (λ (xs : List Obligation). AreRefuted (map ask xs) c.loop-index.certificates.items) (take_all i os (omega (arith, c.loop-index-test.false, c.count-index-end.ensures))) c.loop-index.invariant.refuted

pub judge_one-requires-clause-owners : goal.judge_one-requires-clause-owners
judge_one-requires-clause-owners c =
    let o = last_made c.make.new.self in
    let columns = c.presolved.ensures.columns ∙ c.in_ok-make.ensures.columns ∙ c.loop-index.invariant.columns in
    left_has c.args.dists.now c.args.systems.now o.system c.presolved.result.now c.presolved.ensures.left columns c.requires.owners
