use Rattle.std.proofs.Common.{◌≡◌, ◌+◌, ◌<◌, Some, get_or, slice_get, length, map, take, ap, sym, ◌∙◌, subst, arith}
use Rattle.std.specs.Prelude.{IfSome}
use Rattle.std.proofs.lemmas.List.{length_push}
use Rattle.std.proofs.lemmas.Option.{get_or_from_slice_get}
use Rattle.farkas_cert.specs.Good.{IsGood}
use Rattle.farkas_cert.specs.Inequalities.{Inequalities}
use Rattle.comm_system.specs.SystemViews.{last_made, obligations_seen}
use Rattle.plan_maker.specs.Asked.{AreRefuted}
use Rattle.plan_maker.specs.Judged.{asked_about}
use Rattle.plan_maker.proofs.Questions.{map_more}
use Rattle.plan_maker.proofs.judge.known_first.Goals as goal

pub loop-index-preserved : goal.loop-index-preserved
loop-index-preserved c =
    let os = obligations_seen c.args.systems.now in
    let i = c.loop-index.index in
    let o = last_made c.make.new.self in
    let cs = c.loop-index.certificates.items in
    let new = c.push.new.self.items in
    let count = c.loop-index.invariant.count in
    let same = c.in_ok-make.ensures.same ∙ c.loop-index.invariant.same in
    let at : slice_get os i ≡ Some o = ap (λ xs. slice_get xs i) (sym same) ∙ c.in_ok-make.ensures.made in
    let here : o ≡ get_or os i o = sym (get_or_from_slice_get os i o o at) in
    let long = ap length c.loop-index.invariant.same in
    let inside : i < length os = omega (arith, c.loop-index-test.true, c.count-index-end.ensures) in
    let found = subst (λ f. IfSome f (IsGood c.system.result.now)) c.in-Some.is c.in_ok-certificate.ensures in
    let left = subst (λ (s : Inequalities). IsGood s c.in-Some.certificate) c.system.ensures.system found in
    let told = c.in_ok-told-in-Some.told in
    let good = c.in_ok-told-in-Some.ensures o.system c.presolved-left.ensures.left left in
    let items = c.in_ok-push-in-Some.ensures.items in
    let size : length new ≡ i + 1 = omega (arith, ap length items, length_push cs told, count) in
    record {
      same = same;
      columns = c.in_ok-make.ensures.columns ∙ c.loop-index.invariant.columns;
      count = size;
      refuted = λ dists.
          let ask = asked_about dists in
          let before = subst (λ n. AreRefuted (map ask (take n os)) cs) count (c.loop-index.invariant.refuted dists) in
          let more = map_more ask os i o inside here cs told before good in
          subst (λ n. AreRefuted (map ask (take n os)) new) (sym size) (subst (AreRefuted (map ask (take (i + 1) os))) (sym items) more);
    }
