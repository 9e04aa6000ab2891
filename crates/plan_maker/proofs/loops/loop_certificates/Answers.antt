use Rattle.std.proofs.Common.{◌≡◌, ◌+◌, ◌-◌, length, length-append, map, take, refl, ap, ◌∙◌, subst, arith}
use Rattle.std.specs.Prelude.{Some, slice_get}
use Rattle.std.proofs.lemmas.Iterator.Adapters.{YieldsList-from_vec}
use Rattle.std.proofs.lemmas.Iterator.Consumers.{YieldsList-end, YieldsList-turn}
use Rattle.std.proofs.lemmas.Option.{slice_get_read}
use Rattle.std.proofs.Math.Seq.{take-length}
use Rattle.plan_maker.specs.Asked.{AreRefuted}
use Rattle.plan_maker.specs.Loops.{loops_asked, loops_paths_asked, own_in, tried_in}
use Rattle.maker_marks.specs.Privates.{own_at}
use Rattle.maker_marks.specs.Tries.{tried_at}
use Rattle.plan_maker.proofs.LoopTrips.{loops_more, paths_more}
use Rattle.plan_maker.proofs.loops.loop_certificates.Goals as goal

pub mark_in-mark-requires : goal.mark_in-mark-requires
mark_in-mark-requires c =
    let into = c.into_iter-verdict-iterator.ensures.into_iter_gives in
    let road = YieldsList-from_vec {s = c.into_iter-verdict-iterator.result} c.args.verdicts.items into.0 (into.1 ∙ c.args.verdicts.ok.0) in
    let turn = YieldsList-turn road c.loop-verdict.yielded c.loop-verdict.verdict-iterator c.loop-verdict.yielded_by c.next.result c.next.new.self c.in-Some.verdict c.in-Some.is c.next.ensures.steps in
    omega (arith, turn.0, c.loop-verdict.invariant.place, c.requires)

pub loop-verdict-preserved : goal.loop-verdict-preserved
loop-verdict-preserved c =
    let into = c.into_iter-verdict-iterator.ensures.into_iter_gives in
    let road = YieldsList-from_vec {s = c.into_iter-verdict-iterator.result} c.args.verdicts.items into.0 (into.1 ∙ c.args.verdicts.ok.0) in
    let turn = YieldsList-turn road c.loop-verdict.yielded c.loop-verdict.verdict-iterator c.loop-verdict.yielded_by c.next.result c.next.new.self c.in-Some.verdict c.in-Some.is c.next.ensures.steps in
    let vs = c.args.verdicts.items in
    let k = c.loop-verdict.place in
    let v = c.in-Some.verdict in
    let place = c.loop-verdict.invariant.place in
    let there : slice_get vs k ≡ Some v = ap (slice_get vs) place ∙ slice_get_read vs (length vs) (length c.loop-verdict.yielded) v refl turn.0 turn.1 in
    let number : k + 1 - 1 ≡ k = omega arith in
    record {
      place = simp length-append (omega (arith, place));
      trips = λ tree all.
          loops_more tree vs c.args.marks.now k c.mark_in-mark.result v c.loop-verdict.certificates.trips.items c.push_certificates.new.certificates.trips.items c.mark_in-mark.ensures there (c.loop-verdict.invariant.trips tree all)
          (c.in_ok-push_certificates.ensures.trips tree (k + 1) (all (k + 1) v (omega arith) (ap (slice_get vs) number ∙ there)));
      paths = λ tree all.
          paths_more tree vs c.args.marks.now k c.mark_in-mark.result v c.loop-verdict.certificates.paths.items c.push_certificates.new.certificates.paths.items c.mark_in-mark.ensures there (c.loop-verdict.invariant.paths tree all)
          (c.in_ok-push_certificates.ensures.paths tree (k + 1) (all (k + 1) v (omega arith) (ap (slice_get vs) number ∙ there)));
    }

pub returns-clause-trips : goal.returns-clause-trips
returns-clause-trips c = λ tree all.
    let into = c.into_iter-verdict-iterator.ensures.into_iter_gives in
    let road = YieldsList-from_vec {s = c.into_iter-verdict-iterator.result} c.args.verdicts.items into.0 (into.1 ∙ c.args.verdicts.ok.0) in
    let finish = YieldsList-end road c.loop-verdict.yielded c.loop-verdict.verdict-iterator c.loop-verdict.yielded_by c.next.result c.next.new.self c.in-None.is c.next.ensures.steps in
    let marks = c.args.marks.now in
    let whole : take c.loop-verdict.place marks ≡ marks = ap (λ k. take k marks) (c.loop-verdict.invariant.place ∙ finish.1 ∙ c.requires) ∙ take-length marks in
    subst (λ ms. AreRefuted (loops_asked tree (tried_at (map tried_in c.args.verdicts.items)) (own_at (map own_in c.args.verdicts.items)) 1 ms) c.loop-verdict.certificates.trips.items) whole (c.loop-verdict.invariant.trips tree all)

pub returns-clause-paths : goal.returns-clause-paths
returns-clause-paths c = λ tree all.
    let into = c.into_iter-verdict-iterator.ensures.into_iter_gives in
    let road = YieldsList-from_vec {s = c.into_iter-verdict-iterator.result} c.args.verdicts.items into.0 (into.1 ∙ c.args.verdicts.ok.0) in
    let finish = YieldsList-end road c.loop-verdict.yielded c.loop-verdict.verdict-iterator c.loop-verdict.yielded_by c.next.result c.next.new.self c.in-None.is c.next.ensures.steps in
    let marks = c.args.marks.now in
    let whole : take c.loop-verdict.place marks ≡ marks = ap (λ k. take k marks) (c.loop-verdict.invariant.place ∙ finish.1 ∙ c.requires) ∙ take-length marks in
    subst (λ ms. AreRefuted (loops_paths_asked tree (tried_at (map tried_in c.args.verdicts.items)) (own_at (map own_in c.args.verdicts.items)) 1 ms) c.loop-verdict.certificates.paths.items) whole (c.loop-verdict.invariant.paths tree all)
