use Rattle.std.proofs.Common.{◌≡◌, ◌+◌, ◌++◌, ◌∷◌, List, suc, [], length, append_assoc, refl, ap, ap₂, sym, ◌∙◌, subst, arith}
use Rattle.std.specs.Global.{Vec}
use Rattle.std.specs.Prelude.{Some, slice_get, slice_set}
use Rattle.std.specs.List.{All, AllZip}
use Rattle.std.proofs.lemmas.Option.{slice_get_read}
use Rattle.nest_tree.specs.View.{tree_of}
use Rattle.nest_walk.proofs.Grown.{AllZip-append}
use Rattle.sync_plan.specs.declared.plan.Kind.{Kind}
use Rattle.plan_maker.specs.declared.reasons.PhaseReason.{PhaseReason}
use Rattle.plan_maker.specs.declared.search.Search.{Search}
use Rattle.plan_maker.specs.Candidates.{Choice, kinds_taken, weaker_at}
use Rattle.plan_maker.specs.PhaseCauses.{IsPhaseCause}
use Rattle.plan_maker.specs.Searches.{IsCurrent, IsTrial, IsTrialReason, kinds_with, slots_in}
use Rattle.plan_maker.proofs.Choices.{weaker_next}
use Rattle.plan_maker.proofs.Ready.{reason_same, same_twice, taken_search}
use Rattle.plan_maker.proofs.search.Search.settle.Goals as goal

pub returns-in-None-clause-search : goal.returns-in-None-clause-search
returns-in-None-clause-search c =
    let first = c.args.self.now in
    let was = c.loop-place.self in
    let old = c.ask_with.new.self in
    let t = c.args.phase in
    let i = c.loop-place.place in
    let choice : Choice = record { phase = t; place = i } in
    let has = c.in_ok-ask_with.ensures in
    let new : Search = record old { taken = Rattle.std.specs.Vec.with_item old.taken t i } in
    let j = c.index-place-end.result.now in
    let items : old.taken.items ≡ first.taken.items = has.taken ∙ c.loop-place.invariant.taken in
    let at : slice_get old.taken.items t ≡ Some j = ap (λ ts. slice_get ts t) items ∙ slice_get_read first.taken.items (length first.taken.items) t j refl c.requires.phase c.index-place-end.ensures in
    let kinds : kinds_with old choice ≡ kinds_with was choice = ap₂ (λ (cs : Vec (List Kind)) ts. kinds_taken cs.items (slice_set ts t i)) has.same.candidates has.taken in
    let trial : All (IsCurrent old.problem (kinds_with was choice)) old.slots.items = subst (IsTrial old (t + 1) (kinds_with was choice)) c.in-None.is has.trial in
    taken_search old new t i j refl refl refl refl at c.loop-place-test.true has.search (subst (λ ks. All (IsCurrent old.problem ks) old.slots.items) (sym kinds) trial)

pub loop-place-preserved : goal.loop-place-preserved
loop-place-preserved c =
    let first = c.args.self.now in
    let was = c.loop-place.self in
    let s = c.ask_with.new.self in
    let t = c.args.phase in
    let i = c.loop-place.place in
    let choice : Choice = record { phase = t; place = i } in
    let has = c.in_ok-ask_with.ensures in
    let its = c.loop-place.invariant in
    let r : PhaseReason = record { phase = t + 1; kind = c.in_ok-candidate-in-Some.field-0; cause = c.in-Some.cause } in
    let same = same_twice first was s its.same has.same in
    let taken = has.taken ∙ its.taken in
    let kinds : kinds_with s choice ≡ kinds_with was choice = ap₂ (λ (cs : Vec (List Kind)) ts. kinds_taken cs.items (slice_set ts t i)) has.same.candidates has.taken in
    let trial = subst (IsTrial s (t + 1) (kinds_with was choice)) c.in-Some.is has.trial in
    let number : t + 1 ≡ suc t = omega arith in
    let cause = subst (λ u. IsPhaseCause (tree_of s.problem.program.now) s.problem.plan.now (kinds_with was choice) u [] (slots_in s) c.in-Some.cause) number trial in
    let here : IsTrialReason s choice r = record {
      phase = number;
      kind = c.in_ok-candidate-in-Some.ensures ∙ ap (λ cs. Rattle.plan_maker.specs.Candidates.candidate cs choice) c.as_slice.ensures.value;
      cause = subst (λ ks. IsPhaseCause (tree_of s.problem.program.now) s.problem.plan.now ks (suc t) [] (slots_in s) c.in-Some.cause) (sym kinds) cause;
    } in
    let old = its.more in
    record {
      search = has.search;
      same = same;
      taken = taken;
      more = record {
        more = old.more ++ r ∷ [];
        behind = c.in_ok-push-in-Some.ensures.items ∙ ap (λ xs. xs ++ r ∷ []) old.behind ∙ append_assoc c.args.reasons.now.items old.more (r ∷ []);
        reasons = subst (λ cs. AllZip (IsTrialReason first) cs (old.more ++ r ∷ [])) (sym (weaker_next t i))
            (AllZip-append (IsTrialReason first) (weaker_at t i) (choice ∷ []) old.more (r ∷ []) old.reasons (reason_same first s choice r same taken here, tt));
      };
    }
