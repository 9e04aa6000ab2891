-- The weakest kinds that were found.
use Rattle.std.proofs.Common.{◌≡◌, ℕ, suc, ◌++◌, List, [], ◌∷◌, ap, sym, ◌∙◌, subst}
use Rattle.std.specs.Prelude.{slice_set}
use Rattle.std.specs.List.{AllZip, filter}
use Rattle.farkas_cert.specs.declared.certificate.Certificate.{Certificate}
use Rattle.nest_tree.specs.Tree.{Tree}
use Rattle.nest_tree.specs.View.{tree_of}
use Rattle.sync_plan.specs.declared.plan.Kind.{Kind}
use Rattle.sync_plan.specs.declared.plan.Plan.{Plan}
use Rattle.comm_system.specs.Obligations.{Slot, slots_of}
use Rattle.plan_maker.specs.declared.cause.Cause.{Cause}
use Rattle.plan_maker.specs.declared.maker.Weakest.{Weakest}
use Rattle.plan_maker.specs.declared.reasons.PhaseReason.{PhaseReason}
use Rattle.plan_maker.specs.declared.problem.Problem.{Problem}
use Rattle.plan_maker.specs.declared.search.Search.{Search}
use Rattle.plan_maker.specs.Asked.{AreRefuted, all_paths_asked, all_trips_asked}
use Rattle.plan_maker.specs.Candidates.{ArePlaces, Choice, candidate, kinds_taken, weaker_from}
use Rattle.plan_maker.specs.Meeting.{meets}
use Rattle.plan_maker.specs.PhaseCauses.{IsPhaseCause}
use Rattle.plan_maker.specs.Searches.{HasCertificates, IsSearch, IsTrialReason, kinds_in, kinds_with, phases_in, slots_in}
use Rattle.plan_maker.specs.Trials.{slots_asked}
use Rattle.plan_maker.specs.Weakest.{IsPhaseReason, IsWeakest, asked_under, candidates_in}
use Rattle.plan_maker.proofs.Meeting.{meeting_among, meeting_asked}
use Rattle.plan_maker.proofs.Questions.{refuted-append}

pub zip_weaker : {A B : Type 0} (R S : A → B → Type 0) (xs : List A) (ys : List B) → ((x : A) (y : B) → R x y → S x y) → AllZip R xs ys → AllZip S xs ys
zip_weaker R S [] [] f h = tt
zip_weaker R S [] (y ∷ ys) f h = absurd h
zip_weaker R S (x ∷ xs) [] f h = absurd h
zip_weaker R S (x ∷ xs) (y ∷ ys) f h = (f x y h.0, zip_weaker R S xs ys f h.1)

-- the first system that is kept, of the slots with accesses that conflict, is the first of all, behind those of two trips
phase-cause : (tree : Tree) (plan : Plan) (kinds : List Kind) (u : ℕ) (trips : List Certificate) (slots : List Slot) (cause : Cause) → AreRefuted (all_trips_asked tree plan) trips → IsPhaseCause tree plan kinds u [] (filter meets slots) cause →
    IsPhaseCause tree plan kinds u (all_trips_asked tree plan) slots cause
phase-cause tree plan kinds u trips slots cause refuted h =
    let among = meeting_among slots h.before h.behind h.slot h.split in
    let front = among.0 in
    let asked : slots_asked tree plan kinds h.before ≡ slots_asked tree plan kinds front = ap (slots_asked tree plan kinds) (sym among.3) ∙ meeting_asked tree plan kinds front in
    record {
      before = front;
      slot = h.slot;
      behind = among.1;
      split = among.2;
      certain = h.certain;
      certificates = trips ++ h.certificates;
      refuted = refuted-append (all_trips_asked tree plan) (slots_asked tree plan kinds front) trips h.certificates refuted (subst (λ qs. AreRefuted qs h.certificates) asked h.refuted);
      kept = h.kept;
    }

-- what a search ends with
module _ (s : Search) (trips paths : List Certificate) where
  abbrev tree : Tree
  tree = tree_of s.problem.program.now

  abbrev plan : Plan
  plan = s.problem.plan.now

  module _ (search : IsSearch s) (refuted : AreRefuted (all_trips_asked tree plan) trips) (more-refuted : AreRefuted (all_paths_asked tree plan) paths) (slots : slots_in s ≡ filter meets (slots_of (phases_in s.problem))) where
    weak : (c : Choice) (r : PhaseReason) → IsTrialReason s c r → IsPhaseReason tree plan s.taken.items c r
    weak c r h =
        let kinds : kinds_with s c ≡ kinds_taken (candidates_in tree plan) (slice_set s.taken.items c.phase c.place) = ap (λ cs. kinds_taken cs (slice_set s.taken.items c.phase c.place)) search.candidates in
        let here = subst (λ xs. IsPhaseCause tree plan (kinds_with s c) (suc c.phase) [] xs r.cause) slots h.cause in
        record {
          phase = h.phase;
          kind = h.kind ∙ ap (λ cs. candidate cs c) search.candidates;
          cause = phase-cause tree plan (kinds_taken (candidates_in tree plan) (slice_set s.taken.items c.phase c.place)) (suc c.phase) trips (slots_of (phases_in s.problem)) r.cause refuted
              (subst (λ ks. IsPhaseCause tree plan ks (suc c.phase) [] (filter meets (slots_of (phases_in s.problem))) r.cause) kinds here);
        }

    pub weakest_is : (w : Weakest) (found : List Certificate) → w.kinds.items ≡ kinds_in s → HasCertificates s trips found → w.certificates.items ≡ found ++ paths → AllZip (IsTrialReason s) (weaker_from 0 s.taken.items) w.reasons.items → IsWeakest tree plan w
    weakest_is w found kinds more behind reasons =
        let all = slots_of (phases_in s.problem) in
        let asked : slots_asked tree plan (kinds_in s) (slots_in s) ≡ slots_asked tree plan w.kinds.items all =
        ap (slots_asked tree plan (kinds_in s)) slots ∙ meeting_asked tree plan (kinds_in s) all ∙ ap (λ ks. slots_asked tree plan ks all) (sym kinds) in
        let whole = refuted-append (all_trips_asked tree plan) (slots_asked tree plan w.kinds.items all) trips more.more refuted (subst (λ qs. AreRefuted qs more.more) asked more.refuted) in
        record {
          taken = s.taken.items;
          places = subst (λ cs. ArePlaces cs s.taken.items) search.candidates search.places;
          kinds = kinds ∙ ap (λ cs. kinds_taken cs s.taken.items) search.candidates;
          certified = subst (AreRefuted (asked_under tree plan w.kinds.items)) (sym (behind ∙ ap (λ cs. cs ++ paths) more.behind)) (refuted-append (all_trips_asked tree plan ++ slots_asked tree plan w.kinds.items all) (all_paths_asked tree plan) (trips ++ more.more) paths whole more-refuted);
          reasons = zip_weaker (IsTrialReason s) (IsPhaseReason tree plan s.taken.items) (weaker_from 0 s.taken.items) w.reasons.items weak reasons;
        }

-- of the problem that it began with
pub weakest_for : (p : Problem) (s : Search) (trips paths : List Certificate) → s.problem ≡ p → IsSearch s → AreRefuted (all_trips_asked (tree_of p.program.now) p.plan.now) trips → AreRefuted (all_paths_asked (tree_of p.program.now) p.plan.now) paths → slots_in s ≡ filter meets (slots_of (phases_in p)) →
    (w : Weakest) (found : List Certificate) → w.kinds.items ≡ kinds_in s → HasCertificates s trips found → w.certificates.items ≡ found ++ paths → AllZip (IsTrialReason s) (weaker_from 0 s.taken.items) w.reasons.items → IsWeakest (tree_of p.program.now) p.plan.now w
weakest_for p s trips paths e search refuted more-refuted slots w found kinds more behind reasons =
    let here = subst (λ (q : Problem). AreRefuted (all_trips_asked (tree_of q.program.now) q.plan.now) trips) (sym e) refuted in
    let last = subst (λ (q : Problem). AreRefuted (all_paths_asked (tree_of q.program.now) q.plan.now) paths) (sym e) more-refuted in
    let there = subst (λ (q : Problem). slots_in s ≡ filter meets (slots_of (phases_in q))) (sym e) slots in
    subst (λ (q : Problem). IsWeakest (tree_of q.program.now) q.plan.now w) e (weakest_is s trips paths search here last there w found kinds more behind reasons)
