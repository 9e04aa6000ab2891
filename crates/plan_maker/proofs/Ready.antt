-- A search, step by step: its slots, what is known of them, and the kinds that are taken.
use Rattle.std.proofs.Common.{◌≡◌, append_assoc, ℕ, zero, suc, ◌+◌, ◌<◌, Bool, true, false, nat_lt, List, [], ◌∷◌, ◌++◌, take, drop, length, map, get_or, set, Option, Some, None, refl, ap, ap₂, sym, ◌∙◌, subst, inl, inr, arith, length-set, ◌^◌}
use Rattle.std.specs.Global.{Vec}
use Rattle.std.specs.Prelude.{◌≢◌, slice_get, slice_set}
use Rattle.std.specs.List.{All, AllZip, flat_map}
use Rattle.std.proofs.lemmas.Bool.Decides.{nat_tests}
use Rattle.std.proofs.lemmas.List.{get_or-set_other, get_or-set_same, get_or-take, length-take-le, take-append-drop, at_drop_more}
use Rattle.std.proofs.lemmas.List.Elements.{All-set}
use Rattle.std.proofs.lemmas.Grind.{flat_map-append}
use Rattle.std.proofs.lemmas.List.{append-nil, length-map, map-append}
use Rattle.std.proofs.lemmas.Option.{get_or_from_slice_get, slice_get_within}
use Rattle.std.proofs.Math.Seq.{map-set_same}
use Rattle.nest_tree.specs.Tree.{Tree}
use Rattle.nest_tree.specs.View.{tree_of}
use Rattle.sync_plan.specs.declared.plan.Kind.{Kind}
use Rattle.sync_plan.specs.declared.plan.Plan.{Plan}
use Rattle.comm_system.specs.Boundaries.{Boundary}
use Rattle.comm_system.specs.Certain.{certain_of}
use Rattle.comm_system.specs.Obligations.{Slot, slot_signature}
use Rattle.comm_system.specs.SideViews.{boundary_seen}
use Rattle.comm_system.specs.SlotViews.{slot_seen}
use Rattle.comm_system.specs.Signatures.{Signature, signature_of}
use Rattle.comm_system.specs.declared.boundary.Boundary.{Boundary as HeldBoundary}
use Rattle.farkas_cert.specs.declared.certificate.Certificate.{Certificate}
use Rattle.plan_maker.specs.declared.cache.Entry.{Entry}
use Rattle.plan_maker.specs.declared.cache.SlotCache.{SlotCache}
use Rattle.plan_maker.specs.declared.cause.Cause.{Cause}
use Rattle.plan_maker.specs.declared.problem.Problem.{Problem}
use Rattle.plan_maker.specs.declared.reasons.PhaseReason.{PhaseReason}
use Rattle.plan_maker.specs.declared.search.Search.{Search}
use Rattle.plan_maker.specs.Asked.{AreRefuted, IsCause, slot_asked}
use Rattle.plan_maker.specs.Caches.{Grows, IsCache, IsEntry, IsHeld, IsRecalled, boundaries_seen, key_seen}
use Rattle.plan_maker.specs.Candidates.{ArePlaces, Choice, candidate, kinds_taken}
use Rattle.plan_maker.specs.Judged.{IsVerdict, Judged}
use Rattle.plan_maker.specs.PhaseCauses.{IsPhaseCause, touches}
use Rattle.plan_maker.specs.Searches.{AreElsewhere, IsCurrent, IsSameSearch, IsSearch, IsTrialReason, IsTried, kinds_in, kinds_with, phases_in, slots_in}
use Rattle.plan_maker.specs.Trials.{HasMoreCertificates, asked_of_slot, slots_asked}
use Rattle.plan_maker.specs.Weakest.{candidates_in}
use Rattle.plan_maker.proofs.Caches.{held_more}
use Rattle.plan_maker.proofs.Questions.{refuted-append}
use Rattle.plan_maker.proofs.TakenKinds.{place_earlier, places_long, untouched}

-- ---- one slot

-- what is known of a slot is kept as its verdicts get more
pub ready_grown : (p : Problem) (kinds : List Kind) (old new : SlotCache) → Grows old new → IsCache (tree_of p.program.now) p.plan.now new → IsCurrent p kinds old → IsCurrent p kinds new
ready_grown p kinds old new grown cache h =
    let tree = tree_of p.program.now in
    let plan = p.plan.now in
    let g = λ (x : Slot). slot_signature plan.version kinds (phases_in p) x in
    let slot : slot_seen new.slot ≡ slot_seen old.slot = ap slot_seen grown.slot in
    let held = held_more tree plan (slot_seen old.slot) (g (slot_seen old.slot)) old.entries.items new.entries.items grown.more grown.behind h.held in
    record {
      certain = ap (λ (v : Vec HeldBoundary). map boundary_seen v.items) grown.boundaries ∙ h.certain ∙ ap (λ (x : Slot). certain_of x (phases_in p)) (sym slot);
      cache = cache;
      held = subst (λ (x : Slot). IsHeld tree plan x (g x) new.entries.items) (sym slot) held;
    }

-- the certificates of a verdict that refutes
pub held_refuted : (tree : Tree) (plan : Plan) (slot : Slot) (g : Signature) (entries : List Entry) → All (IsEntry tree plan slot) entries → IsHeld tree plan slot g entries → (cs : List Certificate) × AreRefuted (slot_asked tree plan slot g) cs
held_refuted tree plan slot g entries all (inl none) = ([], subst (λ qs. AreRefuted qs []) (sym none) tt)
held_refuted tree plan slot g entries all (inr h) =
    let at = get_or_from_slice_get entries h.place h.entry h.entry h.at in
    let here : IsEntry tree plan slot h.entry = subst (IsEntry tree plan slot) at (all h.place h.entry (slice_get_within entries h.place h.entry h.at)) in
    let verdict = subst (λ (v : Judged). IsVerdict (slot_asked tree plan slot (key_seen h.entry.key)) v) h.refuted here in
    (h.certificates.items, subst (λ k. AreRefuted (slot_asked tree plan slot k) h.certificates.items) h.key verdict)

-- a slot of which nothing changes, or which was asked
pub tried_untouched : (p : Problem) (u : ℕ) (kinds others : List Kind) (c : SlotCache) → AreElsewhere u kinds others → touches u (boundaries_seen c) ≡ false → IsCurrent p others c → IsCurrent p kinds c
tried_untouched p u kinds others c same untouches h =
    let slot = slot_seen c.slot in
    let alike = untouched p.plan.now.version kinds others u slot (phases_in p) same (ap (touches u) (sym h.certain) ∙ untouches) in
    record { certain = h.certain; cache = h.cache; held = subst (λ g. IsHeld (tree_of p.program.now) p.plan.now slot g c.entries.items) (sym alike) h.held }

pub grows_not : (c : SlotCache) → Grows c c
grows_not c = record { slot = refl; boundaries = refl; more = []; behind = sym (append-nil c.entries.items) }

pub tried_asked : (p : Problem) (u : ℕ) (kinds others : List Kind) (old new : SlotCache) (o : Option Cause) → Grows old new → IsCache (tree_of p.program.now) p.plan.now new → touches u (boundaries_seen old) ≡ true → IsCurrent p others old →
    IsRecalled (tree_of p.program.now) p.plan.now (slot_seen new.slot) (signature_of p.plan.now.version kinds (boundaries_seen old)) new.entries.items o → IsTried p u kinds new o
tried_asked p u kinds others old new None grown cache touched ready h =
    let grew = ready_grown p others old new grown cache ready in
    let bounds = ap (λ (v : Vec HeldBoundary). map boundary_seen v.items) grown.boundaries in
    record { certain = grew.certain; cache = cache; held = subst (λ (bs : List Boundary). IsHeld (tree_of p.program.now) p.plan.now (slot_seen new.slot) (signature_of p.plan.now.version kinds bs) new.entries.items) (sym bounds ∙ grew.certain) h }
tried_asked p u kinds others old new (Some cause) grown cache touched ready h =
    let grew = ready_grown p others old new grown cache ready in
    let bounds = sym (ap (λ (v : Vec HeldBoundary). map boundary_seen v.items) grown.boundaries) ∙ grew.certain in
    (subst (λ bs. touches u bs ≡ true) bounds touched, subst (λ (bs : List Boundary). IsCause (slot_asked (tree_of p.program.now) p.plan.now (slot_seen new.slot) (signature_of p.plan.now.version kinds bs)) cause) bounds h)

-- ---- the slots

abbrev pub seen : SlotCache → Slot
seen c = slot_seen c.slot

-- where all are ready the systems of all are refuted
pub all_refuted : (p : Problem) (kinds : List Kind) (caches : List SlotCache) → All (IsCurrent p kinds) caches → (cs : List Certificate) × AreRefuted (slots_asked (tree_of p.program.now) p.plan.now kinds (map seen caches)) cs
all_refuted p kinds [] all = ([], tt)
all_refuted p kinds (c ∷ caches) all =
    let tree = tree_of p.program.now in
    let plan = p.plan.now in
    let ready : IsCurrent p kinds c = all zero c (omega arith) in
    let here = held_refuted tree plan (seen c) (slot_signature plan.version kinds (phases_in p) (seen c)) c.entries.items ready.cache.entries ready.held in
    let rest = all_refuted p kinds caches (λ k d lt. all (suc k) d (omega (arith, lt))) in
    (here.0 ++ rest.0, refuted-append (asked_of_slot tree plan kinds (seen c)) (slots_asked tree plan kinds (map seen caches)) here.0 rest.0 here.1 rest.1)

-- one of the slots changed, at this place
module _ (old new : Search) (k : ℕ) (e c : SlotCache) (problem : new.problem ≡ old.problem) (candidates : new.candidates ≡ old.candidates) (taken : new.taken ≡ old.taken) (slots : new.slots.items ≡ set old.slots.items k c) (lt : k < length old.slots.items) (is : e ≡ get_or old.slots.items k e) where
  pub step_same : Grows e c → IsSameSearch old new
  step_same grown = record {
    problem = problem;
    candidates = candidates;
    slots = ap (map seen) slots ∙ map-set_same seen old.slots.items k c e (ap slot_seen grown.slot ∙ ap seen is);
  }

  kinds-same : kinds_in new ≡ kinds_in old
  kinds-same = ap₂ (λ (cs : Vec (List Kind)) (ts : Vec ℕ). kinds_taken cs.items ts.items) candidates taken

  pub step_search : Grows e c → IsCache (tree_of old.problem.program.now) old.problem.plan.now c → IsSearch old → IsSearch new
  step_search grown cache h =
      let was : IsCurrent old.problem (kinds_in old) e = subst (IsCurrent old.problem (kinds_in old)) (sym is) (h.ready k e lt) in
      let all = All-set (IsCurrent old.problem (kinds_in old)) old.slots.items k c (ready_grown old.problem (kinds_in old) e c grown cache was) h.ready in
      record {
        candidates = ap (λ (cs : Vec (List Kind)). cs.items) candidates ∙ h.candidates ∙ ap (λ (p : Problem). candidates_in (tree_of p.program.now) p.plan.now) (sym problem);
        places = subst (λ (cs : Vec (List Kind)). ArePlaces cs.items new.taken.items) (sym candidates) (subst (λ (ts : Vec ℕ). ArePlaces old.candidates.items ts.items) (sym taken) h.places);
        few = subst (λ (ts : Vec ℕ). length ts.items < 2 ^ 20) (sym taken) h.few;
        ready = subst (λ (p : Problem). All (IsCurrent p (kinds_in new)) new.slots.items) (sym problem)
            (subst (λ ks. All (IsCurrent old.problem ks) new.slots.items) (sym kinds-same) (subst (All (IsCurrent old.problem (kinds_in old))) (sym slots) all));
      }

  module _ (kinds : List Kind) (before : (j : ℕ) (d : SlotCache) → j < k → IsCurrent old.problem kinds (get_or old.slots.items j d)) where
    pub step_passed : IsCurrent old.problem kinds c → (j : ℕ) (d : SlotCache) → j < k + 1 → IsCurrent new.problem kinds (get_or new.slots.items j d)
    step_passed ready j d below =
        subst (λ (p : Problem). IsCurrent p kinds (get_or new.slots.items j d)) (sym problem)
        (subst (λ xs. IsCurrent old.problem kinds (get_or xs j d)) (sym slots) (by (nat_lt j k) refl))
      where
        by : (b : Bool) → nat_lt j k ≡ b → IsCurrent old.problem kinds (get_or (set old.slots.items k c) j d)
        by true less =
            let lower : j < k = grind (arith, nat_tests) in
            let other : j ≢ k = λ same. absurd (omega (arith, same, lower)) in
            subst (IsCurrent old.problem kinds) (sym (get_or-set_other old.slots.items k j c d other)) (before j d lower)
        by false more =
            let same : j ≡ k = grind (arith, nat_tests) in
            subst (λ i. IsCurrent old.problem kinds (get_or (set old.slots.items k c) i d)) (sym same) (subst (IsCurrent old.problem kinds) (sym (get_or-set_same old.slots.items k c d lt)) ready)

    -- and the first system that is kept is one of it
    pub step_kept : (u : ℕ) (cause : Cause) → IsTried old.problem u kinds c (Some cause) → IsPhaseCause (tree_of new.problem.program.now) new.problem.plan.now kinds u [] (slots_in new) cause
    step_kept u cause tried =
        let xs = set old.slots.items k c in
        let inside : k < length xs = simp length-set lt in
        let ready : All (IsCurrent old.problem kinds) (take k xs) =
        λ j d low.
        let long : length (take k xs) ≡ k = length-take-le k xs (omega (arith, inside)) in
        let lower : j < k = omega (arith, low, long) in
        let other : j ≢ k = λ same. absurd (omega (arith, same, lower)) in
        subst (IsCurrent old.problem kinds) (sym (get_or-take k xs j d lower ∙ get_or-set_other old.slots.items k j c d other)) (before j d lower) in
        let certificates = all_refuted old.problem kinds (take k xs) ready in
        let front : c ≡ get_or xs k c = sym (get_or-set_same old.slots.items k c c lt) in
        let whole : map seen xs ≡ map seen (take k xs) ++ seen c ∷ map seen (drop (k + 1) xs) =
        ap (map seen) (sym (take-append-drop k xs)) ∙ map-append seen (take k xs) (drop k xs) ∙ ap (λ ys. map seen (take k xs) ++ ys) (at_drop_more (map seen) xs k c inside ∙ ap (λ y. seen y ∷ map seen (drop (k + 1) xs)) (sym front)) in
        subst (λ (p : Problem). IsPhaseCause (tree_of p.program.now) p.plan.now kinds u [] (slots_in new) cause) (sym problem) (record {
          before = map seen (take k xs);
          slot = seen c;
          behind = map seen (drop (k + 1) xs);
          split = ap (map seen) slots ∙ whole;
          certain = tried.0;
          certificates = certificates.0;
          refuted = certificates.1;
          kept = tried.1;
        })

-- another candidate taken in front of a phase, with which each slot is ready
pub taken_search : (old new : Search) (t i j : ℕ) → new.problem ≡ old.problem → new.candidates ≡ old.candidates → new.slots ≡ old.slots → new.taken.items ≡ slice_set old.taken.items t i → slice_get old.taken.items t ≡ Some j → i < j → IsSearch old →
    All (IsCurrent old.problem (kinds_with old (record { phase = t; place = i }))) old.slots.items → IsSearch new
taken_search old new t i j problem candidates slots taken at lt h ready =
    let kinds : kinds_in new ≡ kinds_with old (record { phase = t; place = i }) = ap₂ (λ (cs : Vec (List Kind)) ts. kinds_taken cs.items ts) candidates taken in
    record {
      candidates = ap (λ (cs : Vec (List Kind)). cs.items) candidates ∙ h.candidates ∙ ap (λ (p : Problem). candidates_in (tree_of p.program.now) p.plan.now) (sym problem);
      places = subst (λ (cs : Vec (List Kind)). ArePlaces cs.items new.taken.items) (sym candidates) (subst (ArePlaces old.candidates.items) (sym taken) (place_earlier old.candidates.items old.taken.items t i j at lt h.places));
      few = let long : length new.taken.items ≡ length old.taken.items = ap length taken ∙ simp length-set in omega (arith, long, h.few);
      ready = subst (λ (p : Problem). All (IsCurrent p (kinds_in new)) new.slots.items) (sym problem)
          (subst (λ (v : Vec SlotCache). All (IsCurrent old.problem (kinds_in new)) v.items) (sym slots) (subst (λ ks. All (IsCurrent old.problem ks) old.slots.items) (sym kinds) ready));
    }

-- ---- searches that are the same but for what is taken

pub same_refl : (s : Search) → IsSameSearch s s
same_refl s = record { problem = refl; candidates = refl; slots = refl }

pub same_twice : (a b c : Search) → IsSameSearch a b → IsSameSearch b c → IsSameSearch a c
same_twice a b c h k = record { problem = k.problem ∙ h.problem; candidates = k.candidates ∙ h.candidates; slots = k.slots ∙ h.slots }

pub slots_long : (a b : Search) → IsSameSearch a b → length b.slots.items ≡ length a.slots.items
slots_long a b h = sym (length-map b.slots.items seen) ∙ ap length h.slots ∙ length-map a.slots.items seen

pub kinds_same : (a b : Search) → IsSameSearch a b → b.taken ≡ a.taken → kinds_in b ≡ kinds_in a
kinds_same a b same taken = ap₂ (λ (cs : Vec (List Kind)) (ts : Vec ℕ). kinds_taken cs.items ts.items) same.candidates taken

pub trial_elsewhere : (a b : Search) (u : ℕ) (kinds : List Kind) → IsSameSearch a b → b.taken ≡ a.taken → AreElsewhere u kinds (kinds_in a) → AreElsewhere u kinds (kinds_in b)
trial_elsewhere a b u kinds same taken h k other = h k other ∙ ap (λ ks. slice_get ks k) (sym (kinds_same a b same taken))

same_back : (a b : Search) → IsSameSearch a b → IsSameSearch b a
same_back a b h = record { problem = sym h.problem; candidates = sym h.candidates; slots = sym h.slots }

-- a reason of a search is one of any that is the same and has the same taken
pub reason_same : (a b : Search) (c : Choice) (r : PhaseReason) → IsSameSearch a b → b.taken.items ≡ a.taken.items → IsTrialReason b c r → IsTrialReason a c r
reason_same a b c r same taken h =
    let kinds : kinds_with b c ≡ kinds_with a c = ap₂ (λ (cs : Vec (List Kind)) ts. kinds_taken cs.items (slice_set ts c.phase c.place)) same.candidates taken in
    record {
      phase = h.phase;
      kind = h.kind ∙ ap (λ (cs : Vec (List Kind)). candidate cs.items c) same.candidates;
      cause = subst (λ (p : Problem). IsPhaseCause (tree_of p.program.now) p.plan.now (kinds_with a c) (suc c.phase) [] (slots_in a) r.cause) same.problem
          (subst (λ xs. IsPhaseCause (tree_of b.problem.program.now) b.problem.plan.now (kinds_with a c) (suc c.phase) [] xs r.cause) same.slots
          (subst (λ ks. IsPhaseCause (tree_of b.problem.program.now) b.problem.plan.now ks (suc c.phase) [] (slots_in b) r.cause) kinds h.cause));
    }

pub reasons_kept : (a b : Search) (cs : List Choice) (rs : List PhaseReason) → IsSameSearch a b → b.taken.items ≡ a.taken.items → AllZip (IsTrialReason a) cs rs → AllZip (IsTrialReason b) cs rs
reasons_kept a b [] [] same taken h = tt
reasons_kept a b [] (r ∷ rs) same taken h = absurd h
reasons_kept a b (c ∷ cs) [] same taken h = absurd h
reasons_kept a b (c ∷ cs) (r ∷ rs) same taken h = (reason_same b a c r (same_back a b same) (sym taken) h.0, reasons_kept a b cs rs same taken h.1)

pub taken_long : (a b : Search) → IsSameSearch a b → IsSearch a → IsSearch b → length b.taken.items ≡ length a.taken.items
taken_long a b same h k = places_long b.candidates.items b.taken.items k.places ∙ ap (λ (cs : Vec (List Kind)). length cs.items) same.candidates ∙ sym (places_long a.candidates.items a.taken.items h.places)

-- certificates for the systems of one slot more
pub finish_more : (tree : Tree) (plan : Plan) (kinds : List Kind) (done : List SlotCache) (c : SlotCache) (old all new more : List Certificate) → HasMoreCertificates (slots_asked tree plan kinds (map seen done)) old all → AreRefuted (asked_of_slot tree plan kinds (seen c)) more → new ≡ all ++ more →
    HasMoreCertificates (slots_asked tree plan kinds (map seen (done ++ c ∷ []))) old new
finish_more tree plan kinds done c old all new more h refuted is =
    let f = asked_of_slot tree plan kinds in
    let split : slots_asked tree plan kinds (map seen (done ++ c ∷ [])) ≡ slots_asked tree plan kinds (map seen done) ++ f (seen c) =
    ap (flat_map f) (map-append seen done (c ∷ [])) ∙ flat_map-append f (map seen done) (seen c ∷ []) ∙ ap (λ qs. slots_asked tree plan kinds (map seen done) ++ qs) (append-nil (f (seen c))) in
    record {
      more = h.more ++ more;
      behind = is ∙ ap (λ cs. cs ++ more) h.behind ∙ append_assoc old h.more more;
      refuted = subst (λ qs. AreRefuted qs (h.more ++ more)) (sym split) (refuted-append (slots_asked tree plan kinds (map seen done)) (f (seen c)) h.more more h.refuted refuted);
    }

pub taken_now : (s : Search) (candidates : List (List Kind)) (taken : List ℕ) → candidates ≡ s.candidates.items → taken ≡ s.taken.items → kinds_taken candidates taken ≡ kinds_in s
taken_now s candidates taken h k = ap₂ kinds_taken h k
