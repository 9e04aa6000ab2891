-- The plan that is made.
use Rattle.std.proofs.Common.{◌≡◌, ℕ, zero, suc, ◌-◌, ◌<◌, ◌++◌, List, [], ◌∷◌, length, map, refl, ap, ap₂, sym, ◌∙◌, subst, arith}
use Rattle.std.specs.Prelude.{slice_get, Some, slice_set}
use Rattle.std.specs.List.{AllZip, flat_map}
use Rattle.std.proofs.lemmas.List.{map-append}
use Rattle.farkas_cert.specs.declared.certificate.Certificate.{Certificate}
use Rattle.nest_tree.specs.Tree.{Tree}
use Rattle.nest_tree.specs.WellFormed.{IsWellFormed, loops_of}
use Rattle.owner_partition.specs.declared.anchor.Dist.{Dist}
use Rattle.owner_partition.specs.Cuts.{Cutting}
use Rattle.sync_plan.specs.Barriers.{barrier_plan}
use Rattle.sync_plan.specs.Fit.{IsFit}
use Rattle.sync_plan.specs.declared.plan.Kind.{Kind}
use Rattle.sync_plan.specs.declared.plan.Plan.{Plan}
use Rattle.comm_system.specs.Obligations.{Slot, Task, numbered_from, paths_tasks, slot_signature, slot_tasks, slots_of, tasks_of, trips_tasks}
use Rattle.comm_system.specs.References.{StaticPhase, phases_of}
use Rattle.comm_system.specs.Signatures.{Signature, blocked, waits}
use Rattle.plan_checker.specs.Accepted.{AreCertified}
use Rattle.plan_checker.proofs.Blocked.{barriers_accepted}
use Rattle.plan_maker.specs.declared.cause.Cause.{Cause}
use Rattle.plan_maker.specs.declared.verdict.Verdict.TheVariants.{Refuted, Kept}
use Rattle.plan_maker.specs.declared.maker.Weakest.{Weakest}
use Rattle.plan_maker.specs.declared.reasons.PhaseReason.{PhaseReason}
use Rattle.plan_maker.specs.declared.reasons.Reasons.{Reasons}
use Rattle.maker_anchors.specs.Anchors.{maker_anchors}
use Rattle.plan_maker.specs.Asked.{AreRefuted, Asked, IsCause, all_paths_asked, all_trips_asked, asked, owners_dealt, paths_asked, slot_asked, trips_asked}
use Rattle.plan_maker.specs.Bars.{IsChosen, IsLoopReason, IsReasonedCut, all_attempts, open_loops}
use Rattle.plan_maker.specs.Candidates.{kinds_taken, weaker_from}
use Rattle.maker_marks.specs.Cut.{cut_of}
use Rattle.plan_maker.specs.Loops.{AreLoopVerdicts, IsLoopVerdict, LoopVerdict, own_in, tried_in}
use Rattle.maker_marks.specs.Privates.{own_at}
use Rattle.plan_maker.specs.Made.{IsBarrierPlan, IsMade, with_found}
use Rattle.plan_maker.specs.Numbers.{IsHeld}
use Rattle.plan_maker.specs.PhaseCauses.{IsPhaseCause}
use Rattle.plan_maker.specs.Trials.{asked_of_slot, slots_asked}
use Rattle.maker_marks.specs.Tries.{tried_at}
use Rattle.plan_maker.specs.Weakest.{IsPhaseReason, IsWeakest, asked_under, candidates_in}
use Rattle.plan_maker.proofs.CandidatesFit.{candidates_fit}
use Rattle.plan_maker.proofs.Marked.{own_is, tried_is}
use Rattle.plan_maker.proofs.Verdicts.{trips_same}
use Rattle.plan_maker.proofs.Weakest.{zip_weaker}

tasks_asked : (dists : List Dist) (tasks : List Task) → map (λ (q : Asked). q.task) (map (asked dists) tasks) ≡ tasks
tasks_asked dists [] = refl
tasks_asked dists (k ∷ tasks) = ap (λ ks. k ∷ ks) (tasks_asked dists tasks)

map-flat : {X A B : Type 0} (f : A → B) (g : X → List A) (h : X → List B) → ((x : X) → map f (g x) ≡ h x) → (xs : List X) → map f (flat_map g xs) ≡ flat_map h xs
map-flat f g h each [] = refl
map-flat f g h each (x ∷ xs) = map-append f (g x) (flat_map g xs) ∙ ap₂ (λ a b. a ++ b) (each x) (map-flat f g h each xs)

flat-same : {X A : Type 0} (g h : X → List A) → ((x : X) → g x ≡ h x) → (xs : List X) → flat_map g xs ≡ flat_map h xs
flat-same g h each [] = refl
flat-same g h each (x ∷ xs) = ap₂ (λ a b. a ++ b) (each x) (flat-same g h each xs)

certified-numbered : (n : ℕ) (qs : List Asked) (cs : List Certificate) → AreRefuted qs cs → AreCertified (numbered_from n (map (λ (q : Asked). q.task) qs)) cs
certified-numbered n [] [] h = tt
certified-numbered n [] (c ∷ cs) h = absurd h
certified-numbered n (q ∷ qs) [] h = absurd h
certified-numbered n (q ∷ qs) (c ∷ cs) h = (h.0, certified-numbered (suc n) qs cs h.1)

module _ (tree : Tree) (base : Plan) (kinds : List Kind) (certificates : List Certificate) where
  abbrev found : Plan
  found = with_found base kinds certificates

  abbrev all-slots : List Slot
  all-slots = slots_of (phases_of tree base.cut.marks)

  abbrev signature : List Kind → Slot → Signature
  signature ks slot = slot_signature base.version ks (phases_of tree base.cut.marks) slot

  trips-tasks : (s : StaticPhase) → map (λ (q : Asked). q.task) (trips_asked tree base s) ≡ trips_tasks tree found s
  trips-tasks s = tasks_asked [] (trips_tasks tree base s)

  paths-tasks : (s : StaticPhase) → map (λ (q : Asked). q.task) (paths_asked tree base s) ≡ paths_tasks tree found s
  paths-tasks s = tasks_asked [] (paths_tasks tree base s)

  slot-tasks : (slot : Slot) (sig : Signature) → map (λ (q : Asked). q.task) (slot_asked tree base slot sig) ≡ slot_tasks tree found slot sig
  slot-tasks slot blocked = refl
  slot-tasks slot (waits left right producers) = tasks_asked (owners_dealt base slot producers) (slot_tasks tree base slot (waits left right producers))

  all-tasks : map (λ (q : Asked). q.task) (asked_under tree base kinds) ≡ tasks_of tree found
  all-tasks =
      let phases = phases_of tree base.cut.marks in
      let trips = map-flat (λ (q : Asked). q.task) (trips_asked tree base) (trips_tasks tree found) trips-tasks phases in
      let slots = map-flat (λ (q : Asked). q.task) (asked_of_slot tree base kinds) (λ slot. slot_tasks tree found slot (signature kinds slot)) (λ slot. slot-tasks slot (signature kinds slot)) all-slots in
      let paths = map-flat (λ (q : Asked). q.task) (paths_asked tree base) (paths_tasks tree found) paths-tasks phases in
      map-append (λ (q : Asked). q.task) (all_trips_asked tree base ++ slots_asked tree base kinds all-slots) (all_paths_asked tree base)
      ∙ ap₂ (λ a b. a ++ b) (map-append (λ (q : Asked). q.task) (all_trips_asked tree base) (slots_asked tree base kinds all-slots) ∙ ap₂ (λ a b. a ++ b) trips slots) paths

  pub certified : AreRefuted (asked_under tree base kinds) certificates → AreCertified (numbered_from 1 (tasks_of tree found)) certificates
  certified h = subst (λ ks. AreCertified (numbered_from 1 ks) certificates) all-tasks (certified-numbered 1 (asked_under tree base kinds) certificates h)

  -- nothing that is asked depends on the kinds and the certificates that the plan has
  slot-same : (slot : Slot) (sig : Signature) → slot_asked tree base slot sig ≡ slot_asked tree found slot sig
  slot-same slot blocked = refl
  slot-same slot (waits left right producers) = refl

  slots-same : (ks : List Kind) (slots : List Slot) → slots_asked tree base ks slots ≡ slots_asked tree found ks slots
  slots-same ks slots = flat-same (asked_of_slot tree base ks) (asked_of_slot tree found ks) (λ slot. slot-same slot (signature ks slot)) slots

  cause-same : (ks : List Kind) (u : ℕ) (cause : Cause) → IsPhaseCause tree base ks u (all_trips_asked tree base) all-slots cause → IsPhaseCause tree found ks u (all_trips_asked tree found) all-slots cause
  cause-same ks u cause h =
      let before = ap₂ (λ a b. a ++ b) (trips_same tree base found refl refl (phases_of tree base.cut.marks)) (slots-same ks h.before) in
      record {
        before = h.before;
        slot = h.slot;
        behind = h.behind;
        split = h.split;
        certain = h.certain;
        certificates = h.certificates;
        refuted = subst (λ qs. AreRefuted qs h.certificates) before h.refuted;
        kept = subst (λ qs. IsCause qs cause) (slot-same h.slot (signature ks h.slot)) h.kept;
      }

  pub phase_reasons : (taken : List ℕ) (rs : List PhaseReason) → AllZip (IsPhaseReason tree base taken) (weaker_from 0 taken) rs → AllZip (IsPhaseReason tree found taken) (weaker_from 0 taken) rs
  phase_reasons taken rs h =
      zip_weaker (IsPhaseReason tree base taken) (IsPhaseReason tree found taken) (weaker_from 0 taken) rs
      (λ c r w. record { phase = w.phase; kind = w.kind; cause = cause-same (kinds_taken (candidates_in tree base) (slice_set taken c.phase c.place)) (suc c.phase) r.cause w.cause }) h

-- the whole
pub made_is : (tree : Tree) (workers : ℕ) (cut : Cutting) (base : Plan) (w : Weakest) (plan : Plan) (reasons : Reasons) → IsWellFormed tree → base ≡ barrier_plan cut (maker_anchors tree cut.marks workers) workers [] → plan ≡ with_found base w.kinds.items w.certificates.items →
    IsFit tree base → IsWeakest tree base w → IsHeld plan → IsReasonedCut tree cut → AllZip (IsLoopReason tree) (all_attempts tree (open_loops 1 cut.marks)) reasons.loops.items → reasons.phases.items ≡ w.reasons.items → IsMade tree workers plan reasons
made_is tree workers cut base w plan reasons formed base-is plan-is fit weak numbers reasoned loops phases =
    let anchors = maker_anchors tree cut.marks workers in
    let kinds = w.kinds.items in
    let certificates = w.certificates.items in
    let start = barrier_plan cut anchors workers [] in
    let whole : plan ≡ with_found start kinds certificates = plan-is ∙ ap (λ b. with_found b kinds certificates) base-is in
    let here = subst (λ b. IsWeakest tree b w) base-is weak in
    let fits = candidates_fit tree start formed (subst (IsFit tree) base-is fit) here.taken certificates refl here.places in
    let made : IsMade tree workers (with_found start kinds certificates) reasons = record {
      version = refl;
      conditions = refl;
      workers_are = refl;
      accepted = record { fits = subst (λ ks. IsFit tree (with_found start ks certificates)) (sym here.kinds) fits; certified = certified tree start kinds certificates here.certified };
      numbers = subst IsHeld whole numbers;
      cut = reasoned;
      loops = loops;
      anchors = refl;
      taken = here.taken;
      places = here.places;
      kinds = here.kinds;
      phases = subst (λ rs. AllZip (IsPhaseReason tree (with_found start kinds certificates) here.taken) (weaker_from 0 here.taken) rs) (sym phases) (phase_reasons tree start kinds certificates here.taken w.reasons.items here.reasons);
    } in
    subst (λ p. IsMade tree workers p reasons) (sym whole) made

-- a loop may be dealt out as its verdict says
verdict-there : (vs : List LoopVerdict) (k : ℕ) → k < length vs → (v : LoopVerdict) × (slice_get vs k ≡ Some v)
verdict-there [] k lt = absurd (omega (arith, lt))
verdict-there (v ∷ vs) zero lt = (v, refl)
verdict-there (v ∷ vs) (suc k) lt = verdict-there vs k (omega (arith, lt))

chosen-by : (tree : Tree) (n : ℕ) (v : LoopVerdict) → IsLoopVerdict tree n v → IsChosen tree n (tried_in v) (own_in v)
chosen-by tree n (Refuted dealt) h = h.0
chosen-by tree n (Kept reasons) h = record { reasons = reasons.items; barred = h.0; sure = h.1 }

pub reasoned : (tree : Tree) (vs : List LoopVerdict) (cut : Cutting) → length vs ≡ loops_of tree.items → AreLoopVerdicts tree vs → cut ≡ cut_of (tried_at (map tried_in vs)) (own_at (map own_in vs)) tree → IsReasonedCut tree cut
reasoned tree vs cut long all is = record {
  dealt = tried_at (map tried_in vs);
  own = own_at (map own_in vs);
  cut_is = is;
  why = λ n from to.
      let there = verdict-there vs (n - 1) (omega (arith, long, from, to)) in
      let here = subst (λ o. IsChosen tree n o (own_in there.0)) (tried_is vs (n - 1) there.0 there.1) (chosen-by tree n there.0 (all n there.0 from there.1)) in
      subst (IsChosen tree n (tried_at (map tried_in vs) n)) (own_is vs (n - 1) there.0 there.1) here;
}

-- the same with a barrier in front of each phase
pub barriers_are : (tree : Tree) (workers : ℕ) (cut : Cutting) (base plan : Plan) (certificates : List Certificate) → base ≡ barrier_plan cut (maker_anchors tree cut.marks workers) workers [] → plan ≡ barrier_plan base.cut base.anchors workers certificates →
    IsFit tree base → AreRefuted (all_trips_asked tree base ++ all_paths_asked tree base) certificates → IsHeld plan → IsReasonedCut tree cut → IsBarrierPlan tree workers plan
barriers_are tree workers cut base plan certificates base-is plan-is fit refuted numbers reasoned =
    let anchors = maker_anchors tree cut.marks workers in
    let start = barrier_plan cut anchors workers [] in
    let here = subst (λ b. AreRefuted (all_trips_asked tree b ++ all_paths_asked tree b) certificates) base-is refuted in
    let trips = map-flat (λ (q : Asked). q.task) (trips_asked tree start) (trips_tasks tree start) (λ s. tasks_asked [] (trips_tasks tree start s)) (phases_of tree cut.marks) in
    let paths = map-flat (λ (q : Asked). q.task) (paths_asked tree start) (paths_tasks tree start) (λ s. tasks_asked [] (paths_tasks tree start s)) (phases_of tree cut.marks) in
    let tasks = map-append (λ (q : Asked). q.task) (all_trips_asked tree start) (all_paths_asked tree start) ∙ ap₂ (λ a b. a ++ b) trips paths in
    let whole : plan ≡ barrier_plan cut anchors workers certificates = plan-is ∙ ap (λ b. barrier_plan b.cut b.anchors workers certificates) base-is in
    let good = subst (λ ks. AreCertified (numbered_from 1 ks) certificates) tasks (certified-numbered 1 (all_trips_asked tree start ++ all_paths_asked tree start) certificates here) in
    let made : IsBarrierPlan tree workers (barrier_plan cut anchors workers certificates) = record {
      version = refl;
      conditions = refl;
      workers_are = refl;
      accepted = barriers_accepted tree cut anchors workers certificates (subst (IsFit tree) base-is fit) good;
      numbers = subst IsHeld whole numbers;
      cut = reasoned;
      anchors = refl;
      kinds = refl;
    } in
    subst (IsBarrierPlan tree workers) (sym whole) made
