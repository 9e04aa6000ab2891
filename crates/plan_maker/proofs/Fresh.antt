-- The beginning of a search: a barrier stands in front of each phase, so no slot has a system; and what the candidates are.
use Rattle.std.proofs.Common.{◌≡◌, ◌^◌, ap₂, ℕ, zero, suc, ◌+◌, ◌-◌, ◌<◌, true, false, ◌&&◌, List, [], ◌∷◌, ◌++◌, length, map, append_assoc, Some, None, if◌then◌else◌, refl, ap, sym, ◌∙◌, subst, inl, arith}
use Rattle.std.specs.Prelude.{slice_get}
use Rattle.std.specs.List.{All, AllByRecursion, AllZip, filter, flat_map, list_all}
use Rattle.std.proofs.lemmas.Bool.{and_from, and_parts}
use Rattle.std.proofs.lemmas.List.Folds.{list_all-append}
use Rattle.std.proofs.lemmas.List.{append-nil, length-append, length-map}
use Rattle.std.proofs.lemmas.List.Elements.{filter-append}
use Rattle.nest_walk.proofs.Grown.{AllZip-append}
use Rattle.nest_tree.specs.Tree.{Tree}
use Rattle.nest_tree.specs.View.{tree_of}
use Rattle.nest_tree.specs.WellFormed.{names_only}
use Rattle.nest_rows.proofs.Nesting.{all-weaker}
use Rattle.owner_partition.specs.declared.anchor.Anchor.{Anchor}
use Rattle.owner_partition.specs.declared.cut.Mark.{Mark}
use Rattle.sync_plan.specs.declared.plan.Kind.{Kind}
use Rattle.sync_plan.specs.declared.plan.Kind.TheVariants.{Nothing, Producer, Left, Right, Both, Barrier}
use Rattle.sync_plan.specs.declared.plan.Plan.{Plan}
use Rattle.sync_plan.specs.Shape.{has_places, wrong_field}
use Rattle.comm_system.specs.Certain.{certain_of}
use Rattle.comm_system.specs.Obligations.{Slot, slot_signature, slot_tasks, slots_of}
use Rattle.comm_system.specs.References.{StaticPhase, phases_of}
use Rattle.comm_system.specs.Signatures.{Signature, blocked, has_places_in, waits}
use Rattle.comm_system.specs.SlotViews.{slot_seen}
use Rattle.comm_system.proofs.ShapeParts.{shaped}
use Rattle.plan_checker.proofs.Blocked.{none_of_slots}
use Rattle.plan_checker.proofs.Agreeing.{all_kept}
use Rattle.plan_maker.specs.declared.cache.SlotCache.{SlotCache}
use Rattle.plan_maker.specs.declared.problem.Problem.{Problem}
use Rattle.plan_maker.specs.Asked.{asked, owners_dealt, slot_asked}
use Rattle.plan_maker.specs.Caches.{IsEntry}
use Rattle.maker_anchors.proofs.Kept.{owner_kept}
use Rattle.maker_candidates.specs.Candidates.{candidates_at, candidates_from, producers_at, round}
use Rattle.maker_candidates.proofs.Lists.{candidates_get, candidates_long}
use Rattle.maker_candidates.proofs.Owned.{producers_all}
use Rattle.plan_maker.specs.Candidates.{ArePlaces, kinds_taken, last_places, or_barrier}
use Rattle.plan_maker.specs.Meeting.{meets}
use Rattle.plan_maker.specs.declared.search.Search.{Search}
use Rattle.plan_maker.specs.Searches.{AreFresh, IsFresh, IsCurrent, IsSearch, kinds_in, phases_in}
use Rattle.plan_maker.specs.Weakest.{candidates_in}
use Rattle.plan_maker.proofs.Caches.{got_last}
use Rattle.plan_maker.proofs.Ready.{seen}

-- ---- the last candidate is a barrier

last-of : {X : Type 0} (xs : List X) (x : X) → slice_get (xs ++ x ∷ []) (length (xs ++ x ∷ []) - 1) ≡ Some x
last-of xs x = let at : length (xs ++ x ∷ []) - 1 ≡ length xs = omega (arith, length-append xs (x ∷ [])) in ap (slice_get (xs ++ x ∷ [])) at ∙ got_last xs x

barrier_last : (tree : Tree) (marks : List Mark) (workers : ℕ) (anchors : List Anchor) (phases : List StaticPhase) (u : ℕ) (t : StaticPhase) → slice_get (candidates_at tree marks workers anchors phases u t) (length (candidates_at tree marks workers anchors phases u t) - 1) ≡ Some Barrier
barrier_last tree marks workers anchors phases u t =
    let producers = map Producer (producers_at tree marks workers anchors phases u t) in
    let split : candidates_at tree marks workers anchors phases u t ≡ (Nothing ∷ (producers ++ Left ∷ Right ∷ Both ∷ [])) ++ Barrier ∷ [] = ap (λ ks. Nothing ∷ ks) (sym (append_assoc producers (Left ∷ Right ∷ Both ∷ []) (Barrier ∷ []))) in
    ap (λ (ks : List Kind). slice_get ks (length ks - 1)) split ∙ last-of (Nothing ∷ (producers ++ Left ∷ Right ∷ Both ∷ [])) Barrier

places_last : (tree : Tree) (marks : List Mark) (workers : ℕ) (anchors : List Anchor) (phases : List StaticPhase) (u : ℕ) (ts : List StaticPhase) → ArePlaces (candidates_from tree marks workers anchors phases u ts) (last_places (candidates_from tree marks workers anchors phases u ts))
places_last tree marks workers anchors phases u [] = tt
places_last tree marks workers anchors phases u (t ∷ ts) = (omega arith, places_last tree marks workers anchors phases (suc u) ts)

taken-last : (candidates : List (List Kind)) (k : ℕ) (ks : List Kind) → slice_get candidates k ≡ Some ks → slice_get (kinds_taken candidates (last_places candidates)) k ≡ Some (or_barrier (slice_get ks (length ks - 1)))
taken-last [] k ks at = absurd (let no : None ≡ Some ks = at in cc)
taken-last (c ∷ candidates) zero ks at = let same : c ≡ ks = cc in ap (λ (x : List Kind). Some (or_barrier (slice_get x (length x - 1)))) same
taken-last (c ∷ candidates) (suc k) ks at = taken-last candidates k ks at

-- ---- nothing is asked of the slots

none-here : {X Y : Type 0} (f : X → List Y) (x : X) (ys : List Y) → f x ++ ys ≡ [] → (f x ≡ []) × (ys ≡ [])
none-here f x ys none = by (f x) refl
  where
    by : (zs : List _) → f x ≡ zs → (f x ≡ []) × (ys ≡ [])
    by [] is = (is, ap (λ zs. zs ++ ys) (sym is) ∙ none)
    by (z ∷ zs) is = absurd (let clash = ap (λ ws. ws ++ ys) (sym is) ∙ none in cc)

none-each : {X Y : Type 0} (f : X → List Y) (xs : List X) → flat_map f xs ≡ [] → AllByRecursion (λ x. f x ≡ []) xs
none-each f [] none = tt
none-each f (x ∷ xs) none = let parts = none-here f x (flat_map f xs) none in (parts.0, none-each f xs parts.1)

module _ (tree : Tree) (plan : Plan) where
  abbrev phases : List StaticPhase
  phases = phases_of tree plan.cut.marks

  abbrev kinds : List Kind
  kinds = kinds_taken (candidates_in tree plan) (last_places (candidates_in tree plan))

  abbrev barred : Plan
  barred = record plan { kinds = kinds }

  barriers : (k : ℕ) (x : StaticPhase) → slice_get phases k ≡ Some x → slice_get kinds k ≡ Some Barrier
  barriers k x at =
      taken-last (candidates_in tree plan) k (candidates_at tree plan.cut.marks plan.workers plan.anchors phases (1 + k) x) (candidates_get tree plan.cut.marks plan.workers plan.anchors phases 1 phases k x at) ∙ ap (λ o. Some (or_barrier o)) (barrier_last tree plan.cut.marks plan.workers plan.anchors phases (1 + k) x)

  unasked-at : (slot : Slot) (g : Signature) → slot_tasks tree barred slot g ≡ [] → slot_asked tree plan slot g ≡ []
  unasked-at slot blocked none = refl
  unasked-at slot (waits left right producers) none = ap (map (asked (owners_dealt plan slot producers))) none

  pub none_asked : AllByRecursion (λ slot. slot_asked tree plan slot (slot_signature plan.version kinds phases slot) ≡ []) (filter meets (slots_of phases))
  none_asked =
      all_kept (λ slot. slot_asked tree plan slot (slot_signature plan.version kinds phases slot) ≡ []) meets (slots_of phases)
      (all-weaker (λ slot. slot_tasks tree barred slot (slot_signature plan.version kinds phases slot) ≡ []) (λ slot. slot_asked tree plan slot (slot_signature plan.version kinds phases slot) ≡ []) (slots_of phases)
      (λ slot none. unasked-at slot (slot_signature plan.version kinds phases slot) none)
      (none-each (λ slot. slot_tasks tree barred slot (slot_signature plan.version kinds phases slot)) (slots_of phases) (none_of_slots tree barred phases barriers)))

-- ---- so all slots are ready

pub fresh_slots : (ps : List StaticPhase) (slots : List Slot) (caches : List SlotCache) → AllZip (IsFresh ps) slots caches → map seen caches ≡ slots
fresh_slots ps [] [] h = refl
fresh_slots ps [] (c ∷ caches) h = absurd h
fresh_slots ps (x ∷ slots) [] h = absurd h
fresh_slots ps (x ∷ slots) (c ∷ caches) h = ap (λ y. y ∷ map seen caches) h.0.slot_is ∙ ap (λ ys. x ∷ ys) (fresh_slots ps slots caches h.1)

-- one slot more, with accesses that conflict or without
pub fresh_more : (ps : List StaticPhase) (slots : List Slot) (x : Slot) (caches : List SlotCache) (c : SlotCache) → meets x ≡ true → AreFresh ps slots caches → IsFresh ps x c → AreFresh ps (slots ++ x ∷ []) (caches ++ c ∷ [])
fresh_more ps slots x caches c meet h new =
    let split : filter meets (slots ++ x ∷ []) ≡ filter meets slots ++ x ∷ [] = filter-append meets slots (x ∷ []) ∙ ap (λ b. filter meets slots ++ (if b then x ∷ [] else [])) meet in
    subst (λ xs. AllZip (IsFresh ps) xs (caches ++ c ∷ [])) (sym split) (AllZip-append (IsFresh ps) (filter meets slots) (x ∷ []) caches (c ∷ []) h (new, tt))

pub fresh_none : (ps : List StaticPhase) (slots : List Slot) (x : Slot) (caches : List SlotCache) → meets x ≡ false → AreFresh ps slots caches → AreFresh ps (slots ++ x ∷ []) caches
fresh_none ps slots x caches meet h =
    let split : filter meets (slots ++ x ∷ []) ≡ filter meets slots = filter-append meets slots (x ∷ []) ∙ ap (λ b. filter meets slots ++ (if b then x ∷ [] else [])) meet ∙ append-nil (filter meets slots) in
    subst (λ xs. AllZip (IsFresh ps) xs caches) (sym split) h

fresh-one : (p : Problem) (kinds : List Kind) (slot : Slot) (c : SlotCache) → IsFresh (phases_in p) slot c → slot_asked (tree_of p.program.now) p.plan.now slot (slot_signature p.plan.now.version kinds (phases_in p) slot) ≡ [] → IsCurrent p kinds c
fresh-one p kinds slot c fresh none =
    let tree = tree_of p.program.now in
    let plan = p.plan.now in
    let empty : All (IsEntry tree plan (slot_seen c.slot)) c.entries.items = subst (All (IsEntry tree plan (slot_seen c.slot))) (sym fresh.empty) (λ k d lt. absurd (omega (arith, lt))) in
    record {
      certain = fresh.certain ∙ ap (λ (x : Slot). certain_of x (phases_in p)) (sym fresh.slot_is);
      cache = record { few = fresh.few; entries = empty };
      held = inl (ap (λ (x : Slot). slot_asked tree plan x (slot_signature plan.version kinds (phases_in p) x)) fresh.slot_is ∙ none);
    }

pub fresh_ready : (p : Problem) (kinds : List Kind) (slots : List Slot) (caches : List SlotCache) → AllZip (IsFresh (phases_in p)) slots caches →
    AllByRecursion (λ slot. slot_asked (tree_of p.program.now) p.plan.now slot (slot_signature p.plan.now.version kinds (phases_in p) slot) ≡ []) slots → All (IsCurrent p kinds) caches
fresh_ready p kinds [] [] h none k d lt = absurd (omega (arith, lt))
fresh_ready p kinds [] (c ∷ caches) h none k d lt = absurd h
fresh_ready p kinds (x ∷ slots) [] h none k d lt = absurd h
fresh_ready p kinds (x ∷ slots) (c ∷ caches) h none zero d lt = fresh-one p kinds x c h.0 none.0
fresh_ready p kinds (x ∷ slots) (c ∷ caches) h none (suc k) d lt = fresh_ready p kinds slots caches h.1 none.1 k d (omega (arith, lt))

-- so a search begins with a barrier in front of each phase
pub new_search : (s : Search) → s.candidates.items ≡ candidates_in (tree_of s.problem.program.now) s.problem.plan.now → s.taken.items ≡ last_places s.candidates.items → length (phases_in s.problem) < 2 ^ 20 → AreFresh (phases_in s.problem) (slots_of (phases_in s.problem)) s.slots.items → IsSearch s
new_search s is last few fresh =
    let tree = tree_of s.problem.program.now in
    let plan = s.problem.plan.now in
    let all = candidates_in tree plan in
    let taken : s.taken.items ≡ last_places all = last ∙ ap last_places is in
    let kinds : kinds_in s ≡ kinds_taken all (last_places all) = ap₂ kinds_taken is taken in
    let long : length all ≡ length (phases_in s.problem) = candidates_long tree plan.cut.marks plan.workers plan.anchors (phases_in s.problem) 1 (phases_in s.problem) in
    let places : length (last_places all) ≡ length all = length-map all (λ ks. length ks - 1) in
    record {
      candidates = is;
      places = subst (λ (cs : List (List Kind)). ArePlaces cs s.taken.items) (sym is) (subst (ArePlaces all) (sym taken) (places_last tree plan.cut.marks plan.workers plan.anchors (phases_in s.problem) 1 (phases_in s.problem)));
      few = omega (arith, ap length taken, places, long, few);
      ready = subst (λ ks. All (IsCurrent s.problem ks) s.slots.items) (sym kinds) (fresh_ready s.problem (kinds_taken all (last_places all)) (filter meets (slots_of (phases_in s.problem))) s.slots.items fresh (none_asked tree plan));
    }

-- ---- the blocks of the candidates' producers have places

producers-have : (anchors : List Anchor) → AllByRecursion (λ (a : Anchor). has_places a.dist ≡ true) anchors → list_all has_places_in (map Producer anchors) ≡ true
producers-have [] h = refl
producers-have (a ∷ anchors) h = and_from (has_places a.dist) (list_all has_places_in (map Producer anchors)) h.0 (producers-have anchors h.1)

placed-get : (anchors : List Anchor) (k : ℕ) (a : Anchor) → list_all (λ (a : Anchor). has_places a.dist) anchors ≡ true → slice_get anchors k ≡ Some a → has_places a.dist ≡ true
placed-get [] k a h at = absurd (let no : None ≡ Some a = at in cc)
placed-get (b ∷ anchors) zero a h at =
    let same : b ≡ a = cc in
    subst (λ (x : Anchor). has_places x.dist ≡ true) same (and_parts (has_places b.dist) (list_all (λ (x : Anchor). has_places x.dist) anchors) h).0
placed-get (b ∷ anchors) (suc k) a h at = placed-get anchors k a (and_parts (has_places b.dist) (list_all (λ (x : Anchor). has_places x.dist) anchors) h).1 at

candidates-have : (tree : Tree) (marks : List Mark) (workers : ℕ) (anchors : List Anchor) (all : List StaticPhase) (u : ℕ) (ts : List StaticPhase) → list_all (λ (a : Anchor). has_places a.dist) anchors ≡ true →
    list_all (λ ks. list_all has_places_in ks) (candidates_from tree marks workers anchors all u ts) ≡ true
candidates-have tree marks workers anchors all u [] h = refl
candidates-have tree marks workers anchors all u (t ∷ ts) h =
    let producers = producers_at tree marks workers anchors all u t in
    let P : Anchor → Type 0 = λ a. has_places a.dist ≡ true in
    let owners = producers_all tree marks workers u t P anchors all (λ j s a at anchor can. placed-get anchors j a h anchor)
    (λ x a e. (and_parts (names_only (length tree.params) (round t) a.form) (has_places a.dist) (owner_kept tree marks workers u (round t) x a e).good).1) in
    let here : list_all has_places_in (candidates_at tree marks workers anchors all u t) ≡ true = list_all-append has_places_in (map Producer producers) (Left ∷ Right ∷ Both ∷ Barrier ∷ []) ∙ ap (λ b. b && true) (producers-have producers owners) in
    and_from (list_all has_places_in (candidates_at tree marks workers anchors all u t)) (list_all (λ ks. list_all has_places_in ks) (candidates_from tree marks workers anchors all (suc u) ts)) here (candidates-have tree marks workers anchors all (suc u) ts h)

pub all_have : (tree : Tree) (plan : Plan) → wrong_field tree plan ≡ None → list_all (λ ks. list_all has_places_in ks) (candidates_in tree plan) ≡ true
all_have tree plan none = candidates-have tree plan.cut.marks plan.workers plan.anchors (phases_of tree plan.cut.marks) 1 (phases_of tree plan.cut.marks) (shaped tree plan none).anchors
