-- The instances of a phase as jobs: in each trip all are one processor's, and each private scalar that is loaded was stored by it before; so all are good.
use Rattle.std.proofs.Common.{◌≡◌, ℕ, ◌+◌, ◌-◌, ◌<◌, Bool, true, false, true≢false, ◌&&◌, ◌||◌, not, List, [], ◌∷◌, ◌++◌, fold, map, Option, Some, refl, ap, sym, subst, ◌∙◌, inl, inr, append_assoc, is_none}
use Rattle.std.specs.Prelude.{Contains}
use Rattle.std.specs.List.{All, AllByRecursion, list_any}
use Rattle.std.proofs.lemmas.Bool.{and_parts, cases_Bool}
use Rattle.std.proofs.lemmas.List.{map-append}
use Rattle.std.proofs.lemmas.List.Elements.{All-cons, All-head, All-nil, All-tail}
use Rattle.std.proofs.lemmas.List.Sums.{fold-append}
use Rattle.list_lemmas.proofs.Each.{All-left, All-right}
use Rattle.nest_tree.specs.Layout.{first_cell}
use Rattle.nest_tree.specs.Loads.{loads_in_work}
use Rattle.nest_tree.specs.Tree.{Work, assign, print, Tree}
use Rattle.nest_tree.specs.WellFormed.{IsWellFormed}
use Rattle.nest_model.specs.Accesses.{loads_of}
use Rattle.nest_model.specs.Instances.{Instance}
use Rattle.nest_model.specs.Ranges.{is_instance_inside}
use Rattle.nest_model.specs.Visits.{Visit}
use Rattle.own_scalars.specs.OwnScalars.{has_access, is_of, is_other, is_plain_store, loads, stores}
use Rattle.sync_plan.specs.declared.plan.Plan.{Plan}
use Rattle.sync_plan.specs.Own.{is_cell_of, own_loop, own_of}
use Rattle.spmd_model.specs.Closings.{phase_owner}
use Rattle.spmd_model.specs.Planned.{job_of}
use Rattle.spmd_model.specs.Timelines.{Job}
use Rattle.spmd_model.specs.Trips.{IsAway, IsTrip, last_behind}
use Rattle.spmd_model.proofs.CellsThere.{IsGoodWork}
use Rattle.spmd_model.proofs.InstanceJobs.{good_job, load_is, store_is}
use Rattle.spmd_model.proofs.LastStores.{StoresFirst}
use Rattle.spmd_model.proofs.OwnRuns.{AreGoodJobs}
use Rattle.spmd_model.proofs.OwnTexts.{AreOwnIn, IsScalar, cell_there, not_both, private_is}
use Rattle.spmd_model.proofs.Stands.{plain_store, slot_there}
use Rattle.spmd_model.proofs.Trips.{before_load}

-- ---- a trip

by_recursion : {X Y : Type 0} (P : X → Type 0) (Q : Y → Type 0) (f : X → Y) (xs : List X) → ((x : X) → P x → Q (f x)) → All P xs → AllByRecursion Q (map f xs)
by_recursion P Q f [] h all = tt
by_recursion P Q f (x ∷ xs) h all = (h x (All-head P x xs all), by_recursion P Q f xs h (All-tail P x xs all))

-- what is asked of an instance of a phase by its text and its cells
pub record IsFineIn (tree : Tree) (plan : Plan) (v : Visit) (i : Instance) : Type 0 where
  pub good : IsGoodWork tree i
  pub inside : is_instance_inside tree i ≡ true
  pub summed : (u : ℕ) → Contains (own_loop tree plan v.place).sums u → is_other u i.what ≡ false
  pub worker : phase_owner tree plan v i.loops < plan.workers

module _ (tree : Tree) (plan : Plan) (e : ℕ) (v : Visit) (formed : IsWellFormed tree) (o : AreOwnIn tree plan v) where
  abbrev pub job_in_phase : Instance → Job
  job_in_phase i = job_of tree plan (record { phase = e; place = v.place; instance = i })

  -- a list of instances of one owner, where each private scalar is stored first
  module _ (is : List Instance) (p : ℕ) (owners : All (λ (i : Instance). phase_owner tree plan v i.loops ≡ p) is) (fine : All (IsFineIn tree plan v) is)
      (first : (u : ℕ) → Contains (own_loop tree plan v.place).privates u → (n : ℕ) × StoresFirst u n is) where
    no_loads : (u : ℕ) → IsScalar tree u → (i : Instance) → IsFineIn tree plan v i → list_any (is_of u) (loads_in_work i.what) ≡ false → Contains (loads_of tree i) (first_cell tree u) → ⊥
    no_loads u scalar i f none among = true≢false (sym (load_is tree formed f.good.around i.loops u scalar i.what f.good.good f.inside among) ∙ none)

    neither_one : (a b : Bool) → (a || b) ≡ false → (a ≡ false) × (b ≡ false)
    neither_one true b e = absurd (true≢false e)
    neither_one false b e = (refl, e)

    away : (u : ℕ) → IsScalar tree u → (i : Instance) → IsFineIn tree plan v i → has_access u i.what ≡ false → IsAway (first_cell tree u) (job_in_phase i)
    away u scalar i f none =
        let both = neither_one (list_any (is_of u) (loads_in_work i.what)) (stores u i.what) none in
        record {
          loads = no_loads u scalar i f both.0;
          store = λ stored. true≢false (sym (store_is tree formed f.good.around i.loops u scalar i.what f.good.good f.inside stored) ∙ both.1);
        }

    unloaded : (u : ℕ) (w : Work) → is_plain_store u w ≡ true → list_any (is_of u) (loads_in_work w) ≡ false
    unloaded u (assign a) plain = not_true (loads u a.value) (and_parts (is_of u a.target) (not (loads u a.value)) (and_parts (is_of u a.target && not (loads u a.value)) (is_none a.guard) plain).0).1
      where
        not_true : (b : Bool) → not b ≡ true → b ≡ false
        not_true true h = absurd (true≢false (sym h))
        not_true false h = refl
    unloaded u (print q) plain = absurd (true≢false (sym plain))

    pub trip : (u : ℕ) → Contains (own_loop tree plan v.place).privates u → IsTrip (own_of tree plan v.place) (first_cell tree u) p (map job_in_phase is)
    trip u among =
        let s = (first u among).1 in
        let scalar = (private_is tree plan v o u among).1 in
        let split_fine = subst (All (IsFineIn tree plan v)) s.split fine in
        let store_fine = All-head (IsFineIn tree plan v) s.store s.after (All-right (IsFineIn tree plan v) s.before (s.store ∷ s.after) split_fine) in
        let both : All (λ (i : Instance). IsFineIn tree plan v i × (has_access u i.what ≡ false)) s.before = paired s.before (All-left (IsFineIn tree plan v) s.before (s.store ∷ s.after) split_fine) s.away in
        record {
          owners = by_recursion (λ (i : Instance). phase_owner tree plan v i.loops ≡ p) (λ (j : Job). j.owner ≡ p) job_in_phase is (λ i h. h) owners;
          before = map job_in_phase s.before;
          first = job_in_phase s.store;
          after = map job_in_phase s.after;
          is = ap (map job_in_phase) s.split ∙ map-append job_in_phase s.before (s.store ∷ s.after);
          away = by_recursion (λ (i : Instance). IsFineIn tree plan v i × (has_access u i.what ≡ false)) (IsAway (first_cell tree u)) job_in_phase s.before (λ i h. away u scalar i h.0 h.1) both;
          stores = plain_store tree u s.store.loops s.store.what scalar s.plain;
          clean = no_loads u scalar s.store store_fine (unloaded u s.store.what s.plain);
        }
      where
        paired : (xs : List Instance) → All (IsFineIn tree plan v) xs → All (λ (i : Instance). has_access u i.what ≡ false) xs → All (λ (i : Instance). IsFineIn tree plan v i × (has_access u i.what ≡ false)) xs
        paired [] a b = All-nil (λ (i : Instance). IsFineIn tree plan v i × (has_access u i.what ≡ false))
        paired (x ∷ xs) a b =
            let Q = λ (i : Instance). has_access u i.what ≡ false in
            All-cons (λ (i : Instance). IsFineIn tree plan v i × (has_access u i.what ≡ false)) x xs (All-head (IsFineIn tree plan v) x xs a, All-head Q x xs b) (paired xs (All-tail (IsFineIn tree plan v) x xs a) (All-tail Q x xs b))

    pub not_sum : (u : ℕ) → Contains (own_loop tree plan v.place).privates u → is_cell_of tree (own_loop tree plan v.place).sums (first_cell tree u) ≡ false
    not_sum u among = elim (cases_Bool (is_cell_of tree (own_loop tree plan v.place).sums (first_cell tree u))) [
      | inl summed ↦ absurd (not_both tree plan v o (first_cell tree u) (cell_there tree (own_loop tree plan v.place).privates u among) summed)
      | inr failed ↦ failed
    ]

    good_from : (last : ℕ → Option ℕ) (xs ys : List Instance) → is ≡ xs ++ ys → AreGoodJobs (own_of tree plan v.place) (fold (last_behind (own_of tree plan v.place)) last (map job_in_phase xs)) (map job_in_phase ys)
    good_from last xs [] same = tt
    good_from last xs (y ∷ ys) same =
        let all = subst (All (IsFineIn tree plan v)) same fine in
        let f = All-head (IsFineIn tree plan v) y ys (All-right (IsFineIn tree plan v) xs (y ∷ ys) all) in
        let owner = All-head (λ (i : Instance). phase_owner tree plan v i.loops ≡ p) y ys (All-right (λ (i : Instance). phase_owner tree plan v i.loops ≡ p) xs (y ∷ ys) (subst (All (λ (i : Instance). phase_owner tree plan v i.loops ≡ p)) same owners)) in
        let behind = fold (last_behind (own_of tree plan v.place)) last (map job_in_phase xs) in
        let jobs_split = ap (map job_in_phase) same ∙ map-append job_in_phase xs (y ∷ ys) in
        let kept = λ (u : ℕ) (among : Contains (own_loop tree plan v.place).privates u) (loaded : Contains (loads_of tree y) (first_cell tree u)).
        let s = slot_there tree plan v o (first_cell tree u) (inl (cell_there tree (own_loop tree plan v.place).privates u among)) in
        before_load (own_of tree plan v.place) (first_cell tree u) s.0 p s.1 (not_sum u among) last (map job_in_phase is) (map job_in_phase xs) (job_in_phase y) (map job_in_phase ys) (trip u among) jobs_split loaded ∙ ap Some (sym owner) in
        let moved : xs ++ (y ∷ ys) ≡ (xs ++ y ∷ []) ++ ys = sym (append_assoc xs (y ∷ []) ys) in
        let next_is : fold (last_behind (own_of tree plan v.place)) last (map job_in_phase (xs ++ y ∷ [])) ≡ last_behind (own_of tree plan v.place) behind (job_in_phase y) =
        ap (fold (last_behind (own_of tree plan v.place)) last) (map-append job_in_phase xs (y ∷ [])) ∙ fold-append (last_behind (own_of tree plan v.place)) last (map job_in_phase xs) (job_in_phase y ∷ []) in (
          good_job tree plan e v formed o y f.good f.inside behind kept f.summed,
          refl,
          f.worker,
          subst (λ l. AreGoodJobs (own_of tree plan v.place) l (map job_in_phase ys)) next_is (good_from last (xs ++ y ∷ []) ys (same ∙ moved)),
        )

    pub trip_good : (last : ℕ → Option ℕ) → AreGoodJobs (own_of tree plan v.place) last (map job_in_phase is)
    trip_good last = good_from last [] is refl
