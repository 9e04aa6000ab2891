-- All instances of a phase are good jobs, behind which each private scalar was stored last by the owner of the last trip.
use Rattle.std.proofs.Common.{◌≡◌, ℕ, suc, ◌+◌, ◌<◌, ℤ, Bool, true, false, true≢false, not, List, [], ◌∷◌, ◌++◌, fold, map, Option, Some, if◌then◌else◌, refl, ap, sym, subst, ◌∙◌, arith, inl}
use Rattle.std.specs.Prelude.{Contains, slice_get}
use Rattle.std.specs.List.{All, flat_map}
use Rattle.std.proofs.lemmas.Bool.{and_parts}
use Rattle.std.proofs.lemmas.Grind.{flat_map-append}
use Rattle.std.proofs.lemmas.List.{append-nil, map-append}
use Rattle.std.proofs.lemmas.List.Elements.{All-cons, All-nil}
use Rattle.std.proofs.lemmas.List.Sums.{fold-append}
use Rattle.list_lemmas.proofs.Each.{All-left, All-right}
use Rattle.nest_tree.specs.Layout.{first_cell}
use Rattle.nest_tree.specs.Tree.{Work, Head, Statement, Statements, do_loop, work, continue, Tree, param_values}
use Rattle.nest_tree.specs.WellFormed.{IsWellFormed}
use Rattle.nest_model.specs.Instances.{Instance, head_trips, instances_in, instances_of, is_executed, with_loop}
use Rattle.nest_model.specs.Ranges.{IsInRange}
use Rattle.nest_model.specs.Visits.{Visit}
use Rattle.own_scalars.specs.OwnScalars.{is_other, is_private, is_sum, some_in, some_of, stores}
use Rattle.owner_partition.specs.Cuts.{privates_of}
use Rattle.owner_partition.specs.Phases.{Execution, executions, visit_instances, phases}
use Rattle.owner_partition.proofs.Sites.{all_at}
use Rattle.sync_plan.specs.declared.plan.Plan.{Plan}
use Rattle.sync_plan.specs.Conflicts.{last_value, owner_under, works_before}
use Rattle.sync_plan.specs.Fit.{IsFit}
use Rattle.sync_plan.specs.Own.{OwnLoop, own_loop, own_loop_of, own_of}
use Rattle.sync_plan.specs.Stored.{AreStoredFirst}
use Rattle.sync_plan.proofs.FitOwners.{owners_below}
use Rattle.spmd_model.specs.Closings.{phase_owner}
use Rattle.spmd_model.specs.Trips.{last_behind}
use Rattle.spmd_model.proofs.CellsThere.{IsGoodWork, execution_inside, good_of}
use Rattle.spmd_model.proofs.LastStores.{StoresFirst, last_among, last_split, none_in, stores_first}
use Rattle.spmd_model.proofs.OwnRuns.{AreGoodJobs, good_behind}
use Rattle.spmd_model.proofs.OwnTexts.{AreOwnIn, cell_there, own_in_phase, private_is, sum_is}
use Rattle.spmd_model.proofs.Stands.{execution_place, execution_there, in_phase, slot_there}
use Rattle.spmd_model.proofs.TripJobs.{IsFineIn, job_in_phase, not_sum, trip, trip_good}
use Rattle.spmd_model.proofs.TripOwners.{one_owner}
use Rattle.spmd_model.proofs.Trips.{behind_trip}

pub all_from : {X : Type 0} (P : X → Type 0) (xs : List X) → ((k : ℕ) (x : X) → slice_get xs k ≡ Some x → P x) → All P xs
all_from P [] h = All-nil P
all_from P (x ∷ xs) h = All-cons P x xs (h 0 x refl) (all_from P xs (λ k y at. h (suc k) y at))

module _ (tree : Tree) (plan : Plan) (k : ℕ) (v : Visit) (formed : IsWellFormed tree) (fits : IsFit tree plan) (ranges : IsInRange tree) (at : slice_get (phases tree plan.cut.marks) k ≡ Some v) where
  abbrev pub own_text : AreOwnIn tree plan v
  own_text = own_in_phase tree plan k v formed fits at

  no_others : (u : ℕ) (s : Statement) → is_sum u (own_loop_of plan.cut s).body ≡ true → some_in (is_other u) s ≡ false
  no_others u (do_loop head body) is = not_true (some_of (is_other u) body) (and_parts (some_of (stores u) body) (not (some_of (is_other u) body)) is).1
    where
      not_true : (b : Bool) → not b ≡ true → b ≡ false
      not_true true h = absurd (true≢false (sym h))
      not_true false h = refl
  no_others u (work w) is = absurd (true≢false (sym is))
  no_others u (continue line) is = refl

  pub all_fine : All (IsFineIn tree plan v) (visit_instances (param_values tree) v)
  all_fine = all_from (IsFineIn tree plan v) (visit_instances (param_values tree) v) (λ n i there.
      let o = own_in_phase tree plan k v formed fits at in
      let params = param_values tree in
      let number = execution_place params (phases tree plan.cut.marks) k + n in
      let x = in_phase (1 + k) v i in
      let execution = execution_there params 1 (phases tree plan.cut.marks) k n v i at there in
      record {
        good = all_at (IsGoodWork tree) (visit_instances params v) n i (good_of tree params v.what o.around o.number v.first v.loops o.good) there;
        inside = execution_inside tree plan.cut.marks number x ranges execution;
        summed = λ u among. all_at (λ (j : Instance). is_other u j.what ≡ false) (visit_instances params v) n i (none_in params (is_other u) v.what v.first v.loops (no_others u v.what (sum_is tree plan v o u among).0)) there;
        worker = all_at (λ (y : Execution). owner_under tree plan y < plan.workers) (executions tree plan.cut.marks) number x (owners_below tree plan formed fits) execution;
      })

  -- the trips of a loop, from any state on
  module _ (stored : AreStoredFirst tree plan) (head : Head) (body : Statements) (what : v.what ≡ do_loop head body) where
    pub first_stores : (x : ℤ) → Contains (head_trips (param_values tree) head v.loops) x → (u : ℕ) → Contains (own_loop tree plan v.place).privates u → (n : ℕ) × StoresFirst u n (instances_in (param_values tree) body v.first (with_loop v.loops head.number x))
    first_stores x there u among =
        let o = own_in_phase tree plan k v formed fits at in
        let private : is_private u body ≡ true = ap (λ (s : Statement). is_private u (own_loop_of plan.cut s).body) (sym what) ∙ (private_is tree plan v o u among).0 in
        let mine : Contains (privates_of plan.cut.privates head.number) u = subst (λ (l : OwnLoop). Contains l.privates u) (o.loop_is ∙ ap (own_loop_of plan.cut) what) among in
        (v.first + works_before u body, stores_first (param_values tree) u body v.first (with_loop v.loops head.number x) private (stored k v head body x u at what there mine))

    trips_good : (xs : List ℤ) (last : ℕ → Option ℕ) → ((x : ℤ) → Contains xs x → Contains (head_trips (param_values tree) head v.loops) x) → All (IsFineIn tree plan v) (flat_map (λ x. instances_in (param_values tree) body v.first (with_loop v.loops head.number x)) xs) →
        AreGoodJobs (own_of tree plan v.place) last (map (job_in_phase tree plan (1 + k) v formed (own_in_phase tree plan k v formed fits at)) (flat_map (λ x. instances_in (param_values tree) body v.first (with_loop v.loops head.number x)) xs))
    trips_good [] last there fine = tt
    trips_good (x ∷ xs) last there fine =
        let o = own_in_phase tree plan k v formed fits at in
        let job = job_in_phase tree plan (1 + k) v formed o in
        let f : ℤ → List Instance = λ y. instances_in (param_values tree) body v.first (with_loop v.loops head.number y) in
        let here = trip_good tree plan (1 + k) v formed o (f x) (phase_owner tree plan v (with_loop v.loops head.number x)) (one_owner tree plan k v head body x formed fits at what) (All-left (IsFineIn tree plan v) (f x) (flat_map f xs) fine) (first_stores x (there x (0, omega arith, refl))) last in
        let later = trips_good xs (fold (last_behind (own_of tree plan v.place)) last (map job (f x))) (λ y (n, lt, is). there y (suc n, omega (arith, lt), is)) (All-right (IsFineIn tree plan v) (f x) (flat_map f xs) fine) in
        subst (AreGoodJobs (own_of tree plan v.place) last) (sym (map-append job (f x) (flat_map f xs))) (good_behind (own_of tree plan v.place) last (map job (f x)) (map job (flat_map f xs)) here later)

    -- behind the last of them
    pub last_kept : (last : ℕ → Option ℕ) (value : ℤ) (u : ℕ) → Contains (own_loop tree plan v.place).privates u → last_value (head_trips (param_values tree) head v.loops) ≡ Some value →
        fold (last_behind (own_of tree plan v.place)) last (map (job_in_phase tree plan (1 + k) v formed (own_in_phase tree plan k v formed fits at)) (visit_instances (param_values tree) v)) (first_cell tree u) ≡ Some (phase_owner tree plan v (with_loop v.loops head.number value))
    last_kept last value u among is =
        let o = own_in_phase tree plan k v formed fits at in
        let own = own_of tree plan v.place in
        let job = job_in_phase tree plan (1 + k) v formed o in
        let f : ℤ → List Instance = λ y. instances_in (param_values tree) body v.first (with_loop v.loops head.number y) in
        let p = phase_owner tree plan v (with_loop v.loops head.number value) in
        let split = last_split (head_trips (param_values tree) head v.loops) value is in
        let all : visit_instances (param_values tree) v ≡ flat_map f split.0 ++ f value =
        ap (λ (s : Statement). instances_of (param_values tree) s v.first v.loops) what ∙ ap (flat_map f) split.1 ∙ flat_map-append f split.0 (value ∷ []) ∙ ap (λ l. flat_map f split.0 ++ l) (append-nil (f value)) in
        let fine = All-right (IsFineIn tree plan v) (flat_map f split.0) (f value) (subst (All (IsFineIn tree plan v)) all all_fine) in
        let s = slot_there tree plan v o (first_cell tree u) (inl (cell_there tree (own_loop tree plan v.place).privates u among)) in
        let here = first_stores value (last_among (head_trips (param_values tree) head v.loops) value is) in
        let t = trip tree plan (1 + k) v formed o (f value) p (one_owner tree plan k v head body value formed fits at what) fine here u among in
        let plain = not_sum tree plan (1 + k) v formed o (f value) p (one_owner tree plan k v head body value formed fits at what) fine here u among in
        ap (λ is. fold (last_behind own) last (map job is) (first_cell tree u)) all
        ∙ ap (λ js. fold (last_behind own) last js (first_cell tree u)) (map-append job (flat_map f split.0) (f value))
        ∙ ap (λ l. l (first_cell tree u)) (fold-append (last_behind own) last (map job (flat_map f split.0)) (map job (f value)))
        ∙ behind_trip own (first_cell tree u) s.0 p s.1 plain (fold (last_behind own) last (map job (flat_map f split.0))) (map job (f value)) t

  -- a phase without a loop
  module _ (p : ℕ) (none : (own_loop tree plan v.place).privates ≡ []) where
    single_good : (last : ℕ → Option ℕ) → All (λ (i : Instance). phase_owner tree plan v i.loops ≡ p) (visit_instances (param_values tree) v) →
        AreGoodJobs (own_of tree plan v.place) last (map (job_in_phase tree plan (1 + k) v formed (own_in_phase tree plan k v formed fits at)) (visit_instances (param_values tree) v))
    single_good last owners =
        trip_good tree plan (1 + k) v formed (own_in_phase tree plan k v formed fits at) (visit_instances (param_values tree) v) p owners all_fine (λ u among. absurd (nobody u (subst (λ l. Contains l u) none among))) last
      where
        nobody : (u : ℕ) → Contains {X = ℕ} [] u → ⊥
        nobody u (n, lt, e) = omega (arith, lt)

  pub phase_good : AreStoredFirst tree plan → (last : ℕ → Option ℕ) → AreGoodJobs (own_of tree plan v.place) last (map (job_in_phase tree plan (1 + k) v formed (own_in_phase tree plan k v formed fits at)) (visit_instances (param_values tree) v))
  phase_good stored last = by v.what refl
    where
      o : AreOwnIn tree plan v
      o = own_in_phase tree plan k v formed fits at

      by : (s : Statement) → v.what ≡ s → AreGoodJobs (own_of tree plan v.place) last (map (job_in_phase tree plan (1 + k) v formed (own_in_phase tree plan k v formed fits at)) (visit_instances (param_values tree) v))
      by (do_loop head body) what =
          let is = ap (λ (s : Statement). instances_of (param_values tree) s v.first v.loops) what in
          subst (λ l. AreGoodJobs (own_of tree plan v.place) last (map (job_in_phase tree plan (1 + k) v formed (own_in_phase tree plan k v formed fits at)) l)) (sym is)
          (trips_good stored head body what (head_trips (param_values tree) head v.loops) last (λ x there. there) (subst (All (IsFineIn tree plan v)) is all_fine))
      by (work w) what =
          let none = ap (λ (l : OwnLoop). l.privates) (o.loop_is ∙ ap (own_loop_of plan.cut) what) in
          single_good (phase_owner tree plan v v.loops) none last (subst (λ (s : Statement). All (λ (i : Instance). phase_owner tree plan v i.loops ≡ phase_owner tree plan v v.loops) (instances_of (param_values tree) s v.first v.loops)) (sym what) (one w))
        where
          one : (w : Work) → All (λ (i : Instance). phase_owner tree plan v i.loops ≡ phase_owner tree plan v v.loops) (instances_of (param_values tree) (work w) v.first v.loops)
          one w =
              let P = λ (i : Instance). phase_owner tree plan v i.loops ≡ phase_owner tree plan v v.loops in
              let here : Instance = record { statement = v.first; what = w; loops = v.loops } in
              elim (is_executed w v.loops (param_values tree)) as (λ b. All P (if b then here ∷ [] else [])) [ true ↦ All-cons P here [] refl (All-nil P) | false ↦ All-nil P ]
      by (continue line) what =
          let none = ap (λ (l : OwnLoop). l.privates) (o.loop_is ∙ ap (own_loop_of plan.cut) what) in
          single_good 0 none last (subst (λ (s : Statement). All (λ (i : Instance). phase_owner tree plan v i.loops ≡ 0) (instances_of (param_values tree) s v.first v.loops)) (sym what) (All-nil (λ (i : Instance). phase_owner tree plan v i.loops ≡ 0)))
