-- Where each system of a plan that fits has no whole solution, each loop on a private scalar's path makes a first trip in each trip of its loop.
use Rattle.std.proofs.Common.{◌≡◌, ℕ, zero, suc, ◌+◌, ◌*◌, ◌-◌, ◌<◌, ◌≤◌, ℤ, pos, ◌+ℤ◌, ◌*ℤ◌, Bool, true, false, Some, List, [], ◌∷◌, ◌++◌, append_assoc, drop, length, length-append, map, take, if◌then◌else◌, refl, ap, ap₂, sym, ◌∙◌, subst, arith}
use Rattle.std.specs.Prelude.{slice_get}
use Rattle.std.specs.List.{AllByRecursion, Contains, flat_map, range_with_len}
use Rattle.std.specs.Option.{option_map_or}
use Rattle.std.proofs.Math.Seq.{drop-append_seam, take-append_seam}
use Rattle.std.proofs.lemmas.Bool.{and_parts}
use Rattle.std.proofs.lemmas.List.{length-map}
use Rattle.std.proofs.lemmas.List.Elements.{Contains-append_right}
use Rattle.list_lemmas.proofs.Elements.{contains_at, Contains-map, Contains-flat_map}
use Rattle.list_lemmas.proofs.Each.{all-contained}
use Rattle.list_lemmas.proofs.Ranges.{range_there}
use Rattle.farkas_cert.specs.Inequalities.{HasNoWholeSolution, Inequalities, IsWholeSolution}
use Rattle.nest_tree.specs.Form.{form_value, is_small}
use Rattle.nest_tree.specs.Tree.{Constant, Head, Statement, Statements, do_loop, work, continue, done, next, Tree, param_values}
use Rattle.nest_tree.specs.WellFormed.{IsWellFormed, Scope, loops_in, scope_of}
use Rattle.nest_tree.proofs.Good.{good_loop}
use Rattle.nest_model.specs.Instances.{head_trips, no_values, with_loop}
use Rattle.nest_model.specs.Visits.{Visit}
use Rattle.nest_rows.specs.Constraints.{system_of}
use Rattle.nest_rows.specs.Groups.{loops_have}
use Rattle.nest_rows.specs.Nested.{nested_among}
use Rattle.nest_rows.specs.Places.{laid}
use Rattle.nest_rows.proofs.Dots.{numbers}
use Rattle.nest_rows.proofs.GoodNesting.{IsGoodNested, works_good}
use Rattle.nest_rows.proofs.GroupsMet.{is_head_among}
use Rattle.nest_rows.proofs.Nesting.{all-at}
use Rattle.own_scalars.specs.OwnScalars.{has_access, is_private, some_in}
use Rattle.owner_partition.specs.Cuts.{privates_of}
use Rattle.owner_partition.specs.Marks.{enters_outer}
use Rattle.sync_plan.specs.declared.plan.Plan.{Plan}
use Rattle.sync_plan.specs.Fit.{IsFit}
use Rattle.sync_plan.specs.Stored.{AreStoredFirst, path_runs, path_runs_in}
use Rattle.sync_plan.proofs.BarrierOrder.{mapped}
use Rattle.conflict_rules.specs.References.{StaticPhase, phases_of}
use Rattle.comm_system.specs.Obligations.{Task, paths_tasks, slot_signature, slot_tasks, slots_of, tasks_of, trips_tasks, zero_trip_task}
use Rattle.comm_system.specs.PairRows.{conditions_have, first_of}
use Rattle.comm_system.specs.Paths.{PathLoop, no_trip, path_of, path_to, paths_of}
use Rattle.comm_system.specs.Shown.{privates_in}
use Rattle.comm_laws.proofs.Accesses.{phase_there, station_known, visits_are}
use Rattle.comm_system.proofs.Contexts.{AreInFront, IsInFront, behind, entered, front, heads_further}
use Rattle.comm_laws.proofs.FirstStores.{first_store, path_among, path_in}
use Rattle.comm_laws.proofs.GoodReferences.{AllIn, among_phases}
use Rattle.comm_laws.proofs.NoTrips.{none_solved}
use Rattle.comm_laws.proofs.PairLists.{fit_conditions}
use Rattle.comm_laws.proofs.PrivateScalars.{phase_private}
use Rattle.comm_system.proofs.Stations.{Station, at_trip, stations_in, trips_of, visit_in}
use Rattle.comm_laws.proofs.FirstAccesses.{IsStored, stored_there}

-- ---- down a text beside the path

module _ (params : List ℤ) (scope : Scope) (v : ℕ) (all : List Head) (least : ℕ) where
  -- each loop that stands in these behind so many makes a trip
  abbrev pub DoRun : Type 0
  DoRun = (heads : List Head) (head : Head) (inner : List Head) (ns : List ℕ) (loops : List ℤ) (number : ℕ) (body : Statements) → heads ++ head ∷ inner ≡ all → least ≤ length heads → IsInFront params scope heads ns loops number (do_loop head body) → trips_of params head loops ≡ 0 → ⊥

  mutual
    run_in : ((heads : List Head) (head : Head) (inner : List Head) (ns : List ℕ) (loops : List ℤ) (number : ℕ) (body : Statements) → heads ++ head ∷ inner ≡ all → least ≤ length heads → IsInFront params scope heads ns loops number (do_loop head body) → trips_of params head loops ≡ 0 → ⊥) →
        (heads : List Head) (ns : List ℕ) (loops : List ℤ) (number : ℕ) (s : Statement) → IsInFront params scope heads ns loops number s → heads ++ path_in v s ≡ all → least ≤ length heads → path_runs_in params v s loops ≡ true
    run_in run heads ns loops number (do_loop head body) h is few =
        by (trips_of params head loops) refl
        (λ lt. run_among run (heads ++ head ∷ []) (ns ++ 0 ∷ []) (at_trip params head loops 0) (number + 1) body (entered params scope heads ns loops number head body 0 h lt) (append_assoc heads (head ∷ []) (path_among v body) ∙ is) (omega (arith, few, length-append heads (head ∷ []))))
      where
        by : (n : ℕ) → trips_of params head loops ≡ n → (0 < trips_of params head loops → path_runs params v body (at_trip params head loops 0) ≡ true) → path_runs_in params v (do_loop head body) loops ≡ true
        by zero none inner = absurd (run heads head (path_among v body) ns loops number body is few h none)
        by (suc n) some inner =
            ap (λ k. option_map_or (λ x. path_runs params v body (with_loop loops head.number x)) (slice_get (map (λ i. form_value head.m1 loops params +ℤ (pos i *ℤ head.step)) (range_with_len 0 k)) 0) false) some ∙ inner (omega (arith, some))
    run_in run heads ns loops number (work w) h is few = refl
    run_in run heads ns loops number (continue line) h is few = refl

    pub run_among : ((heads : List Head) (head : Head) (inner : List Head) (ns : List ℕ) (loops : List ℤ) (number : ℕ) (body : Statements) → heads ++ head ∷ inner ≡ all → least ≤ length heads → IsInFront params scope heads ns loops number (do_loop head body) → trips_of params head loops ≡ 0 → ⊥) →
        (heads : List Head) (ns : List ℕ) (loops : List ℤ) (number : ℕ) (ss : Statements) → AreInFront params scope heads ns loops number ss → heads ++ path_among v ss ≡ all → least ≤ length heads → path_runs params v ss loops ≡ true
    run_among run heads ns loops number done h is few = refl
    run_among run heads ns loops number (next s rest) h is few =
        by (some_in (has_access v) s) (λ same. run_in run heads ns loops number s (front params scope heads ns loops number s rest h) same few) (λ same. run_among run heads ns loops (number + loops_in s) rest (behind params scope heads ns loops number s rest h) same few) is
      where
        by : (b : Bool) → (heads ++ path_in v s ≡ all → path_runs_in params v s loops ≡ true) → (heads ++ path_among v rest ≡ all → path_runs params v rest loops ≡ true) → heads ++ (if b then path_in v s else path_among v rest) ≡ all →
            (if b then path_runs_in params v s loops else path_runs params v rest loops) ≡ true
        by true here later same = here same
        by false here later same = later same

-- what holds of all values of a loop
each_trip : (P : ℤ → Type 0) (f : ℕ → ℤ) (a n : ℕ) → ((k : ℕ) → k < a + n → P (f k)) → AllByRecursion P (map f (range_with_len a n))
each_trip P f a zero h = tt
each_trip P f a (suc n) h = (h a (omega arith), each_trip P f (a + 1) n (λ k lt. h k (omega (arith, lt))))

-- ---- a private scalar of a phase

module _ (tree : Tree) (plan : Plan) (formed : IsWellFormed tree) (fits : IsFit tree plan) (none : (task : Task) → Contains (tasks_of tree plan) task → HasNoWholeSolution task.system) (outer : List Head) (head : Head) (body : Statements) (k : ℕ)
    (at : slice_get (phases_of tree plan.cut.marks) k ≡ Some (record { what = do_loop head body; outer = outer })) (u : ℕ) (among : Contains (privates_of plan.cut.privates head.number) u) where
  abbrev phase : StaticPhase
  phase = record { what = do_loop head body; outer = outer }

  -- the loops round its first store
  abbrev all : List Head
  all = (outer ++ head ∷ []) ++ path_among u body

  goods : AllByRecursion (IsGoodNested (scope_of tree)) (nested_among (outer ++ head ∷ []) body)
  goods =
      let P = IsGoodNested (scope_of tree) in
      all-at (AllIn P) (phases_of tree plan.cut.marks) k phase (among_phases P (enters_outer plan.cut.marks) [] tree.items (works_good tree formed)) at

  private : is_private u body ≡ true
  private = all-contained (λ v. is_private v body ≡ true) (privates_of plan.cut.privates head.number) u (phase_private tree plan fits k phase at) among

  -- that store is its first access
  first : IsStored outer head body u
  first =
      let f = first_store u (outer ++ head ∷ []) body private in
      stored_there (scope_of tree) outer head body goods u f.store f.plain f.before f.after f.away f.split

  -- the system of a loop on its path
  abbrev system_at : List Head → List Head → Inequalities
  system_at heads from =
      let m = first_of tree in
      system_of (m + 2 * length heads - 1) (conditions_have (param_values tree) plan.conditions ++ (loops_have m heads m heads ++ no_trip m heads from))

  runs : (heads : List Head) (g : Head) (inner : List Head) (ns : List ℕ) (loops : List ℤ) (number : ℕ) (text : Statements) → heads ++ g ∷ inner ≡ all → length outer + 1 ≤ length heads → IsInFront (param_values tree) (scope_of tree) heads ns loops number (do_loop g text) →
      trips_of (param_values tree) g loops ≡ 0 → ⊥
  runs heads g inner ns loops number text is few h zero_trips =
      let params = param_values tree in
      let as_many : length tree.params ≡ length params = sym (length-map tree.params (λ (c : Constant). c.value)) in
      let good = good_loop (scope_of tree) h.around number g text h.good in
      let bounds = and_parts _ (is_small g.step) good.bounds in
      let own = (heads_further (length tree.params) h.around (numbers heads) (g ∷ []) h.among (bounds.0, tt)).0 in
      let known = fit_conditions tree plan fits in
      let solved = none_solved tree plan.conditions heads g ns loops known.0 known.1 (subst (λ n. AllByRecursion (λ x. is_head_among n (numbers heads) x ≡ true) heads) as_many h.named) (subst (λ n. is_head_among n (numbers heads) g ≡ true) as_many own) h.trips zero_trips in
      let f = first in
      let p : PathLoop = record { store = f.store; outside = length heads } in
      let around : f.store.around ≡ heads ++ g ∷ inner = f.around ∙ sym is in
      let outside : take (length heads) f.store.around ≡ heads = ap (take (length heads)) around ∙ take-append_seam heads (g ∷ inner) in
      let from : drop (length heads) f.store.around ≡ g ∷ inner = ap (drop (length heads)) around ∙ drop-append_seam heads (g ∷ inner) in
      let long : length f.store.around ≡ length heads + suc (length inner) = ap length around ∙ length-append heads (g ∷ inner) in
      let own_path : List PathLoop = map (λ i. record { store = f.store; outside = i }) (range_with_len (length outer + 1) (length f.store.around - (length outer + 1))) in
      let on_path : Contains own_path p = Contains-map (λ i. record { store = f.store; outside = i }) (range_with_len (length outer + 1) (length f.store.around - (length outer + 1))) (length heads) (range_there (length outer + 1) (length f.store.around - (length outer + 1)) (length heads) few (omega (arith, long, few))) in
      let of_scalar : Contains (path_of phase u) p = subst (λ o. Contains (path_to phase o) p) (sym f.is) on_path in
      let of_phase : Contains (paths_of plan.cut phase) p = Contains-flat_map (path_of phase) (privates_in plan.cut (do_loop head body)) u p among of_scalar in
      let task = zero_trip_task tree plan p in
      let all_phases = phases_of tree plan.cut.marks in
      let in_phase : Contains (flat_map (paths_tasks tree plan) all_phases) task = Contains-flat_map (paths_tasks tree plan) all_phases phase task (contains_at all_phases k phase at) (Contains-map (zero_trip_task tree plan) (paths_of plan.cut phase) p of_phase) in
      let there = Contains-append_right (flat_map (trips_tasks tree plan) all_phases ++ flat_map (λ slot. slot_tasks tree plan slot (slot_signature plan.version plan.kinds all_phases slot)) (slots_of all_phases)) (flat_map (paths_tasks tree plan) all_phases) task in_phase in
      none task there (params ++ laid loops heads ns) (subst (λ x. IsWholeSolution x (params ++ laid loops heads ns)) (sym (ap₂ system_at outside from)) solved)

-- ---- the plan is stored first

pub obligations_store_first : (tree : Tree) (plan : Plan) → IsWellFormed tree → IsFit tree plan → ((task : Task) → Contains (tasks_of tree plan) task → HasNoWholeSolution task.system) → AreStoredFirst tree plan
obligations_store_first tree plan formed fits none k v head body x u at what trip among =
    let params = param_values tree in
    let back = mapped visit_in (stations_in params (enters_outer plan.cut.marks) tree.items 1 1 (no_values tree)) k v (ap (λ vs. slice_get vs k) (visits_are tree plan.cut.marks) ∙ at) in
    let s : Station = back.0 in
    let text : s.visit.what ≡ do_loop head body = ap (λ (w : Visit). w.what) back.2 ∙ what in
    let known = station_known tree plan.cut.marks formed k s back.1 in
    let h = subst (λ w. IsInFront params (scope_of tree) s.heads s.trips s.visit.loops known.own_number w) text known.context in
    let there = phase_there tree plan.cut.marks formed k s back.1 ∙ ap (λ w. Some (record { what = w; outer = s.heads })) text in
    let run = runs tree plan formed fits none s.heads head body (s.visit.place - 1) there u among in
    let longer : length s.heads + 1 ≤ length (s.heads ++ head ∷ []) = omega (arith, length-append s.heads (head ∷ [])) in
    let each = each_trip (λ z. path_runs params u body (with_loop s.visit.loops head.number z) ≡ true) (λ i. form_value head.m1 s.visit.loops params +ℤ (pos i *ℤ head.step)) 0 (trips_of params head s.visit.loops)
    (λ n lt. run_among params (scope_of tree) u ((s.heads ++ head ∷ []) ++ path_among u body) (length s.heads + 1) run (s.heads ++ head ∷ []) (s.trips ++ n ∷ []) (at_trip params head s.visit.loops n) (known.own_number + 1) body
    (entered params (scope_of tree) s.heads s.trips s.visit.loops known.own_number head body n h (omega (arith, lt))) refl longer) in
    let all = subst (λ (w : Visit). AllByRecursion (λ z. path_runs params u body (with_loop w.loops head.number z) ≡ true) (head_trips params head w.loops)) back.2 each in
    all-contained (λ z. path_runs params u body (with_loop v.loops head.number z) ≡ true) (head_trips params head v.loops) x all trip
