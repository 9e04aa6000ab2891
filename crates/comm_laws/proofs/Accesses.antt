-- Which access of a phase an execution makes at a cell, and the pairs that conflict.
use Rattle.std.proofs.Common.{◌≡◌, ℕ, ◌+◌, ◌-◌, nat_le, nat_lt, ℤ, true, false, Option, Some, None, List, [], ◌∷◌, ◌++◌, length, map, refl, ap, sym, ◌∙◌, inl, inr, arith}
use Rattle.std.specs.List.{AllByRecursion, Contains, filter, flat_map, list_all, slice_get}
use Rattle.std.specs.Option.{option_to_list}
use Rattle.std.proofs.lemmas.Bool.{and_parts, leb-true}
use Rattle.std.proofs.lemmas.List.{length-map}
use Rattle.std.proofs.lemmas.List.Elements.{Contains-append_cases, Contains-append_left, Contains-append_right}
use Rattle.std.proofs.lemmas.List.Folds.{list_all-append}
use Rattle.list_lemmas.proofs.Elements.{Contains-map, Contains-flat_map, Contains-filter}
use Rattle.list_lemmas.proofs.Each.{all-contained, passes_at}
use Rattle.nest_tree.specs.declared.tree.Access.{Access}
use Rattle.nest_tree.specs.Guards.{holds}
use Rattle.nest_tree.specs.Loads.{loads_in, loads_in_item}
use Rattle.nest_tree.specs.Tree.{Head, Printed, value, whole, text, Work, assign, print, Tree, param_values}
use Rattle.nest_tree.specs.WellFormed.{IsWellFormed, is_good_access, is_number_of, loops_of, rank, rank_of, scope_of}
use Rattle.nest_model.specs.Accesses.{cells_of, loads_of, store_of}
use Rattle.nest_model.specs.Instances.{Instance, instances, is_executed, no_values}
use Rattle.nest_model.specs.Ranges.{IsInRange, accesses_of, is_access_inside, is_instance_inside}
use Rattle.nest_model.specs.Visits.{Visit}
use Rattle.nest_walk.proofs.GoodAccesses.{good_access-there}
use Rattle.nest_walk.specs.Tables.{Loaded, element, array, loaded_in_item, loaded_in_work, stores_in}
use Rattle.nest_rows.specs.Groups.{guard_of}
use Rattle.nest_rows.specs.Nested.{Nested, nested_in}
use Rattle.nest_rows.proofs.GoodNesting.{IsGoodNested, works_good}
use Rattle.nest_rows.proofs.Nesting.{all-append, all-at}
use Rattle.owner_partition.specs.declared.cut.Mark.{Mark}
use Rattle.owner_partition.specs.Marks.{enters_outer}
use Rattle.owner_partition.specs.Phases.{Execution, executions, visit_instances, phases}
use Rattle.owner_partition.proofs.Instances.{all_executed}
use Rattle.comm_system.specs.Meetings.{Point, subscripts_at}
use Rattle.comm_system.specs.Pairs.{Pair, pairs_among}
use Rattle.conflict_rules.specs.Conflicts.{conflict}
use Rattle.conflict_rules.specs.References.{Reference, StaticPhase, phases_of, reference_of, references_in, references_of, variable_of}
use Rattle.comm_laws.proofs.Cells.{IsSound, IsSoundLoaded, Touches, load_touches, same_element_of, store_touches}
use Rattle.comm_system.proofs.Contexts.{at_first}
use Rattle.comm_laws.proofs.GoodReferences.{AllIn, IsGoodLoaded, among_phases, loaded_good, stored_good}
use Rattle.comm_system.proofs.Lists.{contains_cases, contains_nothing, mapped_get}
use Rattle.comm_system.proofs.Places.{IsOf, IsPlaced, instance_placed}
use Rattle.comm_system.proofs.StationFacts.{IsStation, each_in}
use Rattle.comm_system.proofs.Stations.{Station, phases-text, stations_in, text_among, visit_in, visits-in}
use Rattle.sync_plan.proofs.BarrierOrder.{mapped}

-- ---- elements of lists

-- ---- what an instance in range loads and stores is sound

abbrev IsInsideLoaded : Tree → List ℤ → Loaded → Type 0
IsInsideLoaded tree loops (element a) = is_access_inside tree loops a ≡ true
IsInsideLoaded tree loops (array variable) = Unit {0}

module _ (tree : Tree) (loops : List ℤ) where
  elements_inside : (xs : List Access) → list_all (is_access_inside tree loops) xs ≡ true → AllByRecursion (IsInsideLoaded tree loops) (map element xs)
  elements_inside [] h = tt
  elements_inside (x ∷ xs) h = let parts = and_parts (is_access_inside tree loops x) (list_all (is_access_inside tree loops) xs) h in (parts.0, elements_inside xs parts.1)

  item_inside : (p : Printed) → list_all (is_access_inside tree loops) (loads_in_item p) ≡ true → AllByRecursion (IsInsideLoaded tree loops) (loaded_in_item p)
  item_inside (value e) h = elements_inside (loads_in e) h
  item_inside (whole variable) h = (tt, tt)
  item_inside (text characters) h = tt

  items_inside : (ps : List Printed) → list_all (is_access_inside tree loops) (flat_map loads_in_item ps) ≡ true → AllByRecursion (IsInsideLoaded tree loops) (flat_map loaded_in_item ps)
  items_inside [] h = tt
  items_inside (p ∷ ps) h =
      let inside = is_access_inside tree loops in
      let parts = and_parts (list_all inside (loads_in_item p)) (list_all inside (flat_map loads_in_item ps)) (sym (list_all-append inside (loads_in_item p) (flat_map loads_in_item ps)) ∙ h) in
      all-append (IsInsideLoaded tree loops) (loaded_in_item p) (flat_map loaded_in_item ps) (item_inside p parts.0) (items_inside ps parts.1)

  loaded_inside : (w : Work) → list_all (is_access_inside tree loops) (accesses_of w) ≡ true → AllByRecursion (IsInsideLoaded tree loops) (loaded_in_work w)
  loaded_inside (assign a) h =
      let inside = is_access_inside tree loops in
      elements_inside (loads_in a.value) (and_parts (list_all inside (loads_in a.value)) (list_all inside (a.target ∷ [])) (sym (list_all-append inside (loads_in a.value) (a.target ∷ [])) ∙ h)).0
  loaded_inside (print p) h = items_inside p.items h

  stored_inside : (w : Work) → list_all (is_access_inside tree loops) (accesses_of w) ≡ true → AllByRecursion (λ a. is_access_inside tree loops a ≡ true) (stores_in w)
  stored_inside (assign a) h =
      let inside = is_access_inside tree loops in
      let last = (and_parts (list_all inside (loads_in a.value)) (list_all inside (a.target ∷ [])) (sym (list_all-append inside (loads_in a.value) (a.target ∷ [])) ∙ h)).1 in
      ((and_parts (inside a.target) true last).0, tt)
  stored_inside (print p) h = tt

  sound_loaded : (around : List ℕ) (ws : List Loaded) → AllByRecursion (IsGoodLoaded (scope_of tree) around) ws → AllByRecursion (IsInsideLoaded tree loops) ws → AllByRecursion (IsSoundLoaded tree loops) ws
  sound_loaded around [] g h = tt
  sound_loaded around (element a ∷ ws) g h = (record { there = good_access-there tree around a g.0; inside = h.0 }, sound_loaded around ws g.1 h.1)
  sound_loaded around (array variable ∷ ws) g h =
      let number = and_parts (nat_le 1 variable) (nat_le variable (length (scope_of tree).ranks)) (and_parts (is_number_of (length (scope_of tree).ranks) variable) (nat_lt 0 (rank_of (scope_of tree) variable)) g.0).0 in
      ((leb-true 1 variable number.0, omega (arith, leb-true variable (length (scope_of tree).ranks) number.1, length-map tree.variables rank)), sound_loaded around ws g.1 h.1)

  sound_stored : (around : List ℕ) (xs : List Access) → AllByRecursion (λ a. is_good_access (scope_of tree) around a ≡ true) xs → AllByRecursion (λ a. is_access_inside tree loops a ≡ true) xs → AllByRecursion (IsSound tree loops) xs
  sound_stored around [] g h = tt
  sound_stored around (a ∷ xs) g h = (record { there = good_access-there tree around a g.0; inside = h.0 }, sound_stored around xs g.1 h.1)

-- ---- the access at a cell

-- an access of a phase that an instance of it makes at a cell, the loops round which these are
pub record IsAccessAt (tree : Tree) (phase : StaticPhase) (around : List Head) (i : Instance) (cell : ℕ) (a : Reference) : Type 0 where
  pub among : Contains (references_of phase) a
  pub around_is : a.around ≡ around
  pub executed : holds a.guard i.loops (param_values tree) ≡ true
  pub touches : Touches tree i.loops cell a.what

guard_holds : (w : Work) (loops params : List ℤ) → is_executed w loops params ≡ true → holds (guard_of w) loops params ≡ true
guard_holds (assign a) loops params h = h
guard_holds (print p) loops params h = refl

module _ (tree : Tree) (phase : StaticPhase) (around : List Head) (i : Instance) (cell : ℕ) (nested : Contains (nested_in phase.outer phase.what) (record { what = i.what; around = around })) (good : IsGoodNested (scope_of tree) (record { what = i.what; around = around }))
    (executed : is_executed i.what i.loops (param_values tree) ≡ true) (inside : is_instance_inside tree i ≡ true) where
  abbrev here : Nested
  here = record { what = i.what; around = around }

  in_references : (a : Reference) → Contains (references_in (record { what = i.what; around = around })) a → Contains (references_of phase) a
  in_references a c = Contains-flat_map references_in (nested_in phase.outer phase.what) (record { what = i.what; around = around }) a nested c

  pub load_access : Contains (loads_of tree i) cell → (a : Reference) × IsAccessAt tree phase around i cell a
  load_access c =
      let sound = sound_loaded tree i.loops good.loops (loaded_in_work i.what) (loaded_good (scope_of tree) good.loops i.what good.good) (loaded_inside tree i.loops i.what inside) in
      let h = load_touches tree i.loops cell i.what sound c in
      let a = reference_of (record { what = i.what; around = around }) false h.what in (
        a,
        record {
          among = in_references a (Contains-append_left (map (reference_of (record { what = i.what; around = around }) false) (loaded_in_work i.what)) (map (λ x. reference_of (record { what = i.what; around = around }) true (element x)) (stores_in i.what)) a
              (Contains-map (reference_of (record { what = i.what; around = around }) false) (loaded_in_work i.what) h.what h.among));
          around_is = refl;
          executed = guard_holds i.what i.loops (param_values tree) executed;
          touches = h.touches;
        },
      )

  pub store_access : store_of tree i ≡ Some cell → (a : Reference) × IsAccessAt tree phase around i cell a × (a.stores ≡ true) × Contains (map (λ x. reference_of (record { what = i.what; around = around }) true (element x)) (stores_in i.what)) a
  store_access is =
      let sound = sound_stored tree i.loops good.loops (stores_in i.what) (stored_good (scope_of tree) good.loops i.what good.good) (stored_inside tree i.loops i.what inside) in
      let h = store_touches tree i.loops cell i.what sound is in
      let a = reference_of (record { what = i.what; around = around }) true (element h.access) in (
        a,
        record {
          among = in_references a (Contains-append_right (map (reference_of (record { what = i.what; around = around }) false) (loaded_in_work i.what)) (map (λ x. reference_of (record { what = i.what; around = around }) true (element x)) (stores_in i.what)) a
              (Contains-map (λ x. reference_of (record { what = i.what; around = around }) true (element x)) (stores_in i.what) h.access h.among));
          around_is = refl;
          executed = guard_holds i.what i.loops (param_values tree) executed;
          touches = h.touches;
        },
        refl,
        Contains-map (λ x. reference_of (record { what = i.what; around = around }) true (element x)) (stores_in i.what) h.access h.among,
      )

  pub any_access : Contains (cells_of tree i) cell → (a : Reference) × IsAccessAt tree phase around i cell a
  any_access c = elim (Contains-append_cases (loads_of tree i) (option_to_list (store_of tree i)) cell c) [
    | inl load ↦ load_access load
    | inr store ↦ let h = store_access (stored (store_of tree i) store) in (h.0, h.1)
  ]
    where
      stored : (o : Option ℕ) → Contains (option_to_list o) cell → o ≡ Some cell
      stored None k = absurd (contains_nothing cell k)
      stored (Some n) k = elim (contains_cases n cell [] k) [
        | inl same ↦ ap Some same
        | inr none ↦ absurd (contains_nothing cell none)
      ]

-- ---- executions in their phases

module _ (tree : Tree) (marks : List Mark) where
  abbrev pub stations : List Station
  stations = stations_in (param_values tree) (enters_outer marks) tree.items 1 1 (no_values tree)

  -- an execution at a station of the walk of the phases
  pub record IsExecutedAt (x : Execution) (e : ℕ) : Type 0 where
    pub station : Station
    pub at : slice_get (stations_in (param_values tree) (enters_outer marks) tree.items 1 1 (no_values tree)) e ≡ Some station
    pub place_is : x.place ≡ station.visit.place
    pub placed : IsPlaced (param_values tree) (scope_of tree) station.heads station.trips station.visit x.instance
    pub inside : is_instance_inside tree x.instance ≡ true

  pub station_known : (formed : IsWellFormed tree) (e : ℕ) (s : Station) → slice_get (stations_in (param_values tree) (enters_outer marks) tree.items 1 1 (no_values tree)) e ≡ Some s →
      IsStation (param_values tree) (scope_of tree) [] [] (no_values tree) 1 (1 + loops_of tree.items) 1 (text_among (enters_outer marks) tree.items) s
  station_known formed e s at =
      all-at (IsStation (param_values tree) (scope_of tree) [] [] (no_values tree) 1 (1 + loops_of tree.items) 1 (text_among (enters_outer marks) tree.items)) (stations_in (param_values tree) (enters_outer marks) tree.items 1 1 (no_values tree)) e s
      (each_in (param_values tree) (scope_of tree) (enters_outer marks) [] [] (no_values tree) 1 1 1 tree.items (at_first tree formed)) at

  pub visits_are : map visit_in (stations_in (param_values tree) (enters_outer marks) tree.items 1 1 (no_values tree)) ≡ phases tree marks
  visits_are = visits-in (param_values tree) (enters_outer marks) tree.items 1 1 (no_values tree)

  pub phases_are : phases_of tree marks ≡ text_among (enters_outer marks) tree.items
  phases_are = phases-text (enters_outer marks) tree.items

  pub executed_at_station : (formed : IsWellFormed tree) (ranged : IsInRange tree) (x : Execution) (j : ℕ) → slice_get (executions tree marks) j ≡ Some x → (o : IsOf (param_values tree) 1 (phases tree marks) x) → IsExecutedAt x o.phase
  executed_at_station formed ranged x j at o =
      let back = mapped visit_in (stations_in (param_values tree) (enters_outer marks) tree.items 1 1 (no_values tree)) o.phase o.visit (ap (λ vs. slice_get vs o.phase) visits_are ∙ o.at) in
      let known = station_known formed o.phase back.0 back.1 in
      let same : back.0.visit ≡ o.visit = back.2 in
      let instance_at = ap (λ xs. slice_get xs j) (sym (all_executed tree marks)) ∙ mapped_get (λ (y : Execution). y.instance) (executions tree marks) j x at in
      record {
        station = back.0;
        at = back.1;
        place_is = o.place_is ∙ ap (λ (v : Visit). v.place) (sym same);
        placed = instance_placed (param_values tree) (scope_of tree) back.0.heads back.0.trips back.0.visit known.own_number known.context x.instance o.index (ap (λ v. slice_get (visit_instances (param_values tree) v) o.index) same ∙ o.is);
        inside = passes_at (is_instance_inside tree) (instances tree) j x.instance ranged instance_at;
      }

  -- the static phase of a station
  abbrev pub phase_at : Station → StaticPhase
  phase_at s = record { what = s.visit.what; outer = s.heads }

  pub phase_there : (formed : IsWellFormed tree) (e : ℕ) (s : Station) → slice_get (stations_in (param_values tree) (enters_outer marks) tree.items 1 1 (no_values tree)) e ≡ Some s → slice_get (phases_of tree marks) (s.visit.place - 1) ≡ Some (record { what = s.visit.what; outer = s.heads })
  phase_there formed e s at = ap (λ ps. slice_get ps (s.visit.place - 1)) phases_are ∙ (station_known formed e s at).at

  -- the piece of work of an execution is good
  pub nested_good : (formed : IsWellFormed tree) (x : Execution) (e : ℕ) (h : IsExecutedAt x e) → IsGoodNested (scope_of tree) (record { what = x.instance.what; around = h.station.heads ++ h.placed.inner.heads })
  nested_good formed x e h =
      let P = IsGoodNested (scope_of tree) in
      let all = all-at (AllIn P) (phases_of tree marks) (h.station.visit.place - 1) (record { what = h.station.visit.what; outer = h.station.heads }) (among_phases P (enters_outer marks) [] tree.items (works_good tree formed)) (phase_there formed e h.station h.at) in
      all-contained P (nested_in h.station.heads h.station.visit.what) (record { what = x.instance.what; around = h.station.heads ++ h.placed.inner.heads }) all h.placed.nested

-- ---- the pair that conflicts at a cell

-- an access made at a cell is made at the point there
abbrev pub point_at : Instance → List ℕ → List ℤ → Point
point_at i trips free = record { loops = i.loops; trips = trips; free = free }

subscripts_alike : (tree : Tree) (w : Loaded) (loops free : List ℤ) (trips : List ℕ) → subscripts_at tree w (record { loops = loops; trips = []; free = free }) ≡ subscripts_at tree w (record { loops = loops; trips = trips; free = free })
subscripts_alike tree (element a) loops free trips = refl
subscripts_alike tree (array variable) loops free trips = refl

-- two accesses at one cell are of one element
pub elements_same : (tree : Tree) (loops loops' : List ℤ) (cell : ℕ) (a b : Loaded) (ns ms : List ℕ) (h : Touches tree loops cell a) (k : Touches tree loops' cell b) →
    (variable_of a ≡ variable_of b) × (subscripts_at tree a (record { loops = loops; trips = ns; free = h.free }) ≡ subscripts_at tree b (record { loops = loops'; trips = ms; free = k.free }))
elements_same tree loops loops' cell a b ns ms h k =
    let same = same_element_of tree (variable_of a) (variable_of b) (subscripts_at tree a (record { loops = loops; trips = []; free = h.free })) (subscripts_at tree b (record { loops = loops'; trips = []; free = k.free })) cell h.is k.is in
    (same.0, sym (subscripts_alike tree a loops h.free ns) ∙ same.1 ∙ subscripts_alike tree b loops' k.free ms)

abbrev pair_with : Reference → Reference → Pair
pair_with a b = record { first = a; second = b }

pub pair_there : (firsts seconds : List Reference) (a b : Reference) → Contains firsts a → Contains seconds b → conflict a b ≡ true → Contains (pairs_among firsts seconds) (record { first = a; second = b })
pair_there firsts seconds a b here there h =
    Contains-flat_map (λ a. map (pair_with a) (filter (conflict a) seconds)) firsts a (record { first = a; second = b }) here
    (Contains-map (pair_with a) (filter (conflict a) seconds) b (Contains-filter (conflict a) seconds b there h))
