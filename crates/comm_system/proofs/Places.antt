-- Where an execution stands: the phase, the stop of the walk inside it, and the loops round it at their trips.
use Rattle.std.proofs.Common.{◌≡◌, ℕ, zero, suc, ◌+◌, ◌-◌, ◌<◌, ◌≤◌, ℤ, Bool, true, false, Some, None, List, [], ◌∷◌, ◌++◌, length, map, if◌then◌else◌, refl, ap, sym, ◌∙◌, subst, inl, inr, arith}
use Rattle.std.specs.List.{AllByRecursion, Contains, flat_map, slice_get}
use Rattle.std.proofs.lemmas.Bool.{cases_lt}
use Rattle.std.proofs.lemmas.List.{map-append}
use Rattle.list_lemmas.proofs.Gets.{get-front, get-behind}
use Rattle.list_lemmas.proofs.Elements.{contains_at}
use Rattle.nest_tree.specs.Form.{numbered}
use Rattle.nest_tree.specs.Tree.{Head, Work, Statement, Statements, do_loop, work, continue, done, next}
use Rattle.nest_tree.specs.WellFormed.{Scope, loops_in}
use Rattle.nest_model.specs.Instances.{Instance, is_executed, works_in, works_of}
use Rattle.nest_model.specs.Visits.{Visit, every, executed_at, instances_at, stops_in, stops_of}
use Rattle.nest_walk.proofs.InstanceLists.{one_same}
use Rattle.nest_rows.specs.Nested.{AreTrips, Nested, nested_among, nested_in}
use Rattle.nest_rows.proofs.Nesting.{all-append, all-at, all-weaker, IsBefore, kept-number}
use Rattle.owner_partition.specs.Phases.{Execution, executions_from, visit_instances}
use Rattle.conflict_rules.specs.References.{StaticPhase, phases_among, phases_in}
use Rattle.comm_system.proofs.Contexts.{IsInFront}
use Rattle.comm_system.proofs.Lists.{all_in_range, all_mapped, mapped_get}
use Rattle.comm_system.proofs.StationFacts.{Deepens, IsStation, each_of, loops_after}
use Rattle.comm_system.proofs.Stations.{Station, at_trip, phases_in-within, push, stations_in, stations_of, trips_of, text_of, visit_in, visits-of, within}
use Rattle.comm_system.proofs.StationOrder.{Comes, comes_at, rises_of}
use Rattle.sync_plan.proofs.BarrierOrder.{mapped}

-- ---- executions and phases

-- it is an instance of a phase, by how many phases are in front of that
pub record IsOf (params : List ℤ) (e : ℕ) (vs : List Visit) (x : Execution) : Type 0 where
  pub phase : ℕ
  pub visit : Visit
  pub index : ℕ
  pub at : slice_get vs phase ≡ Some visit
  pub phase_is : x.phase ≡ e + phase
  pub place_is : x.place ≡ visit.place
  pub is : slice_get (visit_instances params visit) index ≡ Some x.instance

abbrev in_phase : ℕ → Visit → Instance → Execution
in_phase e v i = record { phase = e; place = v.place; instance = i }

pub execution_of : (params : List ℤ) (e : ℕ) (vs : List Visit) (x : Execution) (n : ℕ) → slice_get (executions_from params e vs) n ≡ Some x → IsOf params e vs x
execution_of params e [] x n at = let clash : None ≡ Some x = at in absurd (cc)
execution_of params e (v ∷ vs) x n at =
    let here = map (in_phase e v) (visit_instances params v) in
    let later = executions_from params (suc e) vs in
    elim (cases_lt n (length here)) [
      | inl less ↦
          let m = mapped (in_phase e v) (visit_instances params v) n x (sym (get-front here later n less) ∙ at) in
          let p = ap (λ (y : Execution). y.phase) (sym m.2) in
          record { phase = 0; visit = v; index = n; at = refl; phase_is = omega (arith, p); place_is = ap (λ (y : Execution). y.place) (sym m.2); is = m.1 ∙ ap Some (ap (λ (y : Execution). y.instance) m.2) }
      | inr past ↦
          let more : length here + (n - length here) ≡ n = omega (arith, past) in
          let rest = execution_of params (suc e) vs x (n - length here) (sym (get-behind here later (n - length here)) ∙ ap (slice_get (here ++ later)) more ∙ at) in
          record { phase = suc rest.phase; visit = rest.visit; index = rest.index; at = rest.at; phase_is = omega (arith, rest.phase_is); place_is = rest.place_is; is = rest.is }
    ]

-- a later execution is of the same phase, and later there, or of a later one
pub record InOrder (params : List ℤ) (e : ℕ) (vs : List Visit) (x y : Execution) : Type 0 where
  pub first : IsOf params e vs x
  pub second : IsOf params e vs y
  pub phases : first.phase ≤ second.phase
  pub within_phase : first.phase ≡ second.phase → first.index < second.index

pub in_order : (params : List ℤ) (e : ℕ) (vs : List Visit) (x y : Execution) (j k : ℕ) → j < k → slice_get (executions_from params e vs) j ≡ Some x → slice_get (executions_from params e vs) k ≡ Some y → InOrder params e vs x y
in_order params e [] x y j k lt at at' = let clash : None ≡ Some x = at in absurd (cc)
in_order params e (v ∷ vs) x y j k lt at at' =
    let here = map (in_phase e v) (visit_instances params v) in
    let later = executions_from params (suc e) vs in
    let one = λ (z : Execution) (n : ℕ) (less : n < length here) (is : slice_get (here ++ later) n ≡ Some z).
    mapped (in_phase e v) (visit_instances params v) n z (sym (get-front here later n less) ∙ is) in
    let first = λ (z : Execution) (n : ℕ) (less : n < length here) (is : slice_get (here ++ later) n ≡ Some z). here_of z n (one z n less is).0 (one z n less is).1 (one z n less is).2 in
    elim (cases_lt j (length here)) [
      | inl less ↦ elim (cases_lt k (length here)) [
        | inl less' ↦ record { first = first x j less at; second = first y k less' at'; phases = omega arith; within_phase = λ same. lt }
        | inr past' ↦
            let more' : length here + (k - length here) ≡ k = omega (arith, past') in
            let rest = execution_of params (suc e) vs y (k - length here) (sym (get-behind here later (k - length here)) ∙ ap (slice_get (here ++ later)) more' ∙ at') in
            record { first = first x j less at; second = later_of y rest; phases = omega arith; within_phase = λ (same : 0 ≡ suc rest.phase). absurd (omega (arith, same)) }
      ]
      | inr past ↦
          let more : length here + (j - length here) ≡ j = omega (arith, past) in
          let more' : length here + (k - length here) ≡ k = omega (arith, past, lt) in
          let rest = in_order params (suc e) vs x y (j - length here) (k - length here) (omega (arith, lt, past)) (sym (get-behind here later (j - length here)) ∙ ap (slice_get (here ++ later)) more ∙ at) (sym (get-behind here later (k - length here)) ∙ ap (slice_get (here ++ later)) more' ∙ at') in
          record { first = later_of x rest.first; second = later_of y rest.second; phases = omega (arith, rest.phases); within_phase = λ (same : suc rest.first.phase ≡ suc rest.second.phase). rest.within_phase (omega (arith, same)) }
    ]
  where
    here_of : (z : Execution) (n : ℕ) (i : Instance) → slice_get (visit_instances params v) n ≡ Some i → in_phase e v i ≡ z → IsOf params e (v ∷ vs) z
    here_of z n i is same =
        let p = ap (λ (y : Execution). y.phase) (sym same) in
        record { phase = 0; visit = v; index = n; at = refl; phase_is = omega (arith, p); place_is = ap (λ (y : Execution). y.place) (sym same); is = is ∙ ap Some (ap (λ (y : Execution). y.instance) same) }

    later_of : (z : Execution) → IsOf params (suc e) vs z → IsOf params e (v ∷ vs) z
    later_of z rest = record { phase = suc rest.phase; visit = rest.visit; index = rest.index; at = rest.at; phase_is = omega (arith, rest.phase_is); place_is = rest.place_is; is = rest.is }

-- ---- the instance at a stop

-- an instance of a list of stops
pub record IsAt (params : List ℤ) (vs : List Visit) (i : Instance) : Type 0 where
  pub stop : ℕ
  pub visit : Visit
  pub at : slice_get vs stop ≡ Some visit
  pub is : instances_at params visit ≡ i ∷ []

executed_once : (params : List ℤ) (first : ℕ) (w : Work) (loops : List ℤ) (b : Bool) (k : ℕ) (i : Instance) → slice_get (if b then record { statement = first; what = w; loops = loops } ∷ [] else []) k ≡ Some i →
    (k ≡ 0) × ((if b then record { statement = first; what = w; loops = loops } ∷ [] else []) ≡ i ∷ [])
executed_once params first w loops true zero i at = let same : record { statement = first; what = w; loops = loops } ≡ i = cc in (refl, ap (λ x. x ∷ []) same)
executed_once params first w loops true (suc k) i at = absurd (let no : None ≡ Some i = at in cc)
executed_once params first w loops false k i at = absurd (let no : None ≡ Some i = at in cc)

once : (params : List ℤ) (first : ℕ) (s : Statement) (loops : List ℤ) (k : ℕ) (i : Instance) → slice_get (executed_at params first s loops) k ≡ Some i → (k ≡ 0) × (executed_at params first s loops ≡ i ∷ [])
once params first (do_loop head body) loops k i at = absurd (let no : None ≡ Some i = at in cc)
once params first (work w) loops k i at = executed_once params first w loops (is_executed w loops params) k i at
once params first (continue line) loops k i at = absurd (let no : None ≡ Some i = at in cc)

pub instance_stop : (params : List ℤ) (vs : List Visit) (k : ℕ) (i : Instance) → slice_get (flat_map (instances_at params) vs) k ≡ Some i → IsAt params vs i
instance_stop params [] k i at = absurd (let no : None ≡ Some i = at in cc)
instance_stop params (v ∷ vs) k i at =
    let here = instances_at params v in
    let later = flat_map (instances_at params) vs in
    elim (cases_lt k (length here)) [
      | inl less ↦ record { stop = 0; visit = v; at = refl; is = (once params v.first v.what v.loops k i (sym (get-front here later k less) ∙ at)).1 }
      | inr past ↦
          let more : length here + (k - length here) ≡ k = omega (arith, past) in
          let rest = instance_stop params vs (k - length here) i (sym (get-behind here later (k - length here)) ∙ ap (slice_get (here ++ later)) more ∙ at) in
          record { stop = suc rest.stop; visit = rest.visit; at = rest.at; is = rest.is }
    ]

-- of two instances the later one is at a later stop
pub record AreAt (params : List ℤ) (vs : List Visit) (i j : Instance) : Type 0 where
  pub first : IsAt params vs i
  pub second : IsAt params vs j
  pub rises : first.stop < second.stop

pub instance_stops : (params : List ℤ) (vs : List Visit) (k l : ℕ) (i j : Instance) → k < l → slice_get (flat_map (instances_at params) vs) k ≡ Some i → slice_get (flat_map (instances_at params) vs) l ≡ Some j → AreAt params vs i j
instance_stops params [] k l i j lt at at' = absurd (let no : None ≡ Some i = at in cc)
instance_stops params (v ∷ vs) k l i j lt at at' =
    let here = instances_at params v in
    let later = flat_map (instances_at params) vs in
    elim (cases_lt k (length here)) [
      | inl less ↦
          let one = once params v.first v.what v.loops k i (sym (get-front here later k less) ∙ at) in
          let alone : length here ≡ 1 = ap length one.1 in
          let more : length here + (l - length here) ≡ l = omega (arith, alone, one.0, lt) in
          let rest = instance_stop params vs (l - length here) j (sym (get-behind here later (l - length here)) ∙ ap (slice_get (here ++ later)) more ∙ at') in
          record { first = record { stop = 0; visit = v; at = refl; is = one.1 }; second = record { stop = suc rest.stop; visit = rest.visit; at = rest.at; is = rest.is }; rises = omega arith }
      | inr past ↦
          let more : length here + (k - length here) ≡ k = omega (arith, past) in
          let more' : length here + (l - length here) ≡ l = omega (arith, past, lt) in
          let rest = instance_stops params vs (k - length here) (l - length here) i j (omega (arith, lt, past)) (sym (get-behind here later (k - length here)) ∙ ap (slice_get (here ++ later)) more ∙ at) (sym (get-behind here later (l - length here)) ∙ ap (slice_get (here ++ later)) more' ∙ at') in
          record {
            first = record { stop = suc rest.first.stop; visit = rest.first.visit; at = rest.first.at; is = rest.first.is };
            second = record { stop = suc rest.second.stop; visit = rest.second.visit; at = rest.second.at; is = rest.second.is };
            rises = omega (arith, rest.rises);
          }
    ]

-- ---- the loops round an instance

-- a loop that isn't entered keeps its value
pub kept_after : (params loops : List ℤ) (hs : List Head) (ns : List ℕ) (m low high : ℕ) → 1 ≤ m → m < low → Deepens low high hs → numbered (loops_after params loops hs ns) m ≡ numbered loops m
kept_after params loops [] ns m low high some less d = refl
kept_after params loops (h ∷ hs) [] m low high some less d = refl
kept_after params loops (h ∷ hs) (n ∷ ns) m low high some less d =
    kept_after params (at_trip params h loops n) hs ns m (h.number + 1) high some (omega (arith, less, d.0)) d.2 ∙ kept-number loops h.number _ m some (omega (arith, less, d.0))

-- the pieces of work of a statement are the stops of the walk that enters every loop
abbrev as_phase : Nested → StaticPhase
as_phase n = record { what = work n.what; outer = n.around }

mutual
  every_text : (outer : List Head) (s : Statement) → phases_in every outer s ≡ map as_phase (nested_in outer s)
  every_text outer (do_loop head body) = every_texts (outer ++ head ∷ []) body
  every_text outer (work w) = refl
  every_text outer (continue line) = refl

  every_texts : (outer : List Head) (ss : Statements) → phases_among every outer ss ≡ map as_phase (nested_among outer ss)
  every_texts outer done = refl
  every_texts outer (next s rest) =
      ap (λ ps. ps ++ phases_among every outer rest) (every_text outer s) ∙ ap (λ ps. map as_phase (nested_in outer s) ++ ps) (every_texts outer rest) ∙ sym (map-append as_phase (nested_in outer s) (nested_among outer rest))

mutual
  stops_works : (s : Statement) → stops_in every s ≡ works_in s
  stops_works (do_loop head body) = all_works body
  stops_works (work w) = refl
  stops_works (continue line) = refl

  all_works : (ss : Statements) → stops_of every ss ≡ works_of ss
  all_works done = refl
  all_works (next s rest) = omega (arith, stops_works s, all_works rest)

-- so the numbers of stops and of pieces of work rise together
abbrev RisesWith : ℕ → ℕ → Station → Type 0
RisesWith place first x = x.visit.first + place ≡ x.visit.place + first

mutual
  rise_of : (params : List ℤ) (s : Statement) (place first : ℕ) (loops : List ℤ) → AllByRecursion (RisesWith place first) (stations_of params every s place first loops)
  rise_of params (do_loop head body) place first loops =
      all_in_range (RisesWith place first) (λ n. map (push head n) (stations_in params every body place first (at_trip params head loops n))) 0 (trips_of params head loops)
      (λ n lt. all_mapped (RisesWith place first) (RisesWith place first) (push head n) (stations_in params every body place first (at_trip params head loops n)) (λ x h. h) (rise_in params body place first (at_trip params head loops n)))
  rise_of params (work w) place first loops = (omega arith, tt)
  rise_of params (continue line) place first loops = tt

  rise_in : (params : List ℤ) (ss : Statements) (place first : ℕ) (loops : List ℤ) → AllByRecursion (RisesWith place first) (stations_in params every ss place first loops)
  rise_in params done place first loops = tt
  rise_in params (next s rest) place first loops =
      let later = stations_in params every rest (place + stops_in every s) (first + works_in s) loops in
      all-append (RisesWith place first) (stations_of params every s place first loops) later (rise_of params s place first loops)
      (all-weaker (RisesWith (place + stops_in every s) (first + works_in s)) (RisesWith place first) later (λ x h. omega (arith, h, stops_works s)) (rise_in params rest (place + stops_in every s) (first + works_in s) loops))

-- a walk inside a statement is in its loop, at a trip of that
abbrev pub StartsIn : List ℤ → List ℤ → Statement → List Head → List ℕ → Type 0
StartsIn params loops (do_loop head body) [] ns = ⊥
StartsIn params loops (do_loop head body) (h ∷ hs) [] = ⊥
StartsIn params loops (do_loop head body) (h ∷ hs) (n ∷ ns) = (h ≡ head) × (n < trips_of params head loops)
StartsIn params loops (work w) hs ns = hs ≡ []
StartsIn params loops (continue line) hs ns = hs ≡ []

starts : (params loops : List ℤ) (s : Statement) (place first : ℕ) → AllByRecursion (λ (x : Station). StartsIn params loops s x.heads x.trips) (stations_of params every s place first loops)
starts params loops (do_loop head body) place first =
    all_in_range (λ (x : Station). StartsIn params loops (do_loop head body) x.heads x.trips) (λ n. map (push head n) (stations_in params every body place first (at_trip params head loops n))) 0 (trips_of params head loops)
    (λ n lt. each n (omega (arith, lt)) (stations_in params every body place first (at_trip params head loops n)))
  where
    each : (n : ℕ) → n < trips_of params head loops → (xs : List Station) → AllByRecursion (λ (x : Station). StartsIn params loops (do_loop head body) x.heads x.trips) (map (push head n) xs)
    each n lt [] = tt
    each n lt (x ∷ xs) = ((refl, lt), each n lt xs)
starts params loops (work w) place first = (refl, tt)
starts params loops (continue line) place first = tt

-- an instance of a stop with these loops round it
pub record IsPlaced (params : List ℤ) (scope : Scope) (heads : List Head) (ns : List ℕ) (v : Visit) (i : Instance) : Type 0 where
  pub inner : Station
  pub executed : is_executed i.what i.loops params ≡ true
  pub number : slice_get (nested_in heads v.what) (i.statement - v.first) ≡ Some (record { what = i.what; around = heads ++ inner.heads })
  pub nested : Contains (nested_in heads v.what) (record { what = i.what; around = heads ++ inner.heads })
  pub trips : AreTrips params i.loops (heads ++ inner.heads) (ns ++ inner.trips)
  pub loops_are : i.loops ≡ loops_after params v.loops inner.heads inner.trips
  pub starts_in : StartsIn params v.loops v.what inner.heads inner.trips
  pub low : ℕ
  pub high : ℕ
  pub deepens : Deepens low high inner.heads
  pub before : AllByRecursion (IsBefore low) heads

work_alone : (params : List ℤ) (first : ℕ) (w : Work) (loops : List ℤ) (b : Bool) (i : Instance) → is_executed w loops params ≡ b → (if b then record { statement = first; what = w; loops = loops } ∷ [] else []) ≡ i ∷ [] →
    (w ≡ i.what) × (loops ≡ i.loops) × (is_executed i.what i.loops params ≡ true) × (first ≡ i.statement)
work_alone params first w loops true i e is =
    let same : record { statement = first; what = w; loops = loops } ≡ i = cc in
    let what = ap (λ (x : Instance). x.what) same in
    let values = ap (λ (x : Instance). x.loops) same in
    (what, values, sym (ap (λ x. is_executed x i.loops params) what) ∙ sym (ap (λ l. is_executed w l params) values) ∙ e, ap (λ (x : Instance). x.statement) same)
work_alone params first w loops false i e is = absurd (let no : [] ≡ i ∷ [] = is in cc)

module _ (params : List ℤ) (scope : Scope) (heads : List Head) (ns : List ℕ) (v : Visit) (number : ℕ) (context : IsInFront params scope heads ns v.loops number v.what) where
  abbrev inner_walk : List Station
  inner_walk = stations_of params every v.what 1 v.first v.loops

  -- at a station inside it
  pub placed_at_station : (i : Instance) (k : ℕ) (s : Station) → slice_get (stations_of params every v.what 1 v.first v.loops) k ≡ Some s → instances_at params s.visit ≡ i ∷ [] → (p : IsPlaced params scope heads ns v i) × (p.inner ≡ s)
  placed_at_station i k s at is =
      let known = all-at (IsStation params scope heads ns v.loops number (number + loops_in v.what) 1 (text_of every v.what)) (stations_of params every v.what 1 v.first v.loops) k s (each_of params scope every heads ns v.loops number 1 v.first v.what context) at in
      by s.visit.what refl known
    where
      nested_is : (n : Nested) (w : Work) → work n.what ≡ work w → n.around ≡ heads ++ s.heads → w ≡ i.what → n ≡ record { what = i.what; around = heads ++ s.heads }
      nested_is n w same around what =
          let inner : n.what ≡ w = cc in
          ap (λ x. record { what = x; around = n.around }) (inner ∙ what) ∙ ap (λ hs. record { what = i.what; around = hs }) around

      by : (what : Statement) → s.visit.what ≡ what → IsStation params scope heads ns v.loops number (number + loops_in v.what) 1 (text_of every v.what) s → (p : IsPlaced params scope heads ns v i) × (p.inner ≡ s)
      by (do_loop head body) e known = absurd (let no : [] ≡ i ∷ [] = sym (ap (λ w. executed_at params s.visit.first w s.visit.loops) e) ∙ is in cc)
      by (work w) e known =
          let alone = work_alone params s.visit.first w s.visit.loops (is_executed w s.visit.loops params) i refl (sym (ap (λ w. executed_at params s.visit.first w s.visit.loops) e) ∙ is) in
          let text = ap (λ x. slice_get x (s.visit.place - 1)) (phases_in-within every heads v.what) ∙ mapped_get (within heads) (text_of every v.what) (s.visit.place - 1) (record { what = s.visit.what; outer = s.heads }) known.at in
          let m = mapped as_phase (nested_in heads v.what) (s.visit.place - 1) (record { what = s.visit.what; outer = heads ++ s.heads }) (ap (λ ps. slice_get ps (s.visit.place - 1)) (sym (every_text heads v.what)) ∙ text) in
          let same : work m.0.what ≡ work w = ap (λ (x : StaticPhase). x.what) m.2 ∙ e in
          let nested : m.0 ≡ record { what = i.what; around = heads ++ s.heads } = nested_is m.0 w same (ap (λ (x : StaticPhase). x.outer) m.2) alone.0 in
          let rises = all-at (RisesWith 1 v.first) (stations_of params every v.what 1 v.first v.loops) k s (rise_of params v.what 1 v.first v.loops) at in
          let index : s.visit.place - 1 ≡ i.statement - v.first = omega (arith, rises, alone.3, known.low) in
          let stands : slice_get (nested_in heads v.what) (i.statement - v.first) ≡ Some (record { what = i.what; around = heads ++ s.heads }) = ap (slice_get (nested_in heads v.what)) (sym index) ∙ m.1 ∙ ap Some nested in (
            record {
              inner = s;
              executed = alone.2;
              number = stands;
              nested = contains_at (nested_in heads v.what) (i.statement - v.first) (record { what = i.what; around = heads ++ s.heads }) stands;
              trips = subst (λ l. AreTrips params l (heads ++ s.heads) (ns ++ s.trips)) alone.1 known.context.trips;
              loops_are = sym alone.1 ∙ known.loops_are;
              starts_in = all-at (λ (x : Station). StartsIn params v.loops v.what x.heads x.trips) (stations_of params every v.what 1 v.first v.loops) k s (starts params v.loops v.what 1 v.first) at;
              low = number;
              high = number + loops_in v.what;
              deepens = known.deepens;
              before = context.before;
            },
            refl,
          )
      by (continue line) e known = absurd (let no : [] ≡ i ∷ [] = sym (ap (λ w. executed_at params s.visit.first w s.visit.loops) e) ∙ is in cc)

  -- the instances of the stop are those of the walk inside it
  pub inner_instances : flat_map (instances_at params) (map visit_in (stations_of params every v.what 1 v.first v.loops)) ≡ visit_instances params v
  inner_instances = ap (flat_map (instances_at params)) (visits-of params every v.what 1 v.first v.loops) ∙ one_same params v.what 1 v.first v.loops

  pub instance_placed : (i : Instance) (k : ℕ) → slice_get (visit_instances params v) k ≡ Some i → IsPlaced params scope heads ns v i
  instance_placed i k at =
      let stop = instance_stop params (map visit_in (stations_of params every v.what 1 v.first v.loops)) k i (ap (λ xs. slice_get xs k) inner_instances ∙ at) in
      let back = mapped visit_in (stations_of params every v.what 1 v.first v.loops) stop.stop stop.visit stop.at in
      (placed_at_station i stop.stop back.0 back.1 (ap (instances_at params) back.2 ∙ stop.is)).0

  -- of two instances the later one is at a later stop of that walk
  pub instances_placed : (i j : Instance) (k l : ℕ) → k < l → slice_get (visit_instances params v) k ≡ Some i → slice_get (visit_instances params v) l ≡ Some j →
      (p : IsPlaced params scope heads ns v i) × ((q : IsPlaced params scope heads ns v j) × Comes p.inner q.inner)
  instances_placed i j k l lt at at' =
      let walk = stations_of params every v.what 1 v.first v.loops in
      let stops = instance_stops params (map visit_in walk) k l i j lt (ap (λ xs. slice_get xs k) inner_instances ∙ at) (ap (λ xs. slice_get xs l) inner_instances ∙ at') in
      let back = mapped visit_in walk stops.first.stop stops.first.visit stops.first.at in
      let back' = mapped visit_in walk stops.second.stop stops.second.visit stops.second.at in
      let p = placed_at_station i stops.first.stop back.0 back.1 (ap (instances_at params) back.2 ∙ stops.first.is) in
      let q = placed_at_station j stops.second.stop back'.0 back'.1 (ap (instances_at params) back'.2 ∙ stops.second.is) in
      let comes_so = comes_at walk stops.first.stop stops.second.stop back.0 back'.0 (rises_of params scope every heads ns v.loops number 1 v.first v.what context) stops.rises back.1 back'.1 in
      (p.0, (q.0, subst (λ s. Comes s q.0.inner) (sym p.1) (subst (λ s. Comes back.0 s) (sym q.1) comes_so)))
