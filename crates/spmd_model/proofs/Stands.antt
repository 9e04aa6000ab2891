-- Each job of a phase stands for an instance of its owner there, whose cells it shows to others.
use Rattle.std.proofs.Common.{◌≡◌, ℕ, zero, suc, ◌+◌, ◌-◌, ◌*◌, ◌<◌, ◌≤◌, ◌⊎◌, ℤ, Bool, true, false, true≢false, ◌&&◌, ◌||◌, ◌==◌, not, cond, List, [], ◌∷◌, ◌++◌, length, map, Option, Some, None, if◌then◌else◌, refl, ap, sym, subst, ◌∙◌, inl, inr, arith, is_none}
use Rattle.std.specs.Prelude.{Contains, find, slice_get}
use Rattle.std.specs.List.{All, flat_map, list_any, range_with_len}
use Rattle.std.specs.Option.{option_map, option_to_list}
use Rattle.std.proofs.lemmas.Bool.{and_parts, cases_Bool, cases_lt, eqb-true}
use Rattle.std.proofs.lemmas.List.{length-map}
use Rattle.std.proofs.lemmas.List.Elements.{All-contains, Contains-append_cases, Contains-append_left, Contains-append_right}
use Rattle.std.proofs.lemmas.Option.{slice_get-map, slice_get_within}
use Rattle.list_lemmas.proofs.Gets.{get-front, get-behind}
use Rattle.list_lemmas.proofs.Elements.{contains_at, Contains-filter, Contains-flat_map_cases, Contains-one}
use Rattle.nest_tree.specs.Layout.{bounds_of, cell_count, element_count, first_cell, element_place}
use Rattle.nest_tree.specs.Tree.{Printing, Work, assign, print, Statement, do_loop, work, continue, Tree, param_values}
use Rattle.nest_tree.specs.WellFormed.{IsWellFormed}
use Rattle.nest_model.specs.Accesses.{access_cell, cells_of, loads_of, store_of, subscript_values, work_store}
use Rattle.nest_model.specs.Instances.{Instance, head_trips, instances_in, with_loop}
use Rattle.nest_model.specs.Ranges.{IsInRange}
use Rattle.nest_model.specs.Visits.{Visit}
use Rattle.nest_walk.proofs.CellPlaces.{cells_below}
use Rattle.own_scalars.specs.OwnScalars.{is_of, is_plain_store, is_private, loads}
use Rattle.owner_partition.specs.Cuts.{privates_of}
use Rattle.owner_partition.specs.Phases.{Execution, executions, executions_from, visit_instances, phases}
use Rattle.owner_partition.proofs.Sites.{all_at}
use Rattle.sync_plan.specs.declared.plan.Plan.{Plan}
use Rattle.sync_plan.specs.Conflicts.{is_last_store, owner_under, seen_by, seen_cells, seen_loads, seen_store, seen_stored}
use Rattle.sync_plan.specs.Fit.{IsFit}
use Rattle.sync_plan.specs.Own.{Own, OwnLoop, at_slot, is_cell_of, own_cell, own_loop, own_loop_of, own_of}
use Rattle.sync_plan.specs.Stored.{AreStoredFirst}
use Rattle.sync_plan.proofs.FitOwners.{owners_below, printers, trip_owner}
use Rattle.spmd_model.specs.Closings.{closings_of, has_stored, keeping, keeping_of, last_owner, moves_to, phase_owner, sets_to_zero, total_of, totalling, totalling_of}
use Rattle.spmd_model.specs.Lawful.{stores_to}
use Rattle.spmd_model.specs.Ordered.{Needs}
use Rattle.spmd_model.specs.Machines.{instance_jobs, job_under}
use Rattle.spmd_model.specs.Timelines.{Job}
use Rattle.spmd_model.proofs.CellsThere.{IsGoodWork, cells_there, execution_inside, good_of}
use Rattle.spmd_model.proofs.LastOwners.{last_of, no_loop}
use Rattle.spmd_model.proofs.LastStores.{last_among, last_store}
use Rattle.spmd_model.proofs.OwnTexts.{AreOwnIn, IsScalar, Slots, private_slot, sum_slot, cell_there, no_slot, not_both, one_scalar, own_in_phase, private_is, slots, sum_is}
use Rattle.spmd_model.proofs.TripOwners.{one_owner}
use Rattle.spmd_model.proofs.Keeps.{store_is}

-- ---- lists

pub in_map : {X Y : Type 0} (f : X → Y) (xs : List X) (y : Y) → Contains (map f xs) y → (x : X) × Contains xs x × (y ≡ f x)
in_map f [] y (k, lt, e) = absurd (omega (arith, lt))
in_map f (x ∷ xs) y (zero, lt, e) = (x, (0, omega arith, refl), sym e)
in_map f (x ∷ xs) y (suc k, lt, e) = let r = in_map f xs y (k, omega (arith, lt), e) in (r.0, (suc r.1.0, omega (arith, r.1.1), r.1.2), r.2)

pub any_there : {X : Type 0} (test : X → Bool) (xs : List X) → list_any test xs ≡ true → (k : ℕ) × (x : X) × (slice_get xs k ≡ Some x) × (test x ≡ true)
any_there test [] e = absurd (true≢false (sym e))
any_there test (x ∷ xs) e = elim (cases_Bool (test x)) [
  | inl here ↦ (0, x, refl, here)
  | inr not_here ↦ let r = any_there test xs (sym (ap (λ b. b || list_any test xs) not_here) ∙ e) in (suc r.0, r.1, r.2, r.3)
]

-- ---- the number of an execution

abbrev pub execution_place : List ℤ → List Visit → ℕ → ℕ
execution_place params vs zero = 0
execution_place params [] (suc k) = 0
execution_place params (v ∷ vs) (suc k) = length (visit_instances params v) + execution_place params vs k

pub execution_there : (params : List ℤ) (e : ℕ) (vs : List Visit) (k i : ℕ) (v : Visit) (x : Instance) → slice_get vs k ≡ Some v → slice_get (visit_instances params v) i ≡ Some x →
    slice_get (executions_from params e vs) (execution_place params vs k + i) ≡ Some (record { phase = e + k; place = v.place; instance = x })
execution_there params e [] k i v x at is = let clash : None ≡ Some v = at in absurd (cc)
execution_there params e (w ∷ vs) zero i v x at is =
    let same : Some w ≡ Some v = at in
    let equal : w ≡ v = cc in
    let here : Instance → Execution = λ y. record { phase = e; place = w.place; instance = y } in
    let at_w : slice_get (visit_instances params w) i ≡ Some x = ap (λ y. slice_get (visit_instances params y) i) equal ∙ is in
    let within = slice_get_within (visit_instances params w) i x at_w in
    let first : execution_place params (w ∷ vs) 0 + i ≡ i = omega arith in
    let number : e ≡ e + 0 = omega arith in
    ap (slice_get (map here (visit_instances params w) ++ executions_from params (suc e) vs)) first
    ∙ get-front (map here (visit_instances params w)) (executions_from params (suc e) vs) i (omega (arith, within, length-map (visit_instances params w) here))
    ∙ slice_get-map here (visit_instances params w) i ∙ ap (option_map here) at_w
    ∙ ap (λ (y : Visit). Some (record { phase = e; place = y.place; instance = x })) equal ∙ ap (λ n. Some (record { phase = n; place = v.place; instance = x })) number
execution_there params e (w ∷ vs) (suc k) i v x at is =
    let here : Instance → Execution = λ y. record { phase = e; place = w.place; instance = y } in
    let rest = execution_there params (suc e) vs k i v x at is in
    let count : execution_place params (w ∷ vs) (suc k) + i ≡ length (map here (visit_instances params w)) + (execution_place params vs k + i) = omega (arith, length-map (visit_instances params w) here) in
    let number : suc e + k ≡ e + suc k = omega arith in
    ap (slice_get (map here (visit_instances params w) ++ executions_from params (suc e) vs)) count
    ∙ get-behind (map here (visit_instances params w)) (executions_from params (suc e) vs) (execution_place params vs k + i) ∙ rest
    ∙ ap (λ n. Some (record { phase = n; place = v.place; instance = x })) number

pub execution_rises : (params : List ℤ) (vs : List Visit) (k l i j : ℕ) (v : Visit) → k < l → slice_get vs k ≡ Some v → i < length (visit_instances params v) → execution_place params vs k + i < execution_place params vs l + j
execution_rises params [] k l i j v lt at within = let clash : None ≡ Some v = at in absurd (cc)
execution_rises params (w ∷ vs) k zero i j v lt at within = absurd (omega (arith, lt))
execution_rises params (w ∷ vs) zero (suc l) i j v lt at within =
    let same : Some w ≡ Some v = at in
    let equal : w ≡ v = cc in
    omega (arith, within, ap (λ y. length (visit_instances params y)) equal)
execution_rises params (w ∷ vs) (suc k) (suc l) i j v lt at within = let rest = execution_rises params vs k l i j v (omega (arith, lt)) at within in omega (arith, rest)

-- ---- what is shown

-- a job loads or changes a cell
abbrev pub Has : Job → ℕ → Type 0
Has j c = Contains j.loads c ⊎ (j.store ≡ Some c)

-- jobs of a phase are of three sorts: instances touch no own scalar's shared cell; of a private scalar, by the owner of the last trip; and of a processor's total, which needs no shared cell for itself
pub data Sorts (tree : Tree) (plan : Plan) (v : Visit) (j : Job) : Type 0 where
  an_instance : ((c : ℕ) → Has j c → c < cell_count tree → (is_cell_of tree (own_loop tree plan v.place).privates c ≡ false) × (is_cell_of tree (own_loop tree plan v.place).sums c ≡ false)) → Sorts tree plan v j
  a_keeping : last_owner tree plan v ≡ Some j.owner → ((c : ℕ) → Has j c → c < cell_count tree → is_cell_of tree (own_loop tree plan v.place).privates c ≡ true) → Sorts tree plan v j
  a_total : ((c : ℕ) → Needs j c → cell_count tree ≤ c) → ((c : ℕ) → Has j c → c < cell_count tree → is_cell_of tree (own_loop tree plan v.place).sums c ≡ true) → Sorts tree plan v j

abbrev pub in_phase : ℕ → Visit → Instance → Execution
in_phase e v i = record { phase = e; place = v.place; instance = i }

pub record Shows (tree : Tree) (plan : Plan) (e : ℕ) (v : Visit) (i : Instance) (j : Job) : Type 0 where
  pub own : (c : ℕ) → Has j c → cell_count tree ≤ c → (k : ℕ) × (k < 32) × (c ≡ cell_count tree + (32 * j.owner + k))
  pub seen : (c : ℕ) → Has j c → c < cell_count tree → Contains (seen_cells tree plan (in_phase e v i)) c
  pub stored : (c : ℕ) → j.store ≡ Some c → c < cell_count tree → seen_store tree plan (in_phase e v i) ≡ Some c
  pub sort : Sorts tree plan v j

-- the instance for which a job of a phase stands
pub record Stands (tree : Tree) (plan : Plan) (e : ℕ) (v : Visit) (j : Job) : Type 0 where
  pub index : ℕ
  pub instance : Instance
  pub at : slice_get (visit_instances (param_values tree) v) index ≡ Some instance
  pub owner : j.owner ≡ phase_owner tree plan v instance.loops
  pub printed : j.store ≡ None → store_of tree instance ≡ None
  pub shows : IsInRange tree → Shows tree plan e v instance j

-- ---- where a processor has a cell

pub data Under (tree : Tree) (o : Own) (p c d : ℕ) : Type 0 where
  shared_one : o.slot c ≡ None → d ≡ c → Under tree o p c d
  own_one : (k : ℕ) → o.slot c ≡ Some k → d ≡ o.cell p k → Under tree o p c d

pub under : (tree : Tree) (o : Own) (p c d : ℕ) → d ≡ own_cell o p c → Under tree o p c d
under tree o p c d is = by (o.slot c) refl
  where
    by : (s : Option ℕ) → o.slot c ≡ s → Under tree o p c d
    by None at = shared_one at (is ∙ ap (at_slot o p c) at)
    by (Some k) at = own_one k at (is ∙ ap (at_slot o p c) at)

pub slot_below : (tree : Tree) (plan : Plan) (v : Visit) (o : AreOwnIn tree plan v) (c k : ℕ) → (own_of tree plan v.place).slot c ≡ Some k → k < 32
slot_below tree plan v o c k at = by (slots tree plan v o c k at)
  where
    by : Slots tree plan v o c k → k < 32
    by (private_slot lt is at) = omega (arith, lt)
    by (sum_slot n is lt cell at) = omega (arith, is, lt)

-- an own scalar's shared cell has a place
pub slot_there : (tree : Tree) (plan : Plan) (v : Visit) (o : AreOwnIn tree plan v) (c : ℕ) → (is_cell_of tree (own_loop tree plan v.place).privates c ≡ true) ⊎ (is_cell_of tree (own_loop tree plan v.place).sums c ≡ true) → (k : ℕ) × ((own_of tree plan v.place).slot c ≡ Some k)
slot_there tree plan v o c among = by ((own_of tree plan v.place).slot c) refl
  where
    by : (s : Option ℕ) → (own_of tree plan v.place).slot c ≡ s → (k : ℕ) × ((own_of tree plan v.place).slot c ≡ Some k)
    by (Some k) at = (k, at)
    by None at =
        let none = no_slot tree plan v o c at in
        absurd (elim among [ inl is ↦ true≢false (sym is ∙ none.0) | inr is ↦ true≢false (sym is ∙ none.1) ])

-- so where a processor has it is one of its own cells
pub own_one_is : (tree : Tree) (plan : Plan) (v : Visit) (o : AreOwnIn tree plan v) (p c : ℕ) → (is_cell_of tree (own_loop tree plan v.place).privates c ≡ true) ⊎ (is_cell_of tree (own_loop tree plan v.place).sums c ≡ true) →
    (k : ℕ) × (k < 32) × (own_cell (own_of tree plan v.place) p c ≡ cell_count tree + (32 * p + k))
own_one_is tree plan v o p c among =
    let s = slot_there tree plan v o c among in
    (s.0, slot_below tree plan v o c s.0 s.1, ap (at_slot (own_of tree plan v.place) p c) s.1)

pub scalar_below : (tree : Tree) (u : ℕ) → IsScalar tree u → first_cell tree u < cell_count tree
scalar_below tree u s =
    let below = cells_below tree.variables (u - 1) (omega (arith, s.low, s.high)) in
    let one : element_count (bounds_of tree u) ≡ 1 = ap element_count s.bare in
    omega (arith, below, one)

-- ---- an instance stands for itself

find_none : (tree : Tree) (us : List ℕ) (c : ℕ) → is_cell_of tree us c ≡ false → find (λ u. first_cell tree u == c) us ≡ None
find_none tree [] c e = refl
find_none tree (u ∷ us) c e = elim (cases_Bool (first_cell tree u == c)) [
  | inl same ↦ absurd (true≢false (sym (ap (λ b. b || is_cell_of tree us c) same) ∙ e))
  | inr other ↦ ap (λ b. cond b (Some u) (find (λ x. first_cell tree x == c) us)) other ∙ find_none tree us c (sym (ap (λ b. b || is_cell_of tree us c) other) ∙ e)
]

find_there : (tree : Tree) (us : List ℕ) (c : ℕ) → is_cell_of tree us c ≡ true → (u : ℕ) × Contains us u × (first_cell tree u ≡ c) × (find (λ x. first_cell tree x == c) us ≡ Some u)
find_there tree [] c e = absurd (true≢false (sym e))
find_there tree (u ∷ us) c e = elim (cases_Bool (first_cell tree u == c)) [
  | inl same ↦ (u, (0, omega arith, refl), eqb-true (first_cell tree u) c same, ap (λ b. cond b (Some u) (find (λ x. first_cell tree x == c) us)) same)
  | inr other ↦
      let r = find_there tree us c (sym (ap (λ b. b || is_cell_of tree us c) other) ∙ e) in
      (r.0, (suc r.1.0, omega (arith, r.1.1), r.1.2), r.2, ap (λ b. cond b (Some u) (find (λ x. first_cell tree x == c) us)) other ∙ r.3)
]

-- a store to a cell that is no private scalar's is seen
store_seen : (tree : Tree) (plan : Plan) (x : Execution) (c : ℕ) → store_of tree x.instance ≡ Some c → is_cell_of tree (own_loop tree plan x.place).privates c ≡ false → seen_store tree plan x ≡ Some c
store_seen tree plan x c stores none = ap (seen_stored tree plan x) stores ∙ ap (seen_by tree plan x c) (find_none tree (own_loop tree plan x.place).privates c none)

load_seen : (tree : Tree) (plan : Plan) (x : Execution) (c : ℕ) → Contains (loads_of tree x.instance) c → is_cell_of tree (own_loop tree plan x.place).privates c ≡ false → Contains (seen_loads tree plan x) c
load_seen tree plan x c among none = Contains-filter (λ d. not (is_cell_of tree (own_loop tree plan x.place).privates d)) (loads_of tree x.instance) c among (ap not none)

seen_as_store : (tree : Tree) (plan : Plan) (x : Execution) (c : ℕ) → seen_store tree plan x ≡ Some c → Contains (seen_cells tree plan x) c
seen_as_store tree plan x c is = Contains-append_right (seen_loads tree plan x) (option_to_list (seen_store tree plan x)) c (subst (λ o. Contains (option_to_list o) c) (sym is) (0, omega arith, refl))

pub option_from : (f : ℕ → ℕ) (o : Option ℕ) (d : ℕ) → option_map f o ≡ Some d → (c : ℕ) × (o ≡ Some c) × (d ≡ f c)
option_from f None d e = let clash : None ≡ Some d = e in absurd (cc)
option_from f (Some c) d e = let same : Some (f c) ≡ Some d = e in let is : f c ≡ d = cc in (c, refl, sym is)

module _ (tree : Tree) (plan : Plan) (e : ℕ) (v : Visit) (o : AreOwnIn tree plan v) (i : Instance) where
  abbrev x : Execution
  x = record { phase = e; place = v.place; instance = i }

  abbrev own : Own
  own = own_of tree plan v.place

  abbrev p : ℕ
  p = phase_owner tree plan v i.loops

  -- the cell behind one that the job has
  record Behind (d : ℕ) : Type 0 where
    cell : ℕ
    there : cell < cell_count tree
    is : Under tree (own_of tree plan v.place) (phase_owner tree plan v i.loops) cell d
    how : Contains (loads_of tree i) cell ⊎ (store_of tree i ≡ Some cell)

  behind : All (λ c. c < cell_count tree) (cells_of tree i) → (d : ℕ) → Has (job_under tree plan (record { phase = e; place = v.place; instance = i })) d → Behind d
  behind all d (inl among) =
      let m = in_map (own_cell (own_of tree plan v.place) (phase_owner tree plan v i.loops)) (loads_of tree i) d among in
      record {
        cell = m.0;
        there = All-contains (λ c. c < cell_count tree) (cells_of tree i) m.0 all (Contains-append_left (loads_of tree i) (option_to_list (store_of tree i)) m.0 m.1);
        is = under tree (own_of tree plan v.place) (phase_owner tree plan v i.loops) m.0 d m.2;
        how = inl m.1;
      }
  behind all d (inr stores) =
      let m = option_from (own_cell (own_of tree plan v.place) (phase_owner tree plan v i.loops)) (store_of tree i) d stores in
      record {
        cell = m.0;
        there = All-contains (λ c. c < cell_count tree) (cells_of tree i) m.0 all (Contains-append_right (loads_of tree i) (option_to_list (store_of tree i)) m.0 (subst (λ s. Contains (option_to_list s) m.0) (sym m.1) (0, omega arith, refl)));
        is = under tree (own_of tree plan v.place) (phase_owner tree plan v i.loops) m.0 d m.2;
        how = inr m.1;
      }

  -- where it is shared, it is no own scalar's, and is itself
  shared_is : (d : ℕ) → d < cell_count tree → (b : Behind d) → (b.cell ≡ d) × (is_cell_of tree (own_loop tree plan v.place).privates d ≡ false) × (is_cell_of tree (own_loop tree plan v.place).sums d ≡ false)
  shared_is d lt b = by b.is
    where
      by : Under tree (own_of tree plan v.place) (phase_owner tree plan v i.loops) b.cell d → (b.cell ≡ d) × (is_cell_of tree (own_loop tree plan v.place).privates d ≡ false) × (is_cell_of tree (own_loop tree plan v.place).sums d ≡ false)
      by (shared_one none same) =
          let free = no_slot tree plan v o b.cell none in
          (sym same, ap (is_cell_of tree (own_loop tree plan v.place).privates) same ∙ free.0, ap (is_cell_of tree (own_loop tree plan v.place).sums) same ∙ free.1)
      by (own_one k at same) = absurd (omega (arith, same, lt))

  instance_shows : All (λ c. c < cell_count tree) (cells_of tree i) → Shows tree plan e v i (job_under tree plan (record { phase = e; place = v.place; instance = i }))
  instance_shows all = record {
    own = λ d has le. own_is d le (behind all d has);
    seen = λ d has lt. seen_is d lt (behind all d has);
    stored = λ d stores lt. let b = behind_store d stores in store_seen tree plan (record { phase = e; place = v.place; instance = i }) d (stored_is d lt stores) (shared_is d lt (behind all d (inr stores))).1;
    sort = an_instance (λ d has lt. let s = shared_is d lt (behind all d has) in (s.1, s.2));
  }
    where
      behind_store : (d : ℕ) → (job_under tree plan (record { phase = e; place = v.place; instance = i })).store ≡ Some d → Behind d
      behind_store d stores = behind all d (inr stores)

      own_is : (d : ℕ) → cell_count tree ≤ d → Behind d → (k : ℕ) × (k < 32) × (d ≡ cell_count tree + (32 * phase_owner tree plan v i.loops + k))
      own_is d le b = by b.is
        where
          by : Under tree (own_of tree plan v.place) (phase_owner tree plan v i.loops) b.cell d → (k : ℕ) × (k < 32) × (d ≡ cell_count tree + (32 * phase_owner tree plan v i.loops + k))
          by (shared_one none same) = absurd (omega (arith, same, b.there, le))
          by (own_one k at same) = (k, slot_below tree plan v o b.cell k at, same)

      seen_is : (d : ℕ) → d < cell_count tree → Behind d → Contains (seen_cells tree plan (record { phase = e; place = v.place; instance = i })) d
      seen_is d lt b =
          let s = shared_is d lt b in
          let X : Execution = record { phase = e; place = v.place; instance = i } in
          elim b.how [
            | inl among ↦ Contains-append_left (seen_loads tree plan X) (option_to_list (seen_store tree plan X)) d (load_seen tree plan X d (subst (λ c. Contains (loads_of tree i) c) s.0 among) s.1)
            | inr stores ↦ seen_as_store tree plan X d (store_seen tree plan X d (stores ∙ ap Some s.0) s.1)
          ]

      stored_is : (d : ℕ) → d < cell_count tree → (job_under tree plan (record { phase = e; place = v.place; instance = i })).store ≡ Some d → store_of tree i ≡ Some d
      stored_is d lt stores =
          let m = option_from (own_cell (own_of tree plan v.place) (phase_owner tree plan v i.loops)) (store_of tree i) d stores in
          m.1 ∙ ap Some (shared_store d lt m.0 m.2)
        where
          shared_store : (d : ℕ) → d < cell_count tree → (c : ℕ) → d ≡ own_cell (own_of tree plan v.place) (phase_owner tree plan v i.loops) c → c ≡ d
          shared_store d lt c is = by (under tree (own_of tree plan v.place) (phase_owner tree plan v i.loops) c d is)
            where
              by : Under tree (own_of tree plan v.place) (phase_owner tree plan v i.loops) c d → c ≡ d
              by (shared_one none same) = sym same
              by (own_one k at same) = absurd (omega (arith, same, lt))

-- ---- closings

-- the store of a scalar is to its first cell
pub plain_store : (tree : Tree) (u : ℕ) (loops : List ℤ) (w : Work) → IsScalar tree u → is_plain_store u w ≡ true → work_store tree loops w ≡ Some (first_cell tree u)
plain_store tree u loops (assign a) scalar plain =
    let first = and_parts (is_of u a.target && not (loads u a.value)) (is_none a.guard) plain in
    let both = and_parts (a.target.variable == u) (length a.target.subscripts == 0) (and_parts (is_of u a.target) (not (loads u a.value)) first.0).0 in
    let same = eqb-true a.target.variable u both.0 in
    let place : element_place (bounds_of tree a.target.variable) (subscript_values tree loops a.target.subscripts) ≡ 0 = ap (λ n. element_place (bounds_of tree n) (subscript_values tree loops a.target.subscripts)) same ∙ ap (λ b. element_place b (subscript_values tree loops a.target.subscripts)) scalar.bare in
    let first_is = ap (first_cell tree) same in
    let cell : access_cell tree loops a.target ≡ first_cell tree u = omega (arith, place, first_is) in
    ap Some cell
plain_store tree u loops (print p) scalar plain = absurd (true≢false (sym plain))

stores_some : (c : ℕ) → Some c ≡ None → ⊥
stores_some c e = cc

none_stored : (f : ℕ → ℕ) (o : Option ℕ) → option_map f o ≡ None → o ≡ None
none_stored f None e = refl
none_stored f (Some c) e = absurd (stores_some (f c) e)

some_is : (c d : ℕ) → Some c ≡ Some d → c ≡ d
some_is c d e = cc

module _ (tree : Tree) (plan : Plan) (e k : ℕ) (v : Visit) (formed : IsWellFormed tree) (at : slice_get (phases tree plan.cut.marks) k ≡ Some v) (o : AreOwnIn tree plan v) where
  -- a job that moves an own cell of a processor to a shared one
  module _ (adds : Bool) (q c n : ℕ) (below : c < cell_count tree) (small : n < 32) (own_is : own_cell (own_of tree plan v.place) q c ≡ cell_count tree + (32 * q + n)) where
    moved : (d : ℕ) → Has (moves_to adds q (own_cell (own_of tree plan v.place) q c) c) d → (d ≡ own_cell (own_of tree plan v.place) q c) ⊎ (c ≡ d)
    moved d (inl among) = inl (sym (Contains-one (own_cell (own_of tree plan v.place) q c) d among))
    moved d (inr stores) = inr (some_is c d stores)

    moves_own : (d : ℕ) → Has (moves_to adds q (own_cell (own_of tree plan v.place) q c) c) d → cell_count tree ≤ d → (m : ℕ) × (m < 32) × (d ≡ cell_count tree + (32 * q + m))
    moves_own d has le = elim (moved d has) [ inl is ↦ (n, small, is ∙ own_is) | inr same ↦ absurd (omega (arith, same, le, below)) ]

    moves_shared : (d : ℕ) → Has (moves_to adds q (own_cell (own_of tree plan v.place) q c) c) d → d < cell_count tree → c ≡ d
    moves_shared d has lt = elim (moved d has) [ inl is ↦ absurd (omega (arith, is, own_is, lt)) | inr same ↦ same ]

  keeping_shows : (u q : ℕ) → Contains (own_loop tree plan v.place).privates u → last_owner tree plan v ≡ Some q → (i : Instance) → is_plain_store u i.what ≡ true → is_last_store tree plan (record { phase = e; place = v.place; instance = i }) u ≡ true →
      Shows tree plan e v i (moves_to false q (own_cell (own_of tree plan v.place) q (first_cell tree u)) (first_cell tree u))
  keeping_shows u q among last i plain is_last =
      let c = first_cell tree u in
      let scalar = (private_is tree plan v o u among).1 in
      let below = scalar_below tree u scalar in
      let cell = cell_there tree (own_loop tree plan v.place).privates u among in
      let own = own_one_is tree plan v o q c (inl cell) in
      record {
        own = moves_own false q c own.0 below own.1 own.2;
        seen = λ d has lt. seen_as_store tree plan (in_phase e v i) d (shown ∙ ap Some (moves_shared false q c own.0 below own.1 own.2 d has lt));
        stored = λ d stores lt. shown ∙ stores;
        sort = a_keeping last (λ d has lt. ap (is_cell_of tree (own_loop tree plan v.place).privates) (sym (moves_shared false q c own.0 below own.1 own.2 d has lt)) ∙ cell);
      }
    where
      shown : seen_store tree plan (record { phase = e; place = v.place; instance = i }) ≡ Some (first_cell tree u)
      shown =
          let X : Execution = record { phase = e; place = v.place; instance = i } in
          let c = first_cell tree u in
          let scalar = (private_is tree plan v o u among).1 in
          let f = find_there tree (own_loop tree plan v.place).privates c (cell_there tree (own_loop tree plan v.place).privates u among) in
          let same = one_scalar tree f.0 u (private_is tree plan v o f.0 f.1).1 scalar f.2 in
          ap (seen_stored tree plan X) (plain_store tree u i.loops i.what scalar plain) ∙ ap (seen_by tree plan X c) f.3
          ∙ ap (λ w. if is_last_store tree plan X w then Some c else None) same ∙ ap (λ b. if b then Some c else None) is_last

  keeping_stands : IsFit tree plan → AreStoredFirst tree plan → (u q : ℕ) → Contains (own_loop tree plan v.place).privates u → last_owner tree plan v ≡ Some q → Stands tree plan e v (moves_to false q (own_cell (own_of tree plan v.place) q (first_cell tree u)) (first_cell tree u))
  keeping_stands fits stored u q among last = by v.what refl
    where
      no_private : (s : Statement) → v.what ≡ s → (own_loop_of plan.cut s).privates ≡ [] → ⊥
      no_private s what none = let a = subst (λ l. Contains l u) (ap (λ (l : OwnLoop). l.privates) (o.loop_is ∙ ap (own_loop_of plan.cut) what) ∙ none) among in omega (arith, a.1)

      by : (s : Statement) → v.what ≡ s → Stands tree plan e v (moves_to false q (own_cell (own_of tree plan v.place) q (first_cell tree u)) (first_cell tree u))
      by (work w) what = absurd (no_private (work w) what refl)
      by (continue line) what = absurd (no_private (continue line) what refl)
      by (do_loop head body) what =
          let l = last_of tree plan v head body what q last in
          let params = param_values tree in
          let loops = with_loop v.loops head.number l.value in
          let private : is_private u body ≡ true = ap (λ (s : Statement). is_private u (own_loop_of plan.cut s).body) (sym what) ∙ (private_is tree plan v o u among).0 in
          let mine : Contains (privates_of plan.cut.privates head.number) u = subst (λ (l : OwnLoop). Contains l.privates u) (o.loop_is ∙ ap (own_loop_of plan.cut) what) among in
          let runs = stored k v head body l.value u at what (last_among (head_trips params head v.loops) l.value l.last) mine in
          let s = last_store tree plan e k v head body u l.value formed at what o.loop_is private runs l.last in
          let one = all_at (λ (i : Instance). phase_owner tree plan v i.loops ≡ phase_owner tree plan v loops) (instances_in params body v.first loops) s.within s.instance (one_owner tree plan k v head body l.value formed fits at what) s.trip in
          record {
            index = s.index;
            instance = s.instance;
            at = s.at;
            owner = sym l.owner ∙ sym one;
            printed = λ none. absurd (stores_some (first_cell tree u) none);
            shows = λ ranges. keeping_shows u q among last s.instance s.plain s.last;
          }

  -- of a processor's total
  module _ (u q : ℕ) (among : Contains (own_loop tree plan v.place).sums u) (has : has_stored tree plan v (first_cell tree u) q ≡ true) where
    stored_there : (n : ℕ) × (i : Instance) × (slice_get (visit_instances (param_values tree) v) n ≡ Some i) × ((phase_owner tree plan v i.loops == q && stores_to (store_of tree i) (first_cell tree u)) ≡ true)
    stored_there = any_there (λ (i : Instance). phase_owner tree plan v i.loops == q && stores_to (store_of tree i) (first_cell tree u)) (visit_instances (param_values tree) v) has

    no_private_cell : is_cell_of tree (own_loop tree plan v.place).privates (first_cell tree u) ≡ false
    no_private_cell = elim (cases_Bool (is_cell_of tree (own_loop tree plan v.place).privates (first_cell tree u))) [
      | inl private ↦ absurd (not_both tree plan v o (first_cell tree u) private (cell_there tree (own_loop tree plan v.place).sums u among))
      | inr none ↦ none
    ]

    shown : (i : Instance) → stores_to (store_of tree i) (first_cell tree u) ≡ true → seen_store tree plan (record { phase = e; place = v.place; instance = i }) ≡ Some (first_cell tree u)
    shown i is = store_seen tree plan (record { phase = e; place = v.place; instance = i }) (first_cell tree u) (store_is (store_of tree i) (first_cell tree u) is) no_private_cell

    total_stands : Stands tree plan e v (moves_to true q (own_cell (own_of tree plan v.place) q (first_cell tree u)) (first_cell tree u))
    total_stands =
        let c = first_cell tree u in
        let s = stored_there in
        let i = s.1 in
        let both = and_parts (phase_owner tree plan v i.loops == q) (stores_to (store_of tree i) c) s.3 in
        let below = scalar_below tree u (sum_is tree plan v o u among).1 in
        let cell = cell_there tree (own_loop tree plan v.place).sums u among in
        let own = own_one_is tree plan v o q c (inr cell) in
        record {
          index = s.0;
          instance = i;
          at = s.2;
          owner = sym (eqb-true (phase_owner tree plan v i.loops) q both.0);
          printed = λ none. absurd (stores_some c none);
          shows = λ ranges. record {
            own = moves_own true q c own.0 below own.1 own.2;
            seen = λ d h lt. seen_as_store tree plan (in_phase e v i) d (shown i both.1 ∙ ap Some (moves_shared true q c own.0 below own.1 own.2 d h lt));
            stored = λ d stores lt. shown i both.1 ∙ stores;
            sort = a_total (λ d needs. needed d own.0 own.2 needs) (λ d h lt. ap (is_cell_of tree (own_loop tree plan v.place).sums) (sym (moves_shared true q c own.0 below own.1 own.2 d h lt)) ∙ cell);
          };
        }
      where
        needed : (d n : ℕ) → own_cell (own_of tree plan v.place) q (first_cell tree u) ≡ cell_count tree + (32 * q + n) → Needs (moves_to true q (own_cell (own_of tree plan v.place) q (first_cell tree u)) (first_cell tree u)) d → cell_count tree ≤ d
        needed d n own_is (inl h) = let is = Contains-one (own_cell (own_of tree plan v.place) q (first_cell tree u)) d h in omega (arith, is, own_is)
        needed d n own_is (inr h) = absurd (true≢false h.1)

    zero_stands : Stands tree plan e v (sets_to_zero q (own_cell (own_of tree plan v.place) q (first_cell tree u)))
    zero_stands =
        let c = first_cell tree u in
        let s = stored_there in
        let i = s.1 in
        let both = and_parts (phase_owner tree plan v i.loops == q) (stores_to (store_of tree i) c) s.3 in
        let own = own_one_is tree plan v o q c (inr (cell_there tree (own_loop tree plan v.place).sums u among)) in
        record {
          index = s.0;
          instance = i;
          at = s.2;
          owner = sym (eqb-true (phase_owner tree plan v i.loops) q both.0);
          printed = λ none. absurd (stores_some (own_cell (own_of tree plan v.place) q c) none);
          shows = λ ranges. record {
            own = λ d h le. (own.0, own.1, sym (stored_one d h) ∙ own.2);
            seen = λ d h lt. absurd (omega (arith, stored_one d h, own.2, lt));
            stored = λ d stores lt. absurd (omega (arith, some_is _ d stores, own.2, lt));
            sort = a_total (λ d needs. needed d own.0 own.2 needs) (λ d h lt. absurd (omega (arith, stored_one d h, own.2, lt)));
          };
        }
      where
        stored_one : (d : ℕ) → Has (sets_to_zero q (own_cell (own_of tree plan v.place) q (first_cell tree u))) d → own_cell (own_of tree plan v.place) q (first_cell tree u) ≡ d
        stored_one d (inl (n, lt, is)) = absurd (omega (arith, lt))
        stored_one d (inr stores) = some_is (own_cell (own_of tree plan v.place) q (first_cell tree u)) d stores

        needed : (d n : ℕ) → own_cell (own_of tree plan v.place) q (first_cell tree u) ≡ cell_count tree + (32 * q + n) → Needs (sets_to_zero q (own_cell (own_of tree plan v.place) q (first_cell tree u))) d → cell_count tree ≤ d
        needed d n own_is (inl (m, lt, is)) = absurd (omega (arith, lt))
        needed d n own_is (inr h) = let is = some_is (own_cell (own_of tree plan v.place) q (first_cell tree u)) d h.0 in omega (arith, is, own_is)

  nothing : (j : Job) → Contains {X = Job} [] j → ⊥
  nothing j (n, lt, is) = omega (arith, lt)

  in_keeping : IsFit tree plan → AreStoredFirst tree plan → (u : ℕ) (j : Job) → Contains (own_loop tree plan v.place).privates u → Contains (keeping_of tree plan v u) j → Stands tree plan e v j
  in_keeping fits stored u j among there = by (last_owner tree plan v) refl there
    where
      by : (w : Option ℕ) → last_owner tree plan v ≡ w → Contains (keeping (own_of tree plan v.place) (first_cell tree u) w) j → Stands tree plan e v j
      by None is h = absurd (nothing j h)
      by (Some q) is h = subst (Stands tree plan e v) (Contains-one (moves_to false q (own_cell (own_of tree plan v.place) q (first_cell tree u)) (first_cell tree u)) j h) (keeping_stands fits stored u q among is)

  pub in_total : (u q : ℕ) (j : Job) → Contains (own_loop tree plan v.place).sums u → Contains (total_of tree plan v u q) j → Stands tree plan e v j
  in_total u q j among there = by (has_stored tree plan v (first_cell tree u) q) refl there
    where
      by : (b : Bool) → has_stored tree plan v (first_cell tree u) q ≡ b → Contains (totalling (own_of tree plan v.place) (first_cell tree u) q b) j → Stands tree plan e v j
      by false is h = absurd (nothing j h)
      by true is (zero, lt, same) = subst (Stands tree plan e v) same (total_stands u q among is)
      by true is (suc n, lt, same) = subst (Stands tree plan e v) (Contains-one (sets_to_zero q (own_cell (own_of tree plan v.place) q (first_cell tree u))) j (n, omega (arith, lt), same)) (zero_stands u q among is)

  closing_stands : IsFit tree plan → AreStoredFirst tree plan → (j : Job) → Contains (closings_of tree plan v) j → Stands tree plan e v j
  closing_stands fits stored j among = elim (Contains-append_cases (flat_map (keeping_of tree plan v) (own_loop tree plan v.place).privates) (flat_map (totalling_of tree plan v) (own_loop tree plan v.place).sums) j among) [
    | inl kept ↦ let f = Contains-flat_map_cases (keeping_of tree plan v) (own_loop tree plan v.place).privates j kept in in_keeping fits stored f.0 j f.1 f.2
    | inr summed ↦
        let f = Contains-flat_map_cases (totalling_of tree plan v) (own_loop tree plan v.place).sums j summed in
        let g = Contains-flat_map_cases (total_of tree plan v f.0) (range_with_len 0 plan.workers) j f.2 in
        in_total f.0 g.0 j f.1 g.2
  ]

-- ---- each job of a phase

-- a job's owner is a processor, and processor 0 where it prints; what isn't shared is one of its owner's cells
pub record IsOwned (tree : Tree) (plan : Plan) (j : Job) : Type 0 where
  pub worker : j.owner < plan.workers
  pub printed : j.store ≡ None → j.owner ≡ 0
  pub own : IsInRange tree → (c : ℕ) → Has j c → cell_count tree ≤ c → (n : ℕ) × (n < 32) × (c ≡ cell_count tree + (32 * j.owner + n))

module _ (tree : Tree) (plan : Plan) (k : ℕ) (v : Visit) (formed : IsWellFormed tree) (fits : IsFit tree plan) (at : slice_get (phases tree plan.cut.marks) k ≡ Some v) where
  instance_stands : (n : ℕ) (i : Instance) → slice_get (visit_instances (param_values tree) v) n ≡ Some i → Stands tree plan (1 + k) v (job_under tree plan (record { phase = 1 + k; place = v.place; instance = i }))
  instance_stands n i there = record {
    index = n;
    instance = i;
    at = there;
    owner = refl;
    printed = none_stored (own_cell (own_of tree plan v.place) (phase_owner tree plan v i.loops)) (store_of tree i);
    shows = λ ranges.
        let o = own_in_phase tree plan k v formed fits at in
        let vs = phases tree plan.cut.marks in
        let good = all_at (IsGoodWork tree) (visit_instances (param_values tree) v) n i (good_of tree (param_values tree) v.what o.around o.number v.first v.loops o.good) there in
        let inside = execution_inside tree plan.cut.marks (execution_place (param_values tree) vs k + n) (record { phase = 1 + k; place = v.place; instance = i }) ranges (execution_there (param_values tree) 1 vs k n v i at there) in
        instance_shows tree plan (1 + k) v o i (cells_there tree i formed good inside);
  }

  -- what holds of each instance's job and of each closing holds of each job of the phase
  each_job : (P : Job → Type 0) → ((n : ℕ) (i : Instance) → slice_get (visit_instances (param_values tree) v) n ≡ Some i → P (job_under tree plan (record { phase = 1 + k; place = v.place; instance = i }))) → ((j : Job) → Contains (closings_of tree plan v) j → P j) →
      (n : ℕ) (j : Job) → slice_get (instance_jobs tree plan (1 + k) v ++ closings_of tree plan v) n ≡ Some j → P j
  each_job P instances closed n j is = elim (cases_lt n (length jobs)) [
    | inl inside ↦ by_instance (slice_get (visit_instances (param_values tree) v) n) refl (sym (slice_get-map f (visit_instances (param_values tree) v) n) ∙ sym (get-front jobs closings n inside) ∙ is)
    | inr past ↦
        let more : length jobs + (n - length jobs) ≡ n = omega (arith, past) in
        closed j (contains_at closings (n - length jobs) j (sym (ap (slice_get (jobs ++ closings)) (sym more) ∙ get-behind jobs closings (n - length jobs)) ∙ is))
  ]
    where
      f : Instance → Job
      f i = job_under tree plan (record { phase = 1 + k; place = v.place; instance = i })

      jobs : List Job
      jobs = instance_jobs tree plan (1 + k) v

      closings : List Job
      closings = closings_of tree plan v

      by_instance : (w : Option Instance) → slice_get (visit_instances (param_values tree) v) n ≡ w → option_map f w ≡ Some j → P j
      by_instance None there same = let clash : None ≡ Some j = same in absurd (cc)
      by_instance (Some i) there same = let equal : Some (f i) ≡ Some j = same in let is_j : f i ≡ j = cc in subst P is_j (instances n i there)

  pub job_stands : AreStoredFirst tree plan → (n : ℕ) (j : Job) → slice_get (instance_jobs tree plan (1 + k) v ++ closings_of tree plan v) n ≡ Some j → Stands tree plan (1 + k) v j
  job_stands stored = each_job (Stands tree plan (1 + k) v) instance_stands (closing_stands tree plan (1 + k) k v formed at (own_in_phase tree plan k v formed fits at) fits stored)

  -- ---- what holds though a loop on the path of a private scalar make no trip

  owned_by : (j : Job) → Stands tree plan (1 + k) v j → IsOwned tree plan j
  owned_by j s = record {
    worker = let below = all_at (λ (y : Execution). owner_under tree plan y < plan.workers) (executions tree plan.cut.marks) number x (owners_below tree plan formed fits) execution in omega (arith, s.owner, below);
    printed = λ none. s.owner ∙ by s.instance.what refl (s.printed none);
    own = λ ranges. (s.shows ranges).own;
  }
    where
      x : Execution
      x = in_phase (1 + k) v s.instance

      number : ℕ
      number = execution_place (param_values tree) (phases tree plan.cut.marks) k + s.index

      execution : slice_get (executions tree plan.cut.marks) number ≡ Some x
      execution = execution_there (param_values tree) 1 (phases tree plan.cut.marks) k s.index v s.instance at s.at

      by : (w : Work) → s.instance.what ≡ w → work_store tree s.instance.loops w ≡ None → owner_under tree plan x ≡ 0
      by (assign a) is store = let clash : Some (access_cell tree s.instance.loops a.target) ≡ None = store in absurd (cc)
      by (print p) is store = all_at (λ (y : Execution). (p : Printing) → y.instance.what ≡ print p → owner_under tree plan y ≡ 0) (executions tree plan.cut.marks) number x (printers tree plan formed fits) execution p is

  last_worker : (q : ℕ) → last_owner tree plan v ≡ Some q → q < plan.workers
  last_worker q last = by v.what refl
    where
      by : (s : Statement) → v.what ≡ s → q < plan.workers
      by (work w) what = let clash : None ≡ Some q = sym (no_loop tree plan v (work w) what refl) ∙ last in absurd (cc)
      by (continue line) what = let clash : None ≡ Some q = sym (no_loop tree plan v (continue line) what refl) ∙ last in absurd (cc)
      by (do_loop head body) what =
          let l = last_of tree plan v head body what q last in
          let below = trip_owner tree plan k v head body l.value formed fits at what (last_among (head_trips (param_values tree) head v.loops) l.value l.last) in
          omega (arith, l.owner, below)

  keeping_owned : (u : ℕ) (j : Job) → Contains (own_loop tree plan v.place).privates u → Contains (keeping_of tree plan v u) j → IsOwned tree plan j
  keeping_owned u j among there = by (last_owner tree plan v) refl there
    where
      by : (w : Option ℕ) → last_owner tree plan v ≡ w → Contains (keeping (own_of tree plan v.place) (first_cell tree u) w) j → IsOwned tree plan j
      by None is (n, lt, e) = absurd (omega (arith, lt))
      by (Some q) is h =
          let o = own_in_phase tree plan k v formed fits at in
          let c = first_cell tree u in
          let own = own_one_is tree plan v o q c (inl (cell_there tree (own_loop tree plan v.place).privates u among)) in
          subst (IsOwned tree plan) (Contains-one (moves_to false q (own_cell (own_of tree plan v.place) q c) c) j h) (record {
            worker = last_worker q is;
            printed = λ none. absurd (stores_some c none);
            own = λ ranges. moves_own tree plan (1 + k) k v formed at o false q c own.0 (scalar_below tree u (private_is tree plan v o u among).1) own.1 own.2;
          })

  closing_owned : (j : Job) → Contains (closings_of tree plan v) j → IsOwned tree plan j
  closing_owned j among = elim (Contains-append_cases (flat_map (keeping_of tree plan v) (own_loop tree plan v.place).privates) (flat_map (totalling_of tree plan v) (own_loop tree plan v.place).sums) j among) [
    | inl kept ↦ let f = Contains-flat_map_cases (keeping_of tree plan v) (own_loop tree plan v.place).privates j kept in keeping_owned f.0 j f.1 f.2
    | inr summed ↦
        let f = Contains-flat_map_cases (totalling_of tree plan v) (own_loop tree plan v.place).sums j summed in
        let g = Contains-flat_map_cases (total_of tree plan v f.0) (range_with_len 0 plan.workers) j f.2 in
        owned_by j (in_total tree plan (1 + k) k v formed at (own_in_phase tree plan k v formed fits at) f.0 g.0 j f.1 g.2)
  ]

  pub job_owned : (n : ℕ) (j : Job) → slice_get (instance_jobs tree plan (1 + k) v ++ closings_of tree plan v) n ≡ Some j → IsOwned tree plan j
  job_owned = each_job (IsOwned tree plan) (λ n i there. owned_by (job_under tree plan (in_phase (1 + k) v i)) (instance_stands n i there)) closing_owned
