-- An instance of a phase with own scalars, as a job: it loads what it may, and stores one cell or adds to a sum scalar.
use Rattle.std.proofs.Common.{◌≡◌, ℕ, zero, suc, ◌+◌, ◌-◌, ◌<◌, ◌≤◌, ◌⊎◌, ℤ, pos, Bool, true, false, true≢false, ◌&&◌, ◌||◌, ◌==◌, not, nat_lt, List, [], ◌∷◌, ◌++◌, length, map, Option, Some, None, refl, ap, sym, subst, ◌∙◌, inl, inr, arith, slice_index_or, leb-true}
use Rattle.std.specs.Prelude.{Contains}
use Rattle.std.specs.List.{AllByRecursion, flat_map, list_all, list_any, range_with_len}
use Rattle.std.specs.Option.{option_to_list}
use Rattle.std.proofs.lemmas.Bool.{and_from, and_parts, cases_Bool, eq-eqb, eqb-true, ltb-true}
use Rattle.std.proofs.lemmas.List.{length-map, map-append}
use Rattle.std.proofs.lemmas.List.Elements.{All-contains, Contains-append_left, Contains-append_right, Contains-append_cases}
use Rattle.std.proofs.lemmas.List.Folds.{list_all-append, list_any-append}
use Rattle.nest_tree.specs.declared.tree.Access.{Access}
use Rattle.nest_tree.specs.Form.{form_value}
use Rattle.nest_tree.specs.Layout.{bounds_of, cell_count, element_count, element_place, first_cell, bounds_at}
use Rattle.nest_tree.specs.Loads.{loads_in, loads_in_item, loads_in_work}
use Rattle.nest_tree.specs.Tree.{Printed, value, whole, text, Work, assign, print, Tree, param_values, Declaration, Assignment}
use Rattle.nest_tree.specs.WellFormed.{IsWellFormed, is_good_access, is_good_expression, is_good_guard, is_good_item, is_good_work, is_number_of, rank, rank_of, scope_of}
use Rattle.nest_model.specs.Accesses.{access_cell, cells_of, item_loads, loads_of, store_of, subscript_values, work_loads, work_store}
use Rattle.nest_model.specs.Instances.{Instance}
use Rattle.nest_model.specs.Memory.{assigned_value, assigned}
use Rattle.nest_model.specs.Ranges.{accesses_of, is_access_inside, is_instance_inside}
use Rattle.nest_model.specs.Visits.{Visit}
use Rattle.nest_walk.proofs.CellPlaces.{bounds-good, place_below}
use Rattle.nest_walk.proofs.GoodAccesses.{good_access-there}
use Rattle.own_scalars.specs.OwnScalars.{adds_once, adds_to, has_access, is_addition, is_of, is_other, is_sum_or_difference, stores}
use Rattle.owner_partition.specs.Phases.{Execution}
use Rattle.sync_plan.specs.declared.plan.Plan.{Plan}
use Rattle.sync_plan.specs.Own.{is_cell_of, own_loop, own_of}
use Rattle.spmd_model.specs.Cells.{plus}
use Rattle.spmd_model.specs.Closings.{phase_owner}
use Rattle.spmd_model.specs.OwnPhases.{IsGoodLoad, IsSumJob}
use Rattle.spmd_model.specs.Planned.{job_of}
use Rattle.spmd_model.proofs.CellsThere.{IsGoodWork, cells_there, loads_good}
use Rattle.spmd_model.proofs.OwnRuns.{IsGoodJob, no_store, to_shared, to_private, to_sum}
use Rattle.spmd_model.proofs.OwnTexts.{AreOwnIn, IsScalar, Slots, private_slot, sum_slot, cell_there, not_both, passes_in, same_scalar, slots, some_scalar, sum_is}
use Rattle.spmd_model.proofs.Stands.{in_map, slot_there}
use Rattle.spmd_model.proofs.SumForms.{AddsOnce, adds_its_terms, once}

-- ---- an access of a scalar's cell is of that scalar

pub any_in : {X : Type 0} (test : X → Bool) (xs : List X) (x : X) → Contains xs x → test x ≡ true → list_any test xs ≡ true
any_in test [] x (k, lt, e) is = absurd (omega (arith, lt))
any_in test (y ∷ xs) x (zero, lt, e) is = ap (λ b. b || list_any test xs) (ap test e ∙ is)
any_in test (y ∷ xs) x (suc k, lt, e) is = elim (cases_Bool (test y)) [
  | inl here ↦ ap (λ b. b || list_any test xs) here
  | inr not_here ↦ ap (λ b. b || list_any test xs) not_here ∙ any_in test xs x (k, omega (arith, lt), e) is
]

pub all_by : {X : Type 0} (P : X → Type 0) (xs : List X) → ((x : X) → Contains xs x → P x) → AllByRecursion P xs
all_by P [] h = tt
all_by P (x ∷ xs) h = (h x (0, omega arith, refl), all_by P xs (λ y among. h y (suc among.0, omega (arith, among.1), among.2)))

module _ (tree : Tree) (formed : IsWellFormed tree) (around : List ℕ) (loops : List ℤ) (u : ℕ) (scalar : IsScalar tree u) where
  access_is : (a : Access) → is_good_access (scope_of tree) around a ≡ true → is_access_inside tree loops a ≡ true → access_cell tree loops a ≡ first_cell tree u → is_of u a ≡ true
  access_is a good inside same =
      let there = good_access-there tree around a good in
      let values = subscript_values tree loops a.subscripts in
      let below = place_below (bounds_of tree a.variable) values (bounds-good tree a.variable formed) inside (length-map a.subscripts (λ f. form_value f loops (param_values tree)) ∙ there.as_many) in
      let variable = same_scalar tree a.variable u (element_place (bounds_of tree a.variable) values) there.low there.high below scalar same in
      let bare : bounds_of tree a.variable ≡ [] = ap (bounds_of tree) variable ∙ scalar.bare in
      and_from (a.variable == u) (length a.subscripts == 0) (eq-eqb a.variable u variable) (eq-eqb (length a.subscripts) 0 (there.as_many ∙ ap length bare))

  among_accesses : (xs : List Access) (c : ℕ) → list_all (is_good_access (scope_of tree) around) xs ≡ true → list_all (is_access_inside tree loops) xs ≡ true → Contains (map (access_cell tree loops) xs) c → c ≡ first_cell tree u → list_any (is_of u) xs ≡ true
  among_accesses xs c good inside among same =
      let m = in_map (access_cell tree loops) xs c among in
      any_in (is_of u) xs m.0 m.1 (access_is m.0 (passes_in (is_good_access (scope_of tree) around) xs m.0 good m.1) (passes_in (is_access_inside tree loops) xs m.0 inside m.1) (sym m.2 ∙ same))

  in_range : (a n c : ℕ) → Contains (range_with_len a n) c → (a ≤ c) × (c < a + n)
  in_range a zero c (k, lt, e) = absurd (omega (arith, lt))
  in_range a (suc n) c (zero, lt, e) = (omega (arith, e), omega (arith, e))
  in_range a (suc n) c (suc k, lt, e) = let r = in_range (a + 1) n c (k, omega (arith, lt), e) in (omega (arith, r.0), omega (arith, r.1))

  item_is : (p : Printed) → is_good_item (scope_of tree) around p ≡ true → list_all (is_access_inside tree loops) (loads_in_item p) ≡ true → Contains (item_loads tree loops p) (first_cell tree u) → list_any (is_of u) (loads_in_item p) ≡ true
  item_is (value e) good inside among = among_accesses (loads_in e) (first_cell tree u) (loads_good tree formed around loops e good) inside among refl
  item_is (whole variable) good inside among =
      let number = and_parts (is_number_of (length (scope_of tree).ranks) variable) (nat_lt 0 (rank_of (scope_of tree) variable)) good in
      let r = in_range (first_cell tree variable) (element_count (bounds_of tree variable)) (first_cell tree u) among in
      let place = first_cell tree u - first_cell tree variable in
      let ends = and_parts _ _ number.0 in
      let low = leb-true 1 variable ends.0 in
      let high = leb-true variable (length (scope_of tree).ranks) ends.1 in
      let same = same_scalar tree variable u place low (omega (arith, high, length-map tree.variables rank)) (omega (arith, r.0, r.1)) scalar (omega (arith, r.0)) in
      let bare : bounds_of tree variable ≡ [] = ap (bounds_of tree) same ∙ scalar.bare in
      absurd (omega (arith, ltb-true 0 (rank_of (scope_of tree) variable) number.1, ranks_are tree.variables (variable - 1), ap length bare))
    where
      ranks_are : (vs : List Declaration) (n : ℕ) → slice_index_or (map rank vs) n 0 ≡ length (bounds_at vs n)
      ranks_are [] n = refl
      ranks_are (v ∷ vs) zero = refl
      ranks_are (v ∷ vs) (suc n) = ranks_are vs n
  item_is (text characters) good inside (k, lt, e) = absurd (omega (arith, lt))

  items_are : (ps : List Printed) → list_all (is_good_item (scope_of tree) around) ps ≡ true → list_all (is_access_inside tree loops) (flat_map loads_in_item ps) ≡ true → Contains (flat_map (item_loads tree loops) ps) (first_cell tree u) → list_any (is_of u) (flat_map loads_in_item ps) ≡ true
  items_are [] good inside (k, lt, e) = absurd (omega (arith, lt))
  items_are (p ∷ ps) good inside among =
      let g = and_parts (is_good_item (scope_of tree) around p) (list_all (is_good_item (scope_of tree) around) ps) good in
      let i = and_parts (list_all (is_access_inside tree loops) (loads_in_item p)) (list_all (is_access_inside tree loops) (flat_map loads_in_item ps)) (sym (list_all-append (is_access_inside tree loops) (loads_in_item p) (flat_map loads_in_item ps)) ∙ inside) in
      list_any-append (is_of u) (loads_in_item p) (flat_map loads_in_item ps) ∙ (elim (Contains-append_cases (item_loads tree loops p) (flat_map (item_loads tree loops) ps) (first_cell tree u) among) [
        | inl here ↦ ap (λ b. b || list_any (is_of u) (flat_map loads_in_item ps)) (item_is p g.0 i.0 here)
        | inr later ↦ or_true (list_any (is_of u) (loads_in_item p)) (items_are ps g.1 i.1 later)
      ])
    where
      or_true : {y : Bool} (x : Bool) → y ≡ true → (x || y) ≡ true
      or_true true e = refl
      or_true false e = e

  pub load_is : (w : Work) → is_good_work (scope_of tree) around w ≡ true → list_all (is_access_inside tree loops) (accesses_of w) ≡ true → Contains (work_loads tree loops w) (first_cell tree u) → list_any (is_of u) (loads_in_work w) ≡ true
  load_is (assign a) good inside among =
      let g = and_parts (is_good_access (scope_of tree) around a.target && is_good_expression (scope_of tree) around a.value) (is_good_guard (scope_of tree) around a.guard) good in
      let value_good = (and_parts (is_good_access (scope_of tree) around a.target) (is_good_expression (scope_of tree) around a.value) g.0).1 in
      let i = and_parts (list_all (is_access_inside tree loops) (loads_in a.value)) (is_access_inside tree loops a.target && true) (sym (list_all-append (is_access_inside tree loops) (loads_in a.value) (a.target ∷ [])) ∙ inside) in
      among_accesses (loads_in a.value) (first_cell tree u) (loads_good tree formed around loops a.value value_good) i.0 among refl
  load_is (print p) good inside among = items_are p.items good inside among

  pub store_is : (w : Work) → is_good_work (scope_of tree) around w ≡ true → list_all (is_access_inside tree loops) (accesses_of w) ≡ true → work_store tree loops w ≡ Some (first_cell tree u) → stores u w ≡ true
  store_is (assign a) good inside at =
      let g = and_parts (is_good_access (scope_of tree) around a.target && is_good_expression (scope_of tree) around a.value) (is_good_guard (scope_of tree) around a.guard) good in
      let target_good = (and_parts (is_good_access (scope_of tree) around a.target) (is_good_expression (scope_of tree) around a.value) g.0).0 in
      let i = and_parts (list_all (is_access_inside tree loops) (loads_in a.value)) (is_access_inside tree loops a.target && true) (sym (list_all-append (is_access_inside tree loops) (loads_in a.value) (a.target ∷ [])) ∙ inside) in
      let same : access_cell tree loops a.target ≡ first_cell tree u = cc in
      access_is a.target target_good (and_parts (is_access_inside tree loops a.target) true i.1).0 same
  store_is (print p) good inside at = let clash : None ≡ Some (first_cell tree u) = at in absurd (cc)

-- the cell of an access of a scalar
pub scalar_cell : (tree : Tree) (loops : List ℤ) (u : ℕ) (a : Access) → IsScalar tree u → is_of u a ≡ true → access_cell tree loops a ≡ first_cell tree u
scalar_cell tree loops u a scalar is =
    let both = and_parts (a.variable == u) (length a.subscripts == 0) is in
    let same = eqb-true a.variable u both.0 in
    let place : element_place (bounds_of tree a.variable) (subscript_values tree loops a.subscripts) ≡ 0 = ap (λ n. element_place (bounds_of tree n) (subscript_values tree loops a.subscripts)) same ∙ ap (λ b. element_place b (subscript_values tree loops a.subscripts)) scalar.bare in
    let first_is = ap (first_cell tree) same in
    omega (arith, place, first_is)

-- the others of a list with one more
contains_more : {X : Type 0} (xs ys : List X) (x y : X) → Contains (xs ++ ys) y → Contains (xs ++ x ∷ ys) y
contains_more xs ys x y among = elim (Contains-append_cases xs ys y among) [
  | inl here ↦ Contains-append_left xs (x ∷ ys) y here
  | inr later ↦ Contains-append_right xs (x ∷ ys) y (suc later.0, omega (arith, later.1), later.2)
]

all_but : {X : Type 0} (p : X → Bool) (xs : List X) (x : X) (ys : List X) → list_all p (xs ++ x ∷ ys) ≡ true → list_all p (xs ++ ys) ≡ true
all_but p xs x ys all =
    let parts = and_parts (list_all p xs) (p x && list_all p ys) (sym (list_all-append p xs (x ∷ ys)) ∙ all) in
    list_all-append p xs ys ∙ and_from (list_all p xs) (list_all p ys) parts.0 (and_parts (p x) (list_all p ys) parts.1).1

-- ---- the job of an instance

module _ (tree : Tree) (plan : Plan) (e : ℕ) (v : Visit) (formed : IsWellFormed tree) (o : AreOwnIn tree plan v) (i : Instance) (good : IsGoodWork tree i) (inside : is_instance_inside tree i ≡ true) where
  abbrev pub here : Execution
  here = record { phase = e; place = v.place; instance = i }

  -- what is known of it where a private scalar that it loads was stored last by its owner, and each access of a sum scalar is in an addition
  module _ (last : ℕ → Option ℕ)
      (kept : (u : ℕ) → Contains (own_loop tree plan v.place).privates u → Contains (loads_of tree i) (first_cell tree u) → last (first_cell tree u) ≡ Some (phase_owner tree plan v i.loops))
      (summed : (u : ℕ) → Contains (own_loop tree plan v.place).sums u → is_other u i.what ≡ false) where
    loads_u : (u c : ℕ) → IsScalar tree u → first_cell tree u ≡ c → Contains (loads_of tree i) c → has_access u i.what ≡ true
    loads_u u c scalar same among = ap (λ b. b || stores u i.what) (load_is tree formed good.around i.loops u scalar i.what good.good inside (subst (Contains (loads_of tree i)) (sym same) among))

    stores_u : (u c : ℕ) → IsScalar tree u → first_cell tree u ≡ c → store_of tree i ≡ Some c → has_access u i.what ≡ true
    stores_u u c scalar same stored = or_true (list_any (is_of u) (loads_in_work i.what)) (store_is tree formed good.around i.loops u scalar i.what good.good inside (stored ∙ ap Some (sym same)))
      where
        or_true : {y : Bool} (x : Bool) → y ≡ true → (x || y) ≡ true
        or_true true e = refl
        or_true false e = e

    there : (c : ℕ) → Contains (cells_of tree i) c → c < cell_count tree
    there c among = All-contains (λ d. d < cell_count tree) (cells_of tree i) c (cells_there tree i formed good inside) among

    load_there : (c : ℕ) → Contains (loads_of tree i) c → c < cell_count tree
    load_there c among = there c (Contains-append_left (loads_of tree i) (option_to_list (store_of tree i)) c among)

    store_there : (c : ℕ) → store_of tree i ≡ Some c → c < cell_count tree
    store_there c stored = there c (Contains-append_right (loads_of tree i) (option_to_list (store_of tree i)) c (subst (λ s. Contains (option_to_list s) c) (sym stored) (0, omega arith, refl)))

    not_sum : (c : ℕ) → is_cell_of tree (own_loop tree plan v.place).privates c ≡ true → is_cell_of tree (own_loop tree plan v.place).sums c ≡ false
    not_sum c private = elim (cases_Bool (is_cell_of tree (own_loop tree plan v.place).sums c)) [
      | inl is ↦ absurd (not_both tree plan v o c private is)
      | inr failed ↦ failed
    ]

    -- a load of no sum scalar
    good_load : (c : ℕ) → Contains (loads_of tree i) c → (is_cell_of tree (own_loop tree plan v.place).sums c ≡ true → ⊥) → IsGoodLoad (own_of tree plan v.place) last (phase_owner tree plan v i.loops) c
    good_load c among none = (load_there c among, by ((own_of tree plan v.place).slot c) refl)
      where
        by : (s : Option ℕ) → (own_of tree plan v.place).slot c ≡ s → ((own_of tree plan v.place).slot c ≡ None) ⊎ ((is_cell_of tree (own_loop tree plan v.place).sums c ≡ false) × (last c ≡ Some (phase_owner tree plan v i.loops)))
        by None at = inl at
        by (Some k) at = slot_is (slots tree plan v o c k at)
          where
            slot_is : Slots tree plan v o c k → ((own_of tree plan v.place).slot c ≡ None) ⊎ ((is_cell_of tree (own_loop tree plan v.place).sums c ≡ false) × (last c ≡ Some (phase_owner tree plan v i.loops)))
            slot_is (private_slot lt is at') =
                let u = some_scalar tree (own_loop tree plan v.place).privates c is in
                inr (not_sum c is, ap last (sym u.2) ∙ kept u.0 u.1 (subst (Contains (loads_of tree i)) (sym u.2) among))
            slot_is (sum_slot n same lt is at') = absurd (none is)

    -- where it has no sum scalar
    plain_job : ((u : ℕ) → Contains (own_loop tree plan v.place).sums u → has_access u i.what ≡ true → ⊥) → IsGoodJob (own_of tree plan v.place) last (job_of tree plan (record { phase = e; place = v.place; instance = i }))
    plain_job none = by_store (store_of tree i) refl
      where
        no_sum_load : (c : ℕ) → Contains (loads_of tree i) c → is_cell_of tree (own_loop tree plan v.place).sums c ≡ true → ⊥
        no_sum_load c among is = let u = some_scalar tree (own_loop tree plan v.place).sums c is in none u.0 u.1 (loads_u u.0 c (sum_is tree plan v o u.0 u.1).1 u.2 among)

        all_loads : AllByRecursion (IsGoodLoad (own_of tree plan v.place) last (phase_owner tree plan v i.loops)) (loads_of tree i)
        all_loads = all_by (IsGoodLoad (own_of tree plan v.place) last (phase_owner tree plan v i.loops)) (loads_of tree i) (λ c among. good_load c among (no_sum_load c among))

        by_store : (s : Option ℕ) → store_of tree i ≡ s → IsGoodJob (own_of tree plan v.place) last (job_of tree plan (record { phase = e; place = v.place; instance = i }))
        by_store None at = no_store all_loads at
        by_store (Some c) at = by_slot ((own_of tree plan v.place).slot c) refl
          where
            by_slot : (s : Option ℕ) → (own_of tree plan v.place).slot c ≡ s → IsGoodJob (own_of tree plan v.place) last (job_of tree plan (record { phase = e; place = v.place; instance = i }))
            by_slot None failed = to_shared all_loads c at (store_there c at) failed
            by_slot (Some k) is = sort (slots tree plan v o c k is)
              where
                sort : Slots tree plan v o c k → IsGoodJob (own_of tree plan v.place) last (job_of tree plan (record { phase = e; place = v.place; instance = i }))
                sort (private_slot lt private at') = to_private all_loads c k at (store_there c at) is (not_sum c private)
                sort (sum_slot n same lt summed_cell at') =
                    let u = some_scalar tree (own_loop tree plan v.place).sums c summed_cell in
                    absurd (none u.0 u.1 (stores_u u.0 c (sum_is tree plan v o u.0 u.1).1 u.2 at))

    -- an access of a sum scalar is in an addition to it
    is_added : (u : ℕ) → Contains (own_loop tree plan v.place).sums u → has_access u i.what ≡ true → is_addition u i.what ≡ true
    is_added u among has = by (is_addition u i.what) refl
      where
        by : (b : Bool) → is_addition u i.what ≡ b → is_addition u i.what ≡ true
        by true e = e
        by false e = absurd (true≢false (sym (and_from (has_access u i.what) (not (is_addition u i.what)) has (ap not e)) ∙ summed u among))

    -- an addition to one
    sum_job : (u : ℕ) → Contains (own_loop tree plan v.place).sums u → has_access u i.what ≡ true → IsGoodJob (own_of tree plan v.place) last (job_of tree plan (record { phase = e; place = v.place; instance = i }))
    sum_job u among has = by i.what refl (is_added u among has)
      where
        by : (w : Work) → i.what ≡ w → is_addition u w ≡ true → IsGoodJob (own_of tree plan v.place) last (job_of tree plan (record { phase = e; place = v.place; instance = i }))
        by (print p) what adds = absurd (true≢false (sym adds))
        by (assign a) what adds =
            let both = and_parts (is_of u a.target) (adds_to u a.value) adds in
            let scalar = (sum_is tree plan v o u among).1 in
            let form = and_parts (is_sum_or_difference a.value) (adds_once u a.value) both.1 in
            let f = once u a.value form.1 in
            let c = first_cell tree u in
            let cell = access_cell tree i.loops in
            let s = slot_there tree plan v o c (inr (cell_there tree (own_loop tree plan v.place).sums u among)) in
            let loads_are : loads_of tree i ≡ map (access_cell tree i.loops) f.front ++ first_cell tree u ∷ map (access_cell tree i.loops) f.rest =
            ap (work_loads tree i.loops) what ∙ ap (map cell) f.is ∙ map-append cell f.front (f.own ∷ f.rest) ∙ ap (λ d. map cell f.front ++ d ∷ map cell f.rest) (scalar_cell tree i.loops u f.own scalar f.of) in
            let job_is : IsSumJob (own_of tree plan v.place) (job_of tree plan (record { phase = e; place = v.place; instance = i })) (first_cell tree u) s.0 = record {
              slot = s.1;
              sum = cell_there tree (own_loop tree plan v.place).sums u among;
              store = ap (work_store tree i.loops) what ∙ ap Some (scalar_cell tree i.loops u a.target scalar both.0);
              front = map (access_cell tree i.loops) f.front;
              rest = map (access_cell tree i.loops) f.rest;
              loads = loads_are;
              amount = λ us vs. assigned_value tree i (us ++ pos 0 ∷ vs);
              adds = λ us x vs long. ap (λ w. assigned tree i.loops w (us ++ x ∷ vs)) what ∙ adds_its_terms u a.value f form.0 i.loops (param_values tree) us x vs (long ∙ length-map f.front cell) ∙ ap (plus x) (sym (ap (λ w. assigned tree i.loops w (us ++ pos 0 ∷ vs)) what));
            } in
            to_sum (first_cell tree u) s.0 job_is (all_by (IsGoodLoad (own_of tree plan v.place) last (phase_owner tree plan v i.loops)) (map cell f.front ++ map cell f.rest)
            (λ d in_others. other_load a what both.0 f d (subst (λ l. Contains l d) (sym (map-append cell f.front f.rest)) in_others) loads_are))
          where
            other_load : (a : Assignment) → i.what ≡ assign a → is_of u a.target ≡ true → (f : AddsOnce u a.value) → (d : ℕ) → Contains (map (access_cell tree i.loops) (f.front ++ f.rest)) d →
                loads_of tree i ≡ map (access_cell tree i.loops) f.front ++ first_cell tree u ∷ map (access_cell tree i.loops) f.rest → IsGoodLoad (own_of tree plan v.place) last (phase_owner tree plan v i.loops) d
            other_load a what target f d in_others loads_are =
                let cell = access_cell tree i.loops in
                let in_all : Contains (loads_of tree i) d = subst (λ l. Contains l d) (sym loads_are) (contains_more (map cell f.front) (map cell f.rest) (first_cell tree u) d (subst (λ l. Contains l d) (map-append cell f.front f.rest) in_others)) in
                good_load d in_all (λ is. other_sum (some_scalar tree (own_loop tree plan v.place).sums d is) in_all)
              where
                other_sum : (w : ℕ) × Contains (own_loop tree plan v.place).sums w × (first_cell tree w ≡ d) → Contains (loads_of tree i) d → ⊥
                other_sum (w, in_sums, cell) in_all =
                    let scalar_w = (sum_is tree plan v o w in_sums).1 in
                    let adds_w = ap (is_addition w) (sym what) ∙ is_added w in_sums (loads_u w d scalar_w cell in_all) in
                    let target_w = (and_parts (is_of w a.target) (adds_to w a.value) adds_w).0 in
                    let same : w ≡ u = sym (eqb-true a.target.variable w (and_parts (a.target.variable == w) (length a.target.subscripts == 0) target_w).0) ∙ eqb-true a.target.variable u (and_parts (a.target.variable == u) (length a.target.subscripts == 0) target).0 in
                    let g = and_parts (is_good_access (scope_of tree) good.around a.target && is_good_expression (scope_of tree) good.around a.value) (is_good_guard (scope_of tree) good.around a.guard) (ap (is_good_work (scope_of tree) good.around) (sym what) ∙ good.good) in
                    let value_good = (and_parts (is_good_access (scope_of tree) good.around a.target) (is_good_expression (scope_of tree) good.around a.value) g.0).1 in
                    let accesses_good = ap (list_all (is_good_access (scope_of tree) good.around)) (sym f.is) ∙ loads_good tree formed good.around i.loops a.value value_good in
                    let accesses_inside : list_all (is_access_inside tree i.loops) (accesses_of (assign a)) ≡ true = ap (λ w. list_all (is_access_inside tree i.loops) (accesses_of w)) (sym what) ∙ inside in
                    let loads_inside = (and_parts (list_all (is_access_inside tree i.loops) (loads_in a.value)) (is_access_inside tree i.loops a.target && true) (sym (list_all-append (is_access_inside tree i.loops) (loads_in a.value) (a.target ∷ [])) ∙ accesses_inside)).0 in
                    let all_inside = ap (list_all (is_access_inside tree i.loops)) (sym f.is) ∙ loads_inside in
                    let others_good = all_but (is_good_access (scope_of tree) good.around) f.front f.own f.rest accesses_good in
                    let others_inside = all_but (is_access_inside tree i.loops) f.front f.own f.rest all_inside in
                    let found = among_accesses tree formed good.around i.loops u (sum_is tree plan v o u among).1 (f.front ++ f.rest) d others_good others_inside in_others (sym cell ∙ ap (first_cell tree) same) in
                    true≢false (sym found ∙ f.others)

    pub good_job : IsGoodJob (own_of tree plan v.place) last (job_of tree plan (record { phase = e; place = v.place; instance = i }))
    good_job = elim (cases_Bool (list_any (λ u. has_access u i.what) (own_loop tree plan v.place).sums)) [
      | inl some ↦ let u = some_there (own_loop tree plan v.place).sums some in sum_job u.0 u.1 u.2
      | inr none ↦ plain_job (λ u among has. true≢false (sym (any_in (λ w. has_access w i.what) (own_loop tree plan v.place).sums u among has) ∙ none))
    ]
      where
        some_there : (us : List ℕ) → list_any (λ u. has_access u i.what) us ≡ true → (u : ℕ) × Contains us u × (has_access u i.what ≡ true)
        some_there [] e = absurd (true≢false (sym e))
        some_there (u ∷ us) e = elim (cases_Bool (has_access u i.what)) [
          | inl is ↦ (u, (0, omega arith, refl), is)
          | inr failed ↦ let r = some_there us (sym (ap (λ b. b || list_any (λ w. has_access w i.what) us) failed) ∙ e) in (r.0, (suc r.1.0, omega (arith, r.1.1), r.1.2), r.2)
        ]
