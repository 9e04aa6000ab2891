-- The owner of a loop's last trip has an instance of that trip, and nobody else has.
use Rattle.std.proofs.Common.{◌≡◌, ◌==◌, ◌&&◌, ◌||◌, ℕ, zero, suc, ◌+◌, ◌-◌, ◌<◌, ◌≤◌, nat_lt, ℤ, pos, ◌+ℤ◌, ◌*ℤ◌, Bool, true, false, true≢false, List, [], ◌∷◌, ◌++◌, get_or, length, map, unsigned_abs, Some, None, if◌then◌else◌, refl, ap, sym, subst, ◌∙◌, arith}
use Rattle.std.specs.Prelude.{Contains, slice_get}
use Rattle.std.specs.List.{All, flat_map, list_all, list_any, range_with_len}
use Rattle.std.proofs.lemmas.Bool.{and_parts, eqb-true, eq-eqb, ltb-true}
use Rattle.std.proofs.lemmas.List.{get_or-set_other, get_or-set_same}
use Rattle.std.proofs.lemmas.List.Elements.{All-append, All-cons, All-nil, All-weaker}
use Rattle.std.proofs.lemmas.List.Folds.{list_any-append}
use Rattle.list_lemmas.proofs.Ranges.{range_split}
use Rattle.nest_tree.specs.Form.{Form, dot, form_value, is_form, is_small, numbered, rises_above}
use Rattle.nest_tree.specs.Limits.{IsWithinLimits}
use Rattle.nest_tree.specs.Tree.{Head, Statement, Statements, do_loop, work, continue, done, next, Tree, param_values}
use Rattle.nest_tree.specs.Values.{wrapped}
use Rattle.nest_tree.specs.WellFormed.{IsWellFormed, is_good_statement, is_number_of, loops_in, names_only, scope_of}
use Rattle.nest_tree.proofs.Good.{good_loop}
use Rattle.nest_model.specs.Instances.{Instance, head_trips, instances_in, instances_of, no_values, trip_count, with_loop, works_in}
use Rattle.nest_model.specs.Visits.{Visit, stops_in, visits_in, visits_of}
use Rattle.nest_walk.specs.Walkable.{are_above, are_walkable, is_small_at, is_small_head, is_walkable}
use Rattle.nest_walk.proofs.Steps.{small_wrapped}
use Rattle.nest_walk.proofs.Walks.{walkable}
use Rattle.owner_partition.specs.Marks.{enters_outer}
use Rattle.owner_partition.specs.Owners.{anchor_owner, owner_by}
use Rattle.owner_partition.specs.Phases.{visit_instances, phases}
use Rattle.owner_partition.proofs.Sites.{All-flat_map, all_at, all_of}
use Rattle.sync_plan.specs.Conflicts.{last_value}
use Rattle.sync_plan.specs.Fit.{IsFit}
use Rattle.sync_plan.specs.Own.{OwnLoop, own_loop, own_loop_of}
use Rattle.sync_plan.specs.Shape.{static_phases}
use Rattle.sync_plan.specs.declared.plan.Plan.{Plan}
use Rattle.sync_plan.proofs.FitOwners.{agree_among, named_low}
use Rattle.sync_plan.proofs.PhasePlaces.{visit_there}
use Rattle.own_cells.specs.FinalTrips.{is_past}
use Rattle.spmd_model.specs.Closings.{last_owner, phase_owner}
use Rattle.spmd_model.specs.Deeds.{owned_by}
use Rattle.spmd_model.proofs.Deeds.{anchored}
use Rattle.spmd_model.proofs.LastOwners.{last_by, last_of, no_last}
use Rattle.spmd_model.proofs.LastStores.{last_there}
use Rattle.spmd_model.proofs.OwnTexts.{own_in_phase}
use Rattle.spmd_model.proofs.Stands.{any_there}
use Rattle.spmd_model.proofs.TripOwners.{one_owner}
use Rattle.turns.specs.Turns.{ends_phase}
use Rattle.turns.proofs.ClosingMarks.{or_none}
use Rattle.turns.proofs.LastTrips.{not_past, past_last}
use Rattle.turns.proofs.SumMarks.{any_filter, any_same}

-- ---- lists

any_flat : {X Y : Type 0} (f : Y → Bool) (g : X → List Y) (xs : List X) → list_any f (flat_map g xs) ≡ list_any (λ x. list_any f (g x)) xs
any_flat f g [] = refl
any_flat f g (x ∷ xs) = list_any-append f (g x) (flat_map g xs) ∙ ap (λ b. list_any f (g x) || b) (any_flat f g xs)

any_map : {X Y : Type 0} (f : Y → Bool) (g : X → Y) (xs : List X) → list_any f (map g xs) ≡ list_any (λ x. f (g x)) xs
any_map f g [] = refl
any_map f g (x ∷ xs) = ap (λ b. f (g x) || b) (any_map f g xs)

none_from : (f : ℕ → Bool) (a n : ℕ) → ((j : ℕ) → j < n → f (a + j) ≡ false) → list_any f (range_with_len a n) ≡ false
none_from f a zero none = refl
none_from f a (suc n) none =
    let here : f a ≡ false = ap f (omega arith) ∙ none 0 (omega arith) in
    ap (λ b. b || list_any f (range_with_len (a + 1) n)) here ∙ none_from f (a + 1) n (λ j lt. ap f (omega arith) ∙ none (suc j) (omega (arith, lt)))

both_all : {X : Type 0} (P Q : X → Type 0) (xs : List X) → All P xs → All Q xs → All (λ x. P x × Q x) xs
both_all P Q xs ps qs = λ k d lt. (ps k d lt, qs k d lt)

-- ---- a form of the loops round a place has one value wherever lower loops have theirs

dot_below : (pairs : List (ℕ × ℤ)) (least n : ℕ) (around : List ℕ) (xs ys : List ℤ) → rises_above least pairs ≡ true → All (λ k. k ≤ n) around → list_all (λ (p : ℕ × ℤ). list_any (λ l. l == p.0) around) pairs ≡ true →
    ((k : ℕ) → k < n → get_or xs k (pos 0) ≡ get_or ys k (pos 0)) → dot pairs xs ≡ dot pairs ys
dot_below [] least n around xs ys rises low named agree = refl
dot_below (p ∷ pairs) least n around xs ys rises low named agree =
    let parts = and_parts (list_any (λ l. l == p.0) around) (list_all (λ (q : ℕ × ℤ). list_any (λ l. l == q.0) around) pairs) named in
    let last = and_parts (nat_lt least p.0 && _ && is_small p.1) (rises_above p.0 pairs) rises in
    let first = and_parts (nat_lt least p.0 && _) (is_small p.1) last.0 in
    let lt = ltb-true least p.0 (and_parts (nat_lt least p.0) _ first.0).0 in
    let here = agree (p.0 - 1) (omega (arith, named_low n around p.0 low parts.0, lt)) in
    ap (λ z. p.1 *ℤ z +ℤ dot pairs xs) here ∙ ap (λ z. p.1 *ℤ numbered ys p.0 +ℤ z) (dot_below pairs p.0 n around xs ys last.1 low parts.1 agree)

form_below : (constants n : ℕ) (around : List ℕ) (f : Form) (params xs ys : List ℤ) → All (λ k. k ≤ n) around → names_only constants around f ≡ true → ((k : ℕ) → k < n → get_or xs k (pos 0) ≡ get_or ys k (pos 0)) → form_value f xs params ≡ form_value f ys params
form_below constants n around f params xs ys low named agree =
    let all = list_all (λ (p : ℕ × ℤ). list_any (λ l. l == p.0) around) f.loops in
    let last = and_parts (is_form f && all) (list_all (λ (p : ℕ × ℤ). is_number_of constants p.0) f.params) named in
    let first = and_parts (is_form f) all last.0 in
    let rises = (and_parts (is_small f.constant) (rises_above 0 f.loops) (and_parts (is_small f.constant && rises_above 0 f.loops) (rises_above 0 f.params) first.0).0).1 in
    ap (λ z. f.constant +ℤ z +ℤ dot f.params params) (dot_below f.loops 0 n around xs ys rises low first.1 agree)

-- ---- bounds at a phase are small

pub record CanWalk (params : List ℤ) (v : Visit) : Type 0 where
  pub depth : ℕ
  pub can : is_walkable params depth v.what v.loops ≡ true

mutual
  walks_in : (params : List ℤ) (depth : ℕ) (enters : ℕ → Bool) (s : Statement) (place first : ℕ) (loops : List ℤ) → is_walkable params depth s loops ≡ true → All (CanWalk params) (visits_of params enters s place first loops)
  walks_in params depth enters (do_loop head body) place first loops can =
      let trips = list_all (λ v. is_small v && are_walkable params (suc depth) body (with_loop loops head.number v)) (head_trips params head loops) in
      let small = is_small_head params loops head in
      let parts = and_parts (is_number_of (length loops) head.number && nat_lt depth 6 && are_above head.number body && small) trips can in
      let inside : ℤ → List Visit = λ v. visits_in params enters body place first (with_loop loops head.number v) in
      let entered = All-flat_map (CanWalk params) inside (head_trips params head loops)
      (all_of (λ v. All (CanWalk params) (inside v)) (λ v. is_small v && are_walkable params (suc depth) body (with_loop loops head.number v)) (head_trips params head loops) parts.1
      (λ v good. walks_among params (suc depth) enters body place first (with_loop loops head.number v) (and_parts (is_small v) (are_walkable params (suc depth) body (with_loop loops head.number v)) good).1)) in
      let here : Visit = record { place = place; first = first; what = do_loop head body; loops = loops } in
      elim (enters head.number) as (λ b. All (CanWalk params) (if b then flat_map inside (head_trips params head loops) else here ∷ []))
      [ true ↦ entered | false ↦ All-cons (CanWalk params) here [] (record { depth = depth; can = can }) (All-nil (CanWalk params)) ]
  walks_in params depth enters (work w) place first loops can = All-cons (CanWalk params) (record { place = place; first = first; what = work w; loops = loops }) [] (record { depth = depth; can = can }) (All-nil (CanWalk params))
  walks_in params depth enters (continue line) place first loops can = All-nil (CanWalk params)

  walks_among : (params : List ℤ) (depth : ℕ) (enters : ℕ → Bool) (ss : Statements) (place first : ℕ) (loops : List ℤ) → are_walkable params depth ss loops ≡ true → All (CanWalk params) (visits_in params enters ss place first loops)
  walks_among params depth enters done place first loops can = All-nil (CanWalk params)
  walks_among params depth enters (next s rest) place first loops can =
      let both = and_parts (is_walkable params depth s loops) (are_walkable params depth rest loops) can in
      All-append (CanWalk params) (visits_of params enters s place first loops) (visits_in params enters rest (place + stops_in enters s) (first + works_in s) loops) (walks_in params depth enters s place first loops both.0)
      (walks_among params depth enters rest (place + stops_in enters s) (first + works_in s) loops both.1)

small_last : (tree : Tree) (plan : Plan) (k : ℕ) (v : Visit) (head : Head) (body : Statements) → IsWellFormed tree → IsWithinLimits tree → slice_get (phases tree plan.cut.marks) k ≡ Some v → v.what ≡ do_loop head body →
    wrapped (form_value head.m2 v.loops (param_values tree)) ≡ form_value head.m2 v.loops (param_values tree)
small_last tree plan k v head body formed limits at what =
    let params = param_values tree in
    let c = all_at (CanWalk params) (phases tree plan.cut.marks) k v (walks_among params 0 (enters_outer plan.cut.marks) tree.items 1 1 (no_values tree) (walkable tree formed limits)) at in
    let can : is_walkable params c.depth (do_loop head body) v.loops ≡ true = ap (λ s. is_walkable params c.depth s v.loops) (sym what) ∙ c.can in
    let trips = list_all (λ z. is_small z && are_walkable params (suc c.depth) body (with_loop v.loops head.number z)) (head_trips params head v.loops) in
    let front = is_number_of (length v.loops) head.number && nat_lt c.depth 6 && are_above head.number body in
    let first = and_parts (front && is_small_head params v.loops head) trips can in
    let head_small = (and_parts front (is_small_head params v.loops head) first.0).1 in
    let a = and_parts (is_small_at params v.loops head.m1 && is_small_at params v.loops head.m2 && nat_lt 0 (unsigned_abs head.step)) (is_small head.step) head_small in
    let b = and_parts (is_small_at params v.loops head.m1 && is_small_at params v.loops head.m2) (nat_lt 0 (unsigned_abs head.step)) a.0 in
    small_wrapped (form_value head.m2 v.loops params) (and_parts (is_small_at params v.loops head.m1) (is_small_at params v.loops head.m2) b.0).1

-- ---- an instance of a trip ends the phase where that trip is the last one

module _ (tree : Tree) (plan : Plan) (p k : ℕ) (v : Visit) (head : Head) (body : Statements) (formed : IsWellFormed tree) (fits : IsFit tree plan) (limits : IsWithinLimits tree) (at : slice_get (phases tree plan.cut.marks) k ≡ Some v) (what : v.what ≡ do_loop head body) where
  abbrev params : List ℤ
  params = param_values tree

  abbrev inside : ℤ → List Instance
  inside x = instances_in params body v.first (with_loop v.loops head.number x)

  abbrev owner : ℤ → ℕ
  owner x = phase_owner tree plan v (with_loop v.loops head.number x)

  abbrev past : ℤ → Bool
  past x = is_past x head.step (form_value head.m2 v.loops params)

  abbrev ends : Instance → Bool
  ends i = ends_phase params (slice_get (static_phases tree plan.cut.marks) (v.place - 1)) i.loops

  ends_in : (x : ℤ) → All (λ (i : Instance). ends i ≡ past x) (inside x)
  ends_in x =
      let f = visit_there tree plan.cut.marks k v formed at in
      let number = f.there.number in
      let around = f.there.around in
      let good = good_loop (scope_of tree) around number head body (ap (is_good_statement (scope_of tree) around number) (sym what) ∙ f.there.good) in
      let index : v.place - 1 ≡ f.k = omega (arith, f.place_is) in
      let static : slice_get (static_phases tree plan.cut.marks) (v.place - 1) ≡ Some (record { what = do_loop head body; around = around }) =
      ap (slice_get (static_phases tree plan.cut.marks)) index ∙ f.there.at ∙ ap (λ y. Some (record { what = y; around = around })) what in
      let loops = with_loop v.loops head.number x in
      let one : 1 ≤ loops_in v.what = omega (arith, ap loops_in what) in
      let room : head.number - 1 < length v.loops = omega (arith, good.number, f.there.count, one, f.there.low) in
      let value : numbered loops head.number ≡ x = get_or-set_same v.loops (head.number - 1) x (pos 0) room in
      let a = and_parts (names_only (scope_of tree).constants around head.m1 && names_only (scope_of tree).constants around head.m2 && nat_lt 0 (unsigned_abs head.step)) (is_small head.step) good.bounds in
      let b = and_parts (names_only (scope_of tree).constants around head.m1 && names_only (scope_of tree).constants around head.m2) (nat_lt 0 (unsigned_abs head.step)) a.0 in
      let named = (and_parts (names_only (scope_of tree).constants around head.m1) (names_only (scope_of tree).constants around head.m2) b.0).1 in
      let low = All-weaker (λ n. n < number) (λ n. n ≤ number - 1) (λ n lt. omega (arith, lt)) around f.there.below in
      All-weaker (λ (i : Instance). (j : ℕ) → j < number + 1 - 1 → get_or i.loops j (pos 0) ≡ get_or loops j (pos 0)) (λ (i : Instance). ends i ≡ past x)
      (λ i agree.
      let same_value : numbered i.loops head.number ≡ x = agree (head.number - 1) (omega (arith, good.number, f.there.low)) ∙ value in
      let same_form : form_value head.m2 i.loops params ≡ form_value head.m2 v.loops params = form_below (scope_of tree).constants (number - 1) around head.m2 params i.loops v.loops low named
      (λ j lt. agree j (omega (arith, lt)) ∙ get_or-set_other v.loops (head.number - 1) j x (pos 0) (λ e. absurd (omega (arith, e, lt, good.number)))) in
      ap (λ o. ends_phase params o i.loops) static ∙ ap (λ z. is_past z head.step (wrapped (form_value head.m2 i.loops params))) same_value ∙ ap (λ z. is_past x head.step (wrapped z)) same_form
      ∙ ap (is_past x head.step) (small_last tree plan k v head body formed limits at what))
      (inside x) (agree_among params (scope_of tree) (head.number ∷ around) (number + 1) body v.first loops good.inside (omega arith))

  abbrev mine : Instance → Bool
  mine i = (phase_owner tree plan v i.loops == p) && ends i

  -- a trip has an instance of p that ends the phase
  trip_has : (x : ℤ) → list_any mine (inside x) ≡ list_any (λ (i : Instance). (owner x == p) && past x) (inside x)
  trip_has x =
      any_same (λ (i : Instance). (phase_owner tree plan v i.loops ≡ owner x) × (ends i ≡ past x)) mine (λ i. (owner x == p) && past x) (inside x) (λ i both. ap (λ o. (o == p) && ends i) both.0 ∙ ap (λ b. (owner x == p) && b) both.1)
      (both_all (λ (i : Instance). phase_owner tree plan v i.loops ≡ owner x) (λ (i : Instance). ends i ≡ past x) (inside x) (one_owner tree plan k v head body x formed fits at what) (ends_in x))

  none_earlier : (x : ℤ) → past x ≡ false → list_any mine (inside x) ≡ false
  none_earlier x early = trip_has x ∙ none (inside x)
    where
      neither : (b : Bool) → (b && false) ≡ false
      neither true = refl
      neither false = refl

      none : (is : List Instance) → list_any (λ (i : Instance). (owner x == p) && past x) is ≡ false
      none [] = refl
      none (i ∷ is) = ap (λ b. ((owner x == p) && b) || list_any (λ (j : Instance). (owner x == p) && past x) is) early ∙ ap (λ b. b || list_any (λ (j : Instance). (owner x == p) && past x) is) (neither (owner x == p)) ∙ none is

  abbrev trip : ℕ → ℤ
  trip n = form_value head.m1 v.loops params +ℤ (pos n *ℤ head.step)

  abbrev count : ℕ
  count = trip_count (form_value head.m1 v.loops params) (form_value head.m2 v.loops params) head.step

  moves : head.step ≡ pos 0 → ⊥
  moves still =
      let f = visit_there tree plan.cut.marks k v formed at in
      let good = good_loop (scope_of tree) f.there.around f.there.number head body (ap (is_good_statement (scope_of tree) f.there.around f.there.number) (sym what) ∙ f.there.good) in
      let a = and_parts (names_only (scope_of tree).constants f.there.around head.m1 && names_only (scope_of tree).constants f.there.around head.m2 && nat_lt 0 (unsigned_abs head.step)) (is_small head.step) good.bounds in
      let some = (and_parts (names_only (scope_of tree).constants f.there.around head.m1 && names_only (scope_of tree).constants f.there.around head.m2) (nat_lt 0 (unsigned_abs head.step)) a.0).1 in
      absurd (true≢false (sym some ∙ ap (λ z. nat_lt 0 (unsigned_abs z)) still))

  abbrev keeps : Bool
  keeps = list_any ends (owned_by tree (slice_get plan.anchors (v.place - 1)) plan.workers p v)

  keeps_is : keeps ≡ list_any (λ n. list_any mine (inside (trip n))) (range_with_len 0 count)
  keeps_is =
      let a = anchored tree plan formed fits k v at in
      let all : visit_instances params v ≡ flat_map inside (head_trips params head v.loops) = ap (λ (s : Statement). instances_of params s v.first v.loops) what in
      ap (λ o. list_any ends (owned_by tree o plan.workers p v)) a.1 ∙ any_filter ends (λ (i : Instance). anchor_owner a.0 plan.workers i.loops params == p) (visit_instances params v)
      ∙ ap (λ o. list_any (λ (i : Instance). (owner_by o plan.workers i.loops params == p) && ends i) (visit_instances params v)) (sym a.1)
      ∙ ap (list_any mine) all ∙ any_flat mine inside (head_trips params head v.loops) ∙ any_map (λ x. list_any mine (inside x)) trip (range_with_len 0 count)

  split_off : (n : ℕ) → range_with_len 0 (suc n) ≡ range_with_len 0 n ++ n ∷ []
  split_off n =
      let one : suc n ≡ n + 1 = omega arith in
      let index : 0 + n ≡ n = omega arith in
      ap (range_with_len 0) one ∙ range_split 0 n 1 ∙ ap (λ a. range_with_len 0 n ++ a ∷ []) index

  abbrev Keeps : Bool → Type 0
  Keeps b = (b ≡ true → last_owner tree plan v ≡ Some p) × (last_owner tree plan v ≡ Some p → b ≡ true)

  -- the last of so many trips
  last_trip : (n : ℕ) → count ≡ suc n → last_value (head_trips params head v.loops) ≡ Some (trip n)
  last_trip n is = ap (λ m. last_value (map trip (range_with_len 0 m))) is ∙ ap (λ l. last_value (map trip l)) (split_off n) ∙ ap last_value (map_last (range_with_len 0 n)) ∙ last_there (map trip (range_with_len 0 n)) (trip n)
    where
      map_last : (ms : List ℕ) → map trip (ms ++ n ∷ []) ≡ map trip ms ++ trip n ∷ []
      map_last [] = refl
      map_last (m ∷ ms) = ap (λ l. trip m ∷ l) (map_last ms)

  keeps_by : (n : ℕ) → count ≡ n → Keeps (list_any (λ m. list_any mine (inside (trip m))) (range_with_len 0 n))
  keeps_by zero is =
      let none : last_owner tree plan v ≡ None = no_last tree plan v head body what (ap (λ n. last_value (map trip (range_with_len 0 n))) is) in
      (λ h. absurd (true≢false (sym h)), λ h. absurd (let clash : Some p ≡ None = sym h ∙ none in cc))
  keeps_by (suc n) is =
      let x = trip n in
      let early = none_from (λ m. list_any mine (inside (trip m))) 0 n (λ j lt. let index : 0 + j ≡ j = omega arith in ap (λ m. list_any mine (inside (trip m))) index ∙ none_earlier (trip j)
      (not_past (form_value head.m1 v.loops params) (form_value head.m2 v.loops params) head.step j (omega (arith, is, lt)) moves)) in
      let here : past x ≡ true = past_last (form_value head.m1 v.loops params) (form_value head.m2 v.loops params) head.step n (omega (arith, is)) moves in
      let only : list_any (λ m. list_any mine (inside (trip m))) (range_with_len 0 (suc n)) ≡ list_any (λ (i : Instance). (owner x == p) && past x) (inside x) =
      ap (list_any (λ m. list_any mine (inside (trip m)))) (split_off n) ∙ list_any-append (λ m. list_any mine (inside (trip m))) (range_with_len 0 n) (n ∷ []) ∙ ap (λ b. b || (list_any mine (inside x) || false)) early ∙ or_none (list_any mine (inside x)) ∙ trip_has x in (
        λ h.
            let some = any_there (λ (i : Instance). (owner x == p) && past x) (inside x) (sym only ∙ h) in
            last_by tree plan v head body what x some.0 some.1 (last_trip n is) some.2 ∙ ap Some (eqb-true (owner x) p (and_parts (owner x == p) (past x) some.3).0),
        λ h.
            let l = last_of tree plan v head body what p h in
            let same : Some l.value ≡ Some x = sym l.last ∙ last_trip n is in
            let value : l.value ≡ x = cc in
            let is_p : owner x ≡ p = ap owner (sym value) ∙ l.owner in
            let there : slice_get (inside x) 0 ≡ Some l.instance = ap (λ y. slice_get (inside y) 0) (sym value) ∙ l.at in
            only ∙ ap (λ b. list_any (λ (i : Instance). b && past x) (inside x)) (eq-eqb (owner x) p is_p) ∙ ap (λ b. list_any (λ (i : Instance). b) (inside x)) here ∙ some_first (inside x) l.instance there,
      )
    where
      some_first : (is : List Instance) (i : Instance) → slice_get is 0 ≡ Some i → list_any (λ (j : Instance). true) is ≡ true
      some_first [] i at = let clash : None ≡ Some i = at in absurd (cc)
      some_first (j ∷ is) i at = refl

module _ (tree : Tree) (plan : Plan) (p k : ℕ) (v : Visit) (formed : IsWellFormed tree) (fits : IsFit tree plan) (limits : IsWithinLimits tree) (at : slice_get (phases tree plan.cut.marks) k ≡ Some v) where
  abbrev has_last : Bool
  has_last = list_any (λ (i : Instance). ends_phase (param_values tree) (slice_get (static_phases tree plan.cut.marks) (v.place - 1)) i.loops) (owned_by tree (slice_get plan.anchors (v.place - 1)) plan.workers p v)

  nobody : (s : Statement) (u : ℕ) → v.what ≡ s → Contains (own_loop tree plan v.place).privates u → (own_loop_of plan.cut s).privates ≡ [] → ⊥
  nobody s u what among none =
      let o = own_in_phase tree plan k v formed fits at in
      let is : (own_loop tree plan v.place).privates ≡ [] = ap (λ (l : OwnLoop). l.privates) (o.loop_is ∙ ap (own_loop_of plan.cut) what) ∙ none in
      let empty : Contains {X = ℕ} [] u = subst (λ l. Contains l u) is among in
      omega (arith, empty.1)

  -- some instance that p owns is of the last trip exactly where p owns that
  pub owner_keeps : (u : ℕ) → Contains (own_loop tree plan v.place).privates u → (has_last ≡ true → last_owner tree plan v ≡ Some p) × (last_owner tree plan v ≡ Some p → has_last ≡ true)
  owner_keeps u among = by v.what refl
    where
      by : (s : Statement) → v.what ≡ s → (has_last ≡ true → last_owner tree plan v ≡ Some p) × (last_owner tree plan v ≡ Some p → has_last ≡ true)
      by (do_loop head body) what =
          let is = keeps_is tree plan p k v head body formed fits limits at what in
          let both = keeps_by tree plan p k v head body formed fits limits at what (count tree plan p k v head body formed fits limits at what) refl in
          (λ h. both.0 (sym is ∙ h), λ h. is ∙ both.1 h)
      by (work w) what = absurd (nobody (work w) u what among refl)
      by (continue line) what = absurd (nobody (continue line) u what among refl)
