-- An instance marks the place of a sum scalar exactly where it stores to that scalar's cell.
use Rattle.std.proofs.Common.{◌≡◌, ◌==◌, ◌&&◌, ◌||◌, ℕ, ◌+◌, ◌-◌, ◌≤◌, nat_lt, Bool, true, false, true≢false, cond, List, [], ◌∷◌, get_or, length, Option, Some, None, refl, ap, sym, ◌∙◌, inl, inr, arith}
use Rattle.std.specs.Prelude.{position, slice_get}
use Rattle.std.specs.List.{All, filter, list_any}
use Rattle.std.specs.Option.{option_map}
use Rattle.std.proofs.lemmas.Bool.{and_parts, cases_Bool, eqb-true, eqb-false, eq-eqb, ltb-true}
use Rattle.std.proofs.lemmas.List.Elements.{All-head, All-tail}
use Rattle.std.proofs.lemmas.List.Quantifiers.{position-Some}
use Rattle.std.proofs.lemmas.Option.{get_or_from_slice_get}
use Rattle.list_lemmas.proofs.Elements.{contains_at}
use Rattle.nest_tree.specs.Layout.{first_cell}
use Rattle.nest_tree.specs.Tree.{Tree, Work, assign, print, param_values}
use Rattle.nest_tree.specs.declared.tree.Access.{Access}
use Rattle.nest_tree.specs.WellFormed.{IsWellFormed}
use Rattle.nest_model.specs.Accesses.{store_of, work_store}
use Rattle.nest_model.specs.Instances.{Instance}
use Rattle.nest_model.specs.Ranges.{IsInRange}
use Rattle.nest_model.specs.Visits.{Visit}
use Rattle.own_scalars.specs.OwnScalars.{is_of, stores}
use Rattle.owner_partition.specs.Owners.{anchor_owner, owner_by}
use Rattle.owner_partition.specs.Phases.{visit_instances, phases}
use Rattle.sync_plan.specs.Fit.{IsFit}
use Rattle.sync_plan.specs.Own.{OwnLoop, own_loop}
use Rattle.sync_plan.specs.declared.plan.Plan.{Plan}
use Rattle.own_cells.specs.OwnCells.{place_assigned}
use Rattle.spmd_model.specs.Closings.{has_stored, phase_owner}
use Rattle.spmd_model.specs.Deeds.{owned_by}
use Rattle.spmd_model.specs.Lawful.{stores_to}
use Rattle.spmd_model.proofs.Deeds.{anchored}
use Rattle.spmd_model.proofs.InstanceJobs.{scalar_cell, store_is}
use Rattle.spmd_model.proofs.OwnTexts.{AreOwnIn, IsScalar, own_in_phase, sum_is}
use Rattle.spmd_model.proofs.PhaseJobs.{all_fine}
use Rattle.spmd_model.proofs.TripJobs.{IsFineIn}
use Rattle.turns.proofs.ClosingMarks.{is_at, marks, or_none}
use Rattle.turns.proofs.OwnSlots.{few_privates, first_place, one_place, sums_rise}

-- ---- lists

pub any_filter : {X : Type 0} (f g : X → Bool) (xs : List X) → list_any f (filter g xs) ≡ list_any (λ x. g x && f x) xs
any_filter f g [] = refl
any_filter f g (x ∷ xs) = elim (cases_Bool (g x)) [
  | inl yes_it_does ↦ ap (λ b. list_any f (cond b (x ∷ filter g xs) (filter g xs))) yes_it_does ∙ ap (λ b. f x || b) (any_filter f g xs) ∙ sym (ap (λ b. (b && f x) || list_any (λ y. g y && f y) xs) yes_it_does)
  | inr fails ↦ ap (λ b. list_any f (cond b (x ∷ filter g xs) (filter g xs))) fails ∙ any_filter f g xs ∙ sym (ap (λ b. (b && f x) || list_any (λ y. g y && f y) xs) fails)
]

pub any_same : {X : Type 0} (P : X → Type 0) (f g : X → Bool) (xs : List X) → ((x : X) → P x → f x ≡ g x) → All P xs → list_any f xs ≡ list_any g xs
any_same P f g [] same all = refl
any_same P f g (x ∷ xs) same all = ap (λ b. b || list_any f xs) (same x (All-head P x xs all)) ∙ ap (λ b. g x || b) (any_same P f g xs same (All-tail P x xs all))

-- ---- one instance

is_sixteen : (j k : ℕ) → (16 + k == 16 + j) ≡ (k == j)
is_sixteen j k = elim (cases_Bool (k == j)) [
  | inl yes_it_is ↦ eq-eqb (16 + k) (16 + j) (omega (arith, eqb-true k j yes_it_is)) ∙ sym yes_it_is
  | inr fails ↦ (elim (cases_Bool (16 + k == 16 + j)) [ inl clash ↦ absurd (eqb-false k j fails (omega (arith, eqb-true (16 + k) (16 + j) clash))) | inr not_so ↦ not_so ∙ sym fails ])
]

module _ (tree : Tree) (plan : Plan) (k : ℕ) (v : Visit) (formed : IsWellFormed tree) (fits : IsFit tree plan) (ranges : IsInRange tree) (at : slice_get (phases tree plan.cut.marks) k ≡ Some v) (p : ℕ) where
  abbrev text : AreOwnIn tree plan v
  text = own_in_phase tree plan k v formed fits at

  abbrev own : OwnLoop
  own = own_loop tree plan v.place

  abbrev pub few : length own.privates ≤ 32
  few = omega (arith, few_privates tree plan v text)

  -- the place of the scalar that an access is of
  placed : (j u : ℕ) (a : Access) → slice_get own.sums j ≡ Some u → is_at (option_map (λ n. 16 + n) (position (λ w. is_of w a) own.sums)) (16 + j) ≡ is_of u a
  placed j u a at_j = elim (cases_Bool (is_of u a)) [
    | inl yes_it_is ↦
        let found = first_place (λ w. is_of w a) own.sums j u at_j yes_it_is (λ i w less here. elim (cases_Bool (is_of w a)) [
          | inl also ↦
              let same : w ≡ u = sym (eqb-true a.variable w (and_parts (a.variable == w) (length a.subscripts == 0) also).0) ∙ eqb-true a.variable u (and_parts (a.variable == u) (length a.subscripts == 0) yes_it_is).0 in
              absurd (omega (arith, one_place 0 own.sums i j u (sums_rise tree plan v text) (here ∙ ap Some same) at_j, less))
          | inr fails ↦ fails
        ]) in
        ap (λ o. is_at (option_map (λ n. 16 + n) o) (16 + j)) found ∙ eq-eqb (16 + j) (16 + j) refl ∙ sym yes_it_is
    | inr fails ↦ by fails (position (λ w. is_of w a) own.sums) refl ∙ sym fails
  ]
    where
      by : is_of u a ≡ false → (o : Option ℕ) → position (λ w. is_of w a) own.sums ≡ o → is_at (option_map (λ n. 16 + n) o) (16 + j) ≡ false
      by none None is = refl
      by none (Some n) is = is_sixteen j n ∙ (elim (cases_Bool (n == j)) [
        | inl same ↦
            let found = position-Some (λ w. is_of w a) own.sums n u is in
            let index = eqb-true n j same in
            let here : get_or own.sums n u ≡ u = ap (λ m. get_or own.sums m u) index ∙ get_or_from_slice_get own.sums j u u at_j in
            absurd (true≢false (sym (sym (ap (λ w. is_of w a) here) ∙ found.1) ∙ none))
        | inr other ↦ other
      ])

  marks_sum : (j u : ℕ) → slice_get own.sums j ≡ Some u → (i : Instance) → IsFineIn tree plan v i → marks tree plan p v.place few (16 + j) i ≡ stores_to (store_of tree i) (first_cell tree u)
  marks_sum j u at_j i fine =
      let late : (nat_lt (16 + j) (length own.privates) && _) ≡ false = never (nat_lt (16 + j) (length own.privates)) _ (λ yes_it_is. omega (arith, ltb-true (16 + j) (length own.privates) yes_it_is, few_privates tree plan v text)) in
      ap (λ b. is_at (place_assigned own.sums i.what) (16 + j) || b) late ∙ or_none (is_at (place_assigned own.sums i.what) (16 + j)) ∙ by i.what refl
    where
      never : (a b : Bool) → (a ≡ true → ⊥) → (a && b) ≡ false
      never true b fails = absurd (fails refl)
      never false b fails = refl

      scalar : IsScalar tree u
      scalar = (sum_is tree plan v text u (contains_at own.sums j u at_j)).1

      by : (w : Work) → i.what ≡ w → is_at (place_assigned own.sums w) (16 + j) ≡ stores_to (work_store tree i.loops w) (first_cell tree u)
      by (print x) is = refl
      by (assign a) is = placed j u a.target at_j ∙ (elim (cases_Bool (is_of u a.target)) [
        | inl yes_it_is ↦ yes_it_is ∙ sym (eq-eqb _ (first_cell tree u) (scalar_cell tree i.loops u a.target scalar yes_it_is))
        | inr fails ↦ fails ∙ sym (elim (cases_Bool (stores_to (work_store tree i.loops (assign a)) (first_cell tree u))) [
          | inl stored ↦
              let here = store_is tree formed fine.good.around i.loops u scalar i.what fine.good.good fine.inside (ap (work_store tree i.loops) is ∙ ap Some (eqb-true _ (first_cell tree u) stored)) in
              absurd (true≢false (sym (sym (ap (stores u) is) ∙ here) ∙ fails))
          | inr not_stored ↦ not_stored
        ])
      ])

  -- ---- those of a phase

  pub sum_pends : (j u : ℕ) → slice_get own.sums j ≡ Some u → list_any (marks tree plan p v.place few (16 + j)) (owned_by tree (slice_get plan.anchors (v.place - 1)) plan.workers p v) ≡ has_stored tree plan v (first_cell tree u) p
  sum_pends j u at_j =
      let params = param_values tree in
      let a = anchored tree plan formed fits k v at in
      let test : Instance → Bool = marks tree plan p v.place few (16 + j) in
      ap (λ o. list_any test (owned_by tree o plan.workers p v)) a.1
      ∙ any_filter test (λ (i : Instance). anchor_owner a.0 plan.workers i.loops params == p) (visit_instances params v)
      ∙ any_same (IsFineIn tree plan v) (λ i. (anchor_owner a.0 plan.workers i.loops params == p) && test i) (λ i. (phase_owner tree plan v i.loops == p) && stores_to (store_of tree i) (first_cell tree u)) (visit_instances params v)
      (λ i fine. ap (λ b. (anchor_owner a.0 plan.workers i.loops params == p) && b) (marks_sum j u at_j i fine) ∙ sym (ap (λ o. (owner_by o plan.workers i.loops params == p) && stores_to (store_of tree i) (first_cell tree u)) a.1))
      (all_fine tree plan k v formed fits ranges at)
