-- The closings behind a phase do what its closings on the timeline do.
use Rattle.std.proofs.Common.{◌≡◌, ◌==◌, ℕ, zero, suc, ◌+◌, ◌-◌, ◌<◌, ◌≤◌, nat_lt, Bool, true, false, cond, List, [], ◌∷◌, ◌++◌, length, map, Option, Some, None, if◌then◌else◌, refl, ap, sym, ◌∙◌, inl, inr, arith}
use Rattle.std.specs.Prelude.{Contains, slice_get, slice_index}
use Rattle.std.specs.List.{filter, flat_map, range_with_len}
use Rattle.std.proofs.lemmas.Bool.{cases_Bool, eqb-true, eqb-false, lt-ltb, ltb-true}
use Rattle.std.proofs.lemmas.Grind.{flat_map-append}
use Rattle.std.proofs.lemmas.Option.{get_or_from_slice_get, slice_get_within}
use Rattle.list_lemmas.proofs.Elements.{contains_at}
use Rattle.list_lemmas.proofs.Ranges.{range_split}
use Rattle.nest_tree.specs.Layout.{first_cell}
use Rattle.nest_tree.specs.Tree.{Tree}
use Rattle.nest_model.specs.Visits.{Visit}
use Rattle.sync_plan.specs.Own.{Own, OwnLoop, at_slot, own_cell, own_loop, own_of}
use Rattle.sync_plan.specs.declared.plan.Plan.{Plan}
use Rattle.spmd_model.specs.Closings.{has_stored, last_owner}
use Rattle.spmd_model.specs.Deeds.{Deed}
use Rattle.spmd_model.specs.MachineDeeds.{closing_deeds, kept_by, keeping_deeds, totalled_by, totalling_deeds}
use Rattle.turns.specs.Turns.{closes, close_deeds, scalar_at}
use Rattle.turns.proofs.FrontDeeds.{doing}

-- ---- lists

-- what passes a test, by what each of all would give
chosen : {X Y : Type 0} (f : X → Bool) (g : X → List Y) (xs : List X) → flat_map g (filter f xs) ≡ flat_map (λ x. if f x then g x else []) xs
chosen f g [] = refl
chosen f g (x ∷ xs) = elim (cases_Bool (f x)) [
  | inl yes_it_does ↦
      ap (λ b. flat_map g (cond b (x ∷ filter f xs) (filter f xs))) yes_it_does ∙ ap (λ l. g x ++ l) (chosen f g xs)
      ∙ sym (ap (λ b. (if b then g x else []) ++ flat_map (λ y. if f y then g y else []) xs) yes_it_does)
  | inr fails ↦
      ap (λ b. flat_map g (cond b (x ∷ filter f xs) (filter f xs))) fails ∙ chosen f g xs ∙ sym (ap (λ b. (if b then g x else []) ++ flat_map (λ y. if f y then g y else []) xs) fails)
]

nothing_from : {Y : Type 0} (g : ℕ → List Y) (a m : ℕ) → ((j : ℕ) → j < m → g (a + j) ≡ []) → flat_map g (range_with_len a m) ≡ []
nothing_from g a zero none = refl
nothing_from g a (suc m) none =
    let here : g a ≡ [] = ap g (omega arith) ∙ none 0 (omega arith) in
    ap (λ l. l ++ flat_map g (range_with_len (a + 1) m)) here ∙ nothing_from g (a + 1) m (λ j lt. ap g (omega arith) ∙ none (suc j) (omega (arith, lt)))

-- a list, element by element, over the numbers of places from the first one's on, of which later ones give nothing
by_place : {X Y : Type 0} (g : ℕ → List Y) (h : X → List Y) (xs : List X) (a m : ℕ) → length xs ≤ m → ((j : ℕ) (x : X) → slice_get xs j ≡ Some x → g (a + j) ≡ h x) → ((j : ℕ) → length xs ≤ j → j < m → g (a + j) ≡ []) →
    flat_map g (range_with_len a m) ≡ flat_map h xs
by_place g h [] a m le each none = nothing_from g a m (λ j lt. none j (omega arith) lt)
by_place g h (x ∷ xs) a zero le each none = absurd (omega (arith, le))
by_place g h (x ∷ xs) a (suc m) le each none =
    let here : g a ≡ h x = ap g (omega arith) ∙ each 0 x refl in
    ap (λ l. l ++ flat_map g (range_with_len (a + 1) m)) here
    ∙ ap (λ l. h x ++ l) (by_place g h xs (a + 1) m (omega (arith, le)) (λ j y at. ap g (omega arith) ∙ each (suc j) y at) (λ j ge lt. ap g (omega arith) ∙ none (suc j) (omega (arith, ge)) (omega (arith, lt))))

closed_each : (tree : Tree) (plan : Plan) (p place : ℕ) (ks : List ℕ) → doing tree plan p (map (closes place) ks) ≡ flat_map (close_deeds tree plan p place) ks
closed_each tree plan p place [] = refl
closed_each tree plan p place (k ∷ ks) = ap (λ l. close_deeds tree plan p place k ++ l) (closed_each tree plan p place ks)

-- ---- the closings, where it is known which places pend

module _ (tree : Tree) (plan : Plan) (p : ℕ) (v : Visit) (few_privates : length (own_loop tree plan v.place).privates ≤ 16) (few_sums : length (own_loop tree plan v.place).sums ≤ 16)
    (slot_private : (j u : ℕ) → slice_get (own_loop tree plan v.place).privates j ≡ Some u → (own_of tree plan v.place).slot (first_cell tree u) ≡ Some j)
    (slot_sum : (j u : ℕ) → slice_get (own_loop tree plan v.place).sums j ≡ Some u → (own_of tree plan v.place).slot (first_cell tree u) ≡ Some (16 + j))
    (pends : ℕ → Bool) (keeps : Bool)
    (private_pends : (j u : ℕ) → slice_get (own_loop tree plan v.place).privates j ≡ Some u → pends j ≡ keeps)
    (no_private : (j : ℕ) → length (own_loop tree plan v.place).privates ≤ j → j < 16 → pends j ≡ false)
    (owner_keeps : (u : ℕ) → Contains (own_loop tree plan v.place).privates u → (keeps ≡ true → last_owner tree plan v ≡ Some p) × (last_owner tree plan v ≡ Some p → keeps ≡ true))
    (sum_pends : (j u : ℕ) → slice_get (own_loop tree plan v.place).sums j ≡ Some u → pends (16 + j) ≡ has_stored tree plan v (first_cell tree u) p)
    (no_sum : (j : ℕ) → length (own_loop tree plan v.place).sums ≤ j → j < 16 → pends (16 + j) ≡ false) where
  abbrev own : OwnLoop
  own = own_loop tree plan v.place

  abbrev o : Own
  o = own_of tree plan v.place

  abbrev closes_if : ℕ → List Deed
  closes_if k = if pends k then close_deeds tree plan p v.place k else []

  own_is : (c k : ℕ) → o.slot c ≡ Some k → own_cell o p c ≡ o.cell p k
  own_is c k at = ap (at_slot o p c) at

  private_close : (j u : ℕ) → slice_get own.privates j ≡ Some u → close_deeds tree plan p v.place j ≡ keeping_deeds (own_cell o p (first_cell tree u)) (first_cell tree u)
  private_close j u at =
      let lt = slice_get_within own.privates j u at in
      let small : nat_lt j 16 ≡ true = lt-ltb j 16 (omega (arith, lt, few_privates)) in
      let scalar : scalar_at own j ≡ u = ap (λ b. if b then slice_index own.privates j else slice_index own.sums (j - 16)) small ∙ get_or_from_slice_get own.privates j u 0 at in
      ap (λ b. if b then keeping_deeds (o.cell p j) (first_cell tree (scalar_at own j)) else totalling_deeds (o.cell p j) (first_cell tree (scalar_at own j))) small
      ∙ ap (λ s. keeping_deeds (o.cell p j) (first_cell tree s)) scalar ∙ ap (λ d. keeping_deeds d (first_cell tree u)) (sym (own_is (first_cell tree u) j (slot_private j u at)))

  sum_close : (j u : ℕ) → slice_get own.sums j ≡ Some u → close_deeds tree plan p v.place (16 + j) ≡ totalling_deeds (own_cell o p (first_cell tree u)) (first_cell tree u)
  sum_close j u at =
      let big : nat_lt (16 + j) 16 ≡ false = (elim (cases_Bool (nat_lt (16 + j) 16)) [ inl yes_it_is ↦ absurd (omega (arith, ltb-true (16 + j) 16 yes_it_is)) | inr fails ↦ fails ]) in
      let index : 16 + j - 16 ≡ j = omega arith in
      let scalar : scalar_at own (16 + j) ≡ u = ap (λ b. if b then slice_index own.privates (16 + j) else slice_index own.sums (16 + j - 16)) big ∙ ap (slice_index own.sums) index ∙ get_or_from_slice_get own.sums j u 0 at in
      ap (λ b. if b then keeping_deeds (o.cell p (16 + j)) (first_cell tree (scalar_at own (16 + j))) else totalling_deeds (o.cell p (16 + j)) (first_cell tree (scalar_at own (16 + j)))) big
      ∙ ap (λ s. totalling_deeds (o.cell p (16 + j)) (first_cell tree s)) scalar ∙ ap (λ d. totalling_deeds d (first_cell tree u)) (sym (own_is (first_cell tree u) (16 + j) (slot_sum j u at)))

  -- a private scalar
  kept : (c : ℕ) (last : Option ℕ) → (keeps ≡ true → last ≡ Some p) → (last ≡ Some p → keeps ≡ true) → (if keeps then keeping_deeds (own_cell o p c) c else []) ≡ kept_by o c p last
  kept c None to from = elim (cases_Bool keeps) [
    | inl yes_it_does ↦ absurd (let clash : None ≡ Some p = to yes_it_does in cc)
    | inr fails ↦ ap (λ b. if b then keeping_deeds (own_cell o p c) c else []) fails
  ]
  kept c (Some q) to from = elim (cases_Bool (q == p)) [
    | inl yes_it_is ↦
        let same = eqb-true q p yes_it_is in
        ap (λ b. if b then keeping_deeds (own_cell o p c) c else []) (from (ap Some same)) ∙ ap (λ r. keeping_deeds (own_cell o r c) c) (sym same) ∙ sym (ap (λ b. if b then keeping_deeds (own_cell o q c) c else []) yes_it_is)
    | inr fails ↦
        let never : keeps ≡ false = (elim (cases_Bool keeps) [ inl yes_it_does ↦ absurd (eqb-false q p fails (let both : Some q ≡ Some p = to yes_it_does in cc)) | inr still ↦ still ]) in
        ap (λ b. if b then keeping_deeds (own_cell o p c) c else []) never ∙ sym (ap (λ b. if b then keeping_deeds (own_cell o q c) c else []) fails)
  ]

  privates_close : flat_map closes_if (range_with_len 0 16) ≡ flat_map (λ u. kept_by o (first_cell tree u) p (last_owner tree plan v)) own.privates
  privates_close =
      by_place closes_if (λ u. kept_by o (first_cell tree u) p (last_owner tree plan v)) own.privates 0 16 few_privates
      (λ j u at.
      let index : 0 + j ≡ j = omega arith in
      let both = owner_keeps u (contains_at own.privates j u at) in
      ap closes_if index ∙ ap (λ b. if b then close_deeds tree plan p v.place j else []) (private_pends j u at) ∙ ap (λ l. if keeps then l else []) (private_close j u at) ∙ kept (first_cell tree u) (last_owner tree plan v) both.0 both.1)
      (λ j ge lt. let index : 0 + j ≡ j = omega arith in ap closes_if index ∙ ap (λ b. if b then close_deeds tree plan p v.place j else []) (no_private j ge lt))

  -- a sum scalar
  totalled : (c : ℕ) (has : Bool) → (if has then totalling_deeds (own_cell o p c) c else []) ≡ totalled_by o c p has
  totalled c true = refl
  totalled c false = refl

  sums_close : flat_map closes_if (range_with_len 16 16) ≡ flat_map (λ u. totalled_by o (first_cell tree u) p (has_stored tree plan v (first_cell tree u) p)) own.sums
  sums_close =
      by_place closes_if (λ u. totalled_by o (first_cell tree u) p (has_stored tree plan v (first_cell tree u) p)) own.sums 16 16 few_sums
      (λ j u at.
      ap (λ b. if b then close_deeds tree plan p v.place (16 + j) else []) (sum_pends j u at) ∙ ap (λ l. if has_stored tree plan v (first_cell tree u) p then l else []) (sum_close j u at)
      ∙ totalled (first_cell tree u) (has_stored tree plan v (first_cell tree u) p))
      (λ j ge lt. ap (λ b. if b then close_deeds tree plan p v.place (16 + j) else []) (no_sum j ge lt))

  pub closings_do : doing tree plan p (map (closes v.place) (filter pends (range_with_len 0 32))) ≡ closing_deeds tree plan p v
  closings_do =
      closed_each tree plan p v.place (filter pends (range_with_len 0 32)) ∙ chosen pends (close_deeds tree plan p v.place) (range_with_len 0 32)
      ∙ ap (flat_map closes_if) (range_split 0 16 16) ∙ flat_map-append closes_if (range_with_len 0 16) (range_with_len 16 16)
      ∙ ap (λ l. l ++ flat_map closes_if (range_with_len 16 16)) privates_close ∙ ap (λ l. flat_map (λ u. kept_by o (first_cell tree u) p (last_owner tree plan v)) own.privates ++ l) sums_close
