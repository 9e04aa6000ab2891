-- The slots of a phase's own scalars: the place of each among them.
use Rattle.std.proofs.Common.{◌≡◌, ◌==◌, ℕ, zero, suc, ◌+◌, ◌<◌, ◌≤◌, nat_lt, Bool, true, false, cond, List, [], ◌∷◌, get_or, length, Some, None, refl, ap, sym, subst, ◌∙◌, inl, inr, arith}
use Rattle.std.specs.Prelude.{Contains, position, slice_get}
use Rattle.std.specs.List.{position_or_len}
use Rattle.std.proofs.lemmas.Bool.{cases_Bool, eqb-true, eq-eqb, lt-ltb}
use Rattle.std.proofs.lemmas.List.Sums.{position_or_len_is}
use Rattle.std.proofs.lemmas.Option.{get_or_from_slice_get, slice_get-get_or, slice_get_within}
use Rattle.list_lemmas.proofs.Elements.{contains_at}
use Rattle.nest_tree.specs.Layout.{first_cell}
use Rattle.nest_tree.specs.Tree.{Tree}
use Rattle.nest_model.specs.Visits.{Visit}
use Rattle.sync_plan.specs.Own.{OwnLoop, own_loop, own_of, place_in}
use Rattle.sync_plan.specs.declared.plan.Plan.{Plan}
use Rattle.spmd_model.proofs.OwnTexts.{AreOwnIn, Ascends, IsScalar, Slots, cell_there, not_both, one_scalar, private_is, private_slot, slots, sum_is, sum_slot}
use Rattle.spmd_model.proofs.Stands.{slot_there}

-- the first that passes
pub first_place : {X : Type 0} (test : X → Bool) (xs : List X) (j : ℕ) (x : X) → slice_get xs j ≡ Some x → test x ≡ true → ((i : ℕ) (y : X) → i < j → slice_get xs i ≡ Some y → test y ≡ false) → position test xs ≡ Some j
first_place test xs j x at passes earlier =
    let lt = slice_get_within xs j x at in
    let is : position_or_len test xs ≡ j = position_or_len_is test xs j x (omega (arith, lt)) (λ i less. earlier i (get_or xs i x) less (slice_get-get_or xs i x (omega (arith, less, lt)))) (λ within. ap test (get_or_from_slice_get xs j x x at) ∙ passes) in
    ap (λ n. cond (nat_lt n (length xs)) (Some n) None) is ∙ ap (λ b. cond b (Some j) None) (lt-ltb j (length xs) lt)

-- ---- numbers that rise are different

rises_above : (a : ℕ) (us : List ℕ) (i u : ℕ) → Ascends a us → slice_get us i ≡ Some u → a ≤ u
rises_above a [] i u rises at = absurd (let clash : None ≡ Some u = at in cc)
rises_above a (x ∷ us) zero u rises at = let same : Some x ≡ Some u = at in let is : x ≡ u = cc in omega (arith, is, rises.0)
rises_above a (x ∷ us) (suc i) u rises at = omega (arith, rises_above (suc x) us i u rises.1 at, rises.0)

pub one_place : (a : ℕ) (us : List ℕ) (i j u : ℕ) → Ascends a us → slice_get us i ≡ Some u → slice_get us j ≡ Some u → i ≡ j
one_place a [] i j u rises at also = absurd (let clash : None ≡ Some u = at in cc)
one_place a (x ∷ us) zero zero u rises at also = refl
one_place a (x ∷ us) zero (suc j) u rises at also = let same : Some x ≡ Some u = at in let is : x ≡ u = cc in absurd (omega (arith, is, rises_above (suc x) us j u rises.1 also))
one_place a (x ∷ us) (suc i) zero u rises at also = let same : Some x ≡ Some u = also in let is : x ≡ u = cc in absurd (omega (arith, is, rises_above (suc x) us i u rises.1 at))
one_place a (x ∷ us) (suc i) (suc j) u rises at also = ap suc (one_place (suc x) us i j u rises.1 at also)

-- ---- slots

module _ (tree : Tree) (plan : Plan) (v : Visit) (o : AreOwnIn tree plan v) where
  abbrev own : OwnLoop
  own = own_loop tree plan v.place

  pub privates_rise : Ascends 0 own.privates
  privates_rise = subst (λ (l : OwnLoop). Ascends 0 l.privates) (sym o.loop_is) o.own.privates_rise

  pub sums_rise : Ascends 0 own.sums
  sums_rise = subst (λ (l : OwnLoop). Ascends 0 l.sums) (sym o.loop_is) o.own.sums_rise

  pub few_privates : length own.privates ≤ 16
  few_privates = subst (λ (l : OwnLoop). length l.privates ≤ 16) (sym o.loop_is) o.own.few_privates

  pub few_sums : length own.sums ≤ 16
  few_sums = subst (λ (l : OwnLoop). length l.sums ≤ 16) (sym o.loop_is) o.own.few_sums

  -- the place of a scalar's cell among those of scalars that rise
  place_is : (us : List ℕ) → Ascends 0 us → ((u : ℕ) → Contains us u → IsScalar tree u) → (j u : ℕ) → slice_get us j ≡ Some u → place_in tree us (first_cell tree u) ≡ Some j
  place_is us rises scalars j u at =
      first_place (λ w. first_cell tree w == first_cell tree u) us j u at (eq-eqb (first_cell tree u) (first_cell tree u) refl)
      (λ i w less here. elim (cases_Bool (first_cell tree w == first_cell tree u)) [
        | inl yes_it_is ↦
            let same = one_scalar tree w u (scalars w (contains_at us i w here)) (scalars u (contains_at us j u at)) (eqb-true (first_cell tree w) (first_cell tree u) yes_it_is) in
            let index = one_place 0 us i j u rises (here ∙ ap Some same) at in
            absurd (omega (arith, index, less))
        | inr fails ↦ fails
      ])

  pub slot_private : (j u : ℕ) → slice_get own.privates j ≡ Some u → (own_of tree plan v.place).slot (first_cell tree u) ≡ Some j
  slot_private j u at =
      let among = cell_there tree own.privates u (contains_at own.privates j u at) in
      let s = slot_there tree plan v o (first_cell tree u) (inl among) in
      s.1 ∙ ap Some (by s.0 (slots tree plan v o (first_cell tree u) s.0 s.1))
    where
      by : (k : ℕ) → Slots tree plan v o (first_cell tree u) k → k ≡ j
      by k (private_slot small is place) = let both : Some k ≡ Some j = sym place ∙ place_is own.privates privates_rise (λ w among. (private_is tree plan v o w among).1) j u at in cc
      by k (sum_slot n is small summed place) = absurd (not_both tree plan v o (first_cell tree u) (cell_there tree own.privates u (contains_at own.privates j u at)) summed)

  pub slot_sum : (j u : ℕ) → slice_get own.sums j ≡ Some u → (own_of tree plan v.place).slot (first_cell tree u) ≡ Some (16 + j)
  slot_sum j u at =
      let among = cell_there tree own.sums u (contains_at own.sums j u at) in
      let s = slot_there tree plan v o (first_cell tree u) (inr among) in
      s.1 ∙ ap Some (by s.0 (slots tree plan v o (first_cell tree u) s.0 s.1))
    where
      by : (k : ℕ) → Slots tree plan v o (first_cell tree u) k → k ≡ 16 + j
      by k (private_slot small is place) = absurd (not_both tree plan v o (first_cell tree u) is (cell_there tree own.sums u (contains_at own.sums j u at)))
      by k (sum_slot n is small summed place) =
          let both : Some n ≡ Some j = sym place ∙ place_is own.sums sums_rise (λ w among. (sum_is tree plan v o w among).1) j u at in
          let same : n ≡ j = cc in
          is ∙ ap (λ m. 16 + m) same
