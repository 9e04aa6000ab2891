-- The own scalars of the phase that a processor is in, by their places.
use Rattle.std.proofs.Common.{◌≡◌, ℕ, ◌-◌, ◌<◌, ◌≤◌, nat_lt, Bool, true, false, cond, List, [], ◌∷◌, Some, if◌then◌else◌, ap, sym, subst, ◌∙◌, inl, inr, arith}
use Rattle.std.specs.Prelude.{slice_get, slice_index, slice_index_or, slice_set}
use Rattle.std.specs.List.{filter, range_with_len}
use Rattle.std.specs.Option.{option_map}
use Rattle.std.proofs.lemmas.Bool.{cases_Bool, lt-ltb, ltb-true}
use Rattle.std.proofs.lemmas.Option.{slice_get-get_or, slice_get-map}
use Rattle.nest_tree.specs.Layout.{bounds_of, cell_count, first_cell}
use Rattle.nest_tree.specs.Tree.{Tree}
use Rattle.nest_tree.specs.WellFormed.{IsWellFormed}
use Rattle.nest_tree.proofs.Places.{element_count-some}
use Rattle.nest_walk.proofs.CellPlaces.{bounds-good, cells_below}
use Rattle.sync_plan.specs.Own.{OwnLoop, own_loop}
use Rattle.own_cells.specs.OwnCells.{IsScalarNumber, shared_cell}
use Rattle.turns.specs.Turns.{places_pending, scalar_at}
use Rattle.turns.specs.TurnsLeft.{AreSound, IsOwnPlace, ShowsClosing, turns_plan, turns_tree}
use Rattle.turns.specs.declared.turns.Turns.{Turns}

-- a variable's first cell is the program's
pub cell_below : (tree : Tree) (u : ℕ) → IsWellFormed tree → IsScalarNumber tree u → first_cell tree u < cell_count tree
cell_below tree u formed s =
    let below = cells_below tree.variables (u - 1) (omega (arith, s.low, s.high)) in
    let some = element_count-some (bounds_of tree u) (bounds-good tree u formed) in
    omega (arith, below, some)

filter_head : (f : ℕ → Bool) (xs : List ℕ) (y : ℕ) (ys : List ℕ) → filter f xs ≡ y ∷ ys → f y ≡ true
filter_head f [] y ys is = absurd (let clash : [] ≡ y ∷ ys = is in cc)
filter_head f (x ∷ xs) y ys is = elim (cases_Bool (f x)) [
  | inl holds ↦
      let both : x ∷ filter f xs ≡ y ∷ ys = sym (ap (λ b. cond b (x ∷ filter f xs) (filter f xs)) holds) ∙ is in
      let same : x ≡ y = cc in
      subst (λ k. f k ≡ true) same holds
  | inr fails ↦ filter_head f xs y ys (sym (ap (λ b. cond b (x ∷ filter f xs) (filter f xs)) fails) ∙ is)
]

pub not_small : (k : ℕ) → 16 ≤ k → nat_lt k 16 ≡ false
not_small k big = elim (cases_Bool (nat_lt k 16)) [
  | inl small ↦ absurd (omega (arith, ltb-true k 16 small, big))
  | inr is ↦ is
]

module _ (c : Turns) (sound : AreSound c) (k : ℕ) (shows : ShowsClosing c k) where
  abbrev tree : Tree
  tree = turns_tree c

  abbrev own : OwnLoop
  own = own_loop (turns_tree c) (turns_plan c) c.place

  own_place : IsOwnPlace own k
  own_place = sound.own.among k (filter_head (λ j. slice_index_or c.pending j false) (range_with_len 0 32) k (places_pending (slice_set c.pending k false)) shows.pending)

  -- the cell that all share
  pub shared_there : shared_cell c.own k ≡ Some (first_cell tree (scalar_at own k))
  shared_there = elim own_place [
    | inl low ↦
        let small : nat_lt k 16 ≡ true = lt-ltb k 16 (omega (arith, low, sound.own.few.privates)) in
        ap (λ b. if b then slice_get c.own.private_cells.items k else slice_get c.own.sum_cells.items (k - 16)) small
        ∙ ap (λ xs. slice_get xs k) sound.own.cells.private_cells ∙ slice_get-map (first_cell tree) own.privates k ∙ ap (option_map (first_cell tree)) (slice_get-get_or own.privates k 0 low)
        ∙ ap (λ b. Some (first_cell tree (if b then slice_index own.privates k else slice_index own.sums (k - 16)))) (sym small)
    | inr high ↦
        let big = not_small k high.0 in
        ap (λ b. if b then slice_get c.own.private_cells.items k else slice_get c.own.sum_cells.items (k - 16)) big
        ∙ ap (λ xs. slice_get xs (k - 16)) sound.own.cells.sum_cells ∙ slice_get-map (first_cell tree) own.sums (k - 16) ∙ ap (option_map (first_cell tree)) (slice_get-get_or own.sums (k - 16) 0 high.1)
        ∙ ap (λ b. Some (first_cell tree (if b then slice_index own.privates k else slice_index own.sums (k - 16)))) (sym big)
  ]

  pub scalar_below : first_cell tree (scalar_at own k) < cell_count tree
  scalar_below = elim own_place [
    | inl low ↦
        let small : nat_lt k 16 ≡ true = lt-ltb k 16 (omega (arith, low, sound.own.few.privates)) in
        let is : scalar_at own k ≡ slice_index own.privates k = ap (λ b. if b then slice_index own.privates k else slice_index own.sums (k - 16)) small in
        subst (λ u. first_cell tree u < cell_count tree) (sym is) (cell_below tree (slice_index own.privates k) sound.formed (sound.own.few.private_scalars k 0 low))
    | inr high ↦
        let is : scalar_at own k ≡ slice_index own.sums (k - 16) = ap (λ b. if b then slice_index own.privates k else slice_index own.sums (k - 16)) (not_small k high.0) in
        subst (λ u. first_cell tree u < cell_count tree) (sym is) (cell_below tree (slice_index own.sums (k - 16)) sound.formed (sound.own.few.sum_scalars (k - 16) 0 high.1))
  ]
