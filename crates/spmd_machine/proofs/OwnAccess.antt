-- An access by a processor: of a cell that all share, or of its own one in that place.
use Rattle.std.proofs.Common.{◌≡◌, ◌==◌, ℕ, ◌+◌, ◌<◌, ℤ, pos, List, length, get_or, set, Option, Some, None, refl, sym, ◌∙◌, ap, arith}
use Rattle.std.specs.Option.{option_map, option_or}
use Rattle.std.proofs.lemmas.List.Quantifiers.{position-Some}
use Rattle.nest_tree.specs.Layout.{cell_count, first_cell}
use Rattle.nest_tree.specs.Tree.{Tree}
use Rattle.nest_model.specs.Memory.{cell_value}
use Rattle.sync_plan.specs.Own.{at_slot, own_cell, own_loop, own_of, place_in}
use Rattle.sync_plan.specs.declared.plan.Plan.{Plan}
use Rattle.own_cells.specs.OwnCells.{AreFew}
use Rattle.spmd_machine.specs.Processors.{memory_of}
use Rattle.spmd_machine.specs.declared.processor.Processor.{Processor}
use Rattle.spmd_machine.proofs.OwnMemory.{HaveOwn, own_set, own_value, same_memory, shared_put, shared_value}

-- places of own scalars are small
pub slot_small : (tree : Tree) (plan : Plan) (place c k : ℕ) → AreFew tree (own_loop tree plan place) → (own_of tree plan place).slot c ≡ Some k → k < 32
slot_small tree plan place c k few at = by (place_in tree (own_loop tree plan place).privates c) refl (place_in tree (own_loop tree plan place).sums c) refl at
  where
    by : (x : Option ℕ) → place_in tree (own_loop tree plan place).privates c ≡ x → (y : Option ℕ) → place_in tree (own_loop tree plan place).sums c ≡ y → option_or x (option_map (λ n. 16 + n) y) ≡ Some k → k < 32
    by (Some n) hx y hy e =
        let both : Some n ≡ Some k = e in
        let same : n ≡ k = cc in
        omega (arith, same, (position-Some (λ u. first_cell tree u == c) (own_loop tree plan place).privates n 0 hx).0, few.privates)
    by None hx (Some n) hy e =
        let both : Some (16 + n) ≡ Some k = e in
        let same : 16 + n ≡ k = cc in
        omega (arith, same, (position-Some (λ u. first_cell tree u == c) (own_loop tree plan place).sums n 0 hy).0, few.sums)
    by None hx None hy e = absurd (let clash : None ≡ Some k = e in cc)

-- what an access reads
abbrev pub read_by : Processor → List ℤ → ℕ → Option ℕ → ℤ
read_by x shared c None = cell_value shared c
read_by x shared c (Some k) = get_or x.own k (pos 0)

-- a processor behind a store, and the cells that all share behind it
pub data Stores (x y : Processor) (before after : List ℤ) (c : ℕ) (v : ℤ) : Option ℕ → Type 0 where
  to_shared : y.own ≡ x.own → after ≡ set before c v → Stores x y before after c v None
  to_own : {k : ℕ} → y.own ≡ set x.own k v → after ≡ before → Stores x y before after c v (Some k)

module _ (tree : Tree) (plan : Plan) (place : ℕ) (few : AreFew tree (own_loop tree plan place)) (ps : List Processor) (shared : List ℤ) (size : length shared ≡ cell_count tree) (have : HaveOwn ps) (p : ℕ) (x : Processor) (lt : p < length ps) (read : x ≡ get_or ps p x) where
  pub access_read : (c : ℕ) (o : Option ℕ) → c < cell_count tree → (own_of tree plan place).slot c ≡ o → cell_value (memory_of ps shared) (own_cell (own_of tree plan place) p c) ≡ read_by x shared c o
  access_read c None below at = ap (λ q. cell_value (memory_of ps shared) (at_slot (own_of tree plan place) p c q)) at ∙ shared_value ps shared p x lt read c (omega (arith, below, size))
  access_read c (Some k) below at =
      ap (λ q. cell_value (memory_of ps shared) (at_slot (own_of tree plan place) p c q)) at ∙ own_value ps shared p x lt read (cell_count tree) k have size (slot_small tree plan place c k few at)

  pub access_set : (c : ℕ) (o : Option ℕ) (v : ℤ) (y : Processor) (after : List ℤ) → c < cell_count tree → (own_of tree plan place).slot c ≡ o → Stores x y shared after c v o →
      memory_of (set ps p y) after ≡ set (memory_of ps shared) (own_cell (own_of tree plan place) p c) v
  access_set c None v y after below at (to_shared own is) =
      ap (memory_of (set ps p y)) is ∙ same_shared ∙ sym (ap (λ q. set (memory_of ps shared) (at_slot (own_of tree plan place) p c q) v) at ∙ shared_put ps shared p x lt read c v (omega (arith, below, size)))
    where
      same_shared : memory_of (set ps p y) (set shared c v) ≡ memory_of ps (set shared c v)
      same_shared = same_memory ps (set shared c v) p x lt read y own
  access_set c (Some k) v y after below at (to_own own is) =
      ap (memory_of (set ps p y)) is
      ∙ sym (ap (λ q. set (memory_of ps shared) (at_slot (own_of tree plan place) p c q) v) at ∙ own_set ps shared p x lt read (cell_count tree) k v y have size (slot_small tree plan place c k few at) own)
