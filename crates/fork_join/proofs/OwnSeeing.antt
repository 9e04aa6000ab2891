-- What an instance of a phase sees.
use mathlib.Core.Logic.{∥∥₁_elim}
use Rattle.std.proofs.Common.{◌≡◌, ℕ, ℤ, ◌+◌, ◌<◌, List, [], ◌∷◌, drop, map, Option, Some, None, sym, ◌∙◌, ap, subst}
use Rattle.std.proofs.Props.{props}
use Rattle.nest_tree.specs.Layout.{cell_count}
use Rattle.nest_tree.specs.Tree.{Tree}
use Rattle.sync_plan.specs.Own.{OwnLoop, own_cell, own_loop, own_of}
use Rattle.sync_plan.specs.declared.plan.Plan.{Plan}
use Rattle.own_cells.specs.OwnCells.{AreFew, AreOwnCells}
use Rattle.own_cells.specs.declared.cells.OwnCells.{OwnCells}
use Rattle.turns.specs.TurnsLeft.{turns_own, turns_place}
use Rattle.spmd_model.specs.MachineDeeds.{HasNoOwn}
use Rattle.turns.specs.CounterTurns.{CounterTurn}
use Rattle.instance_runs.specs.declared.execute.Executor.{Executor}
use Rattle.spmd_model.specs.Deeds.{Deed, loading, printing, storing}
use Rattle.fork_join.specs.Cursors.{cursor_plan, cursor_tree}
use Rattle.fork_join.specs.Joins.{own_place}
use Rattle.fork_join.specs.SeenDeeds.{FindsOwn, phase_deed, shared_for}
use Rattle.fork_join.specs.Workers.{Runs}
use Rattle.fork_join.specs.declared.cursor.Cursor.{Cursor}
use Rattle.fork_join.proofs.SeenDeeds.{goes_own, goes_shared, next_load, next_print, next_store, seen_left, slot_small}

same_slot : (a b : Option ℕ) → IsProp (a ≡ b)
same_slot a b = Prim.hlevel props

less : (a b : ℕ) → IsProp (a < b)
less a b = Prim.hlevel props

-- ---- what is known of own scalars

module _ (tree : Tree) (plan : Plan) (p : ℕ) (left : List CounterTurn) (done : ℕ) (c : Cursor) (x : Executor) (r : Runs tree plan p left done c x) where
  abbrev Both : Type 0
  Both = Tree × Plan

  both_is : ◌≡◌ {A = Both} (cursor_tree c, cursor_plan c) (tree, plan)
  both_is = λ i. (r.program i, r.plan_is i)

  pub few_here : AreFew tree (own_loop tree plan (turns_place c.turns))
  few_here = subst (λ (z : Both). AreFew z.0 (own_loop z.0 z.1 (turns_place c.turns))) both_is r.sound.sound.own.few

  pub cells_here : AreOwnCells tree (own_loop tree plan (turns_place c.turns)) (turns_own c.turns)
  cells_here = subst (λ (z : Both). AreOwnCells z.0 (own_loop z.0 z.1 (turns_place c.turns)) (turns_own c.turns)) both_is r.sound.sound.own.cells

  -- a phase where none is found has none
  pub none_found : (own : OwnCells) → own ≡ turns_own c.turns → ((tr : Tree) → (lo : OwnLoop) → AreOwnCells tr lo own → (lo.privates ≡ []) × (lo.sums ≡ [])) → HasNoOwn tree plan (turns_place c.turns)
  none_found own is found =
      let none = found tree (own_loop tree plan (turns_place c.turns)) (subst (AreOwnCells tree (own_loop tree plan (turns_place c.turns))) (sym is) cells_here) in
      record { privates = none.0; sums = none.1 }

module _ (tree : Tree) (plan : Plan) (place cell : ℕ) (fits : Tree → Plan → ℕ → Type 0) (t : ∥ FindsOwn tree plan place fits ∥₁) where
  -- the slot that is found for a cell is its own
  pub slot_found : (o : Option ℕ) → ((tr : Tree) → (pl : Plan) → (k : ℕ) → fits tr pl k → o ≡ (own_of tr pl k).slot cell) → o ≡ (own_of tree plan place).slot cell
  slot_found o found = ∥∥₁_elim t (same_slot o ((own_of tree plan place).slot cell)) (λ h. found tree plan place h.fit)

  pub small_found : (k : ℕ) → Some k ≡ (own_of tree plan place).slot cell → k < 32
  small_found k at = ∥∥₁_elim t (less k 32) (λ h. slot_small tree plan place 0 h.few cell k at)

-- ---- which deed comes next

module _ (tree : Tree) (plan : Plan) (place p : ℕ) where
  module _ (ds rest : List Deed) (cell : ℕ) (is : map (phase_deed tree plan place p) ds ≡ loading cell ∷ rest) where
    load_goes : (more : List Deed) × (ds ≡ loading (own_cell (own_of tree plan place) p cell) ∷ more) × (cell < cell_count tree)
    load_goes = next_load (own_cell (own_of tree plan place) p) (shared_for tree plan place p) (cell_count tree) ds cell rest is

    pub load_own_next : (k : ℕ) → Some k ≡ (own_of tree plan place).slot cell → (more : List Deed) × (ds ≡ loading (own_place tree p k) ∷ more)
    load_own_next k at = let s = load_goes in (s.0, s.1 ∙ ap (λ (x : ℕ). loading x ∷ s.0) (goes_own tree plan place p cell k at))

    pub load_shared_next : None ≡ (own_of tree plan place).slot cell → (more : List Deed) × (ds ≡ loading cell ∷ more)
    load_shared_next at = let s = load_goes in (s.0, s.1 ∙ ap (λ (x : ℕ). loading x ∷ s.0) (goes_shared tree plan place p cell at))

    pub load_below : cell < cell_count tree
    load_below = load_goes.2

  module _ (ds rest : List Deed) (cell : ℕ) (f : List ℤ → ℤ) (is : map (phase_deed tree plan place p) ds ≡ storing cell f ∷ rest) where
    store_goes : (more : List Deed) × (ds ≡ storing (own_cell (own_of tree plan place) p cell) f ∷ more) × (cell < cell_count tree)
    store_goes = next_store (own_cell (own_of tree plan place) p) (shared_for tree plan place p) (cell_count tree) ds cell f rest is

    pub store_own_next : (k : ℕ) → Some k ≡ (own_of tree plan place).slot cell → (more : List Deed) × (ds ≡ storing (own_place tree p k) f ∷ more)
    store_own_next k at = let s = store_goes in (s.0, s.1 ∙ ap (λ (x : ℕ). storing x f ∷ s.0) (goes_own tree plan place p cell k at))

    pub store_shared_next : None ≡ (own_of tree plan place).slot cell → (more : List Deed) × (ds ≡ storing cell f ∷ more)
    store_shared_next at = let s = store_goes in (s.0, s.1 ∙ ap (λ (x : ℕ). storing x f ∷ s.0) (goes_shared tree plan place p cell at))

    pub store_below : cell < cell_count tree
    store_below = store_goes.2

  pub print_next : (ds rest : List Deed) (f : List ℤ → List ℕ) → map (phase_deed tree plan place p) ds ≡ printing f ∷ rest → (more : List Deed) × (ds ≡ printing f ∷ more)
  print_next ds rest f is = next_print (own_cell (own_of tree plan place) p) (shared_for tree plan place p) (cell_count tree) ds f rest is

  -- and what is left behind it
  pub phase_left : (all : List Deed) (n : ℕ) (d x : Deed) (more rest : List Deed) → drop n all ≡ d ∷ more → map (phase_deed tree plan place p) (drop n all) ≡ x ∷ rest → map (phase_deed tree plan place p) (drop n all) ≡ x ∷ map (phase_deed tree plan place p) (drop (n + 1) all)
  phase_left all n d x more rest is shown = seen_left (own_cell (own_of tree plan place) p) (shared_for tree plan place p) (cell_count tree) all n d x more rest is shown
