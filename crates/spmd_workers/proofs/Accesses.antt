-- The deed that comes next, where a map of deeds has it as the program does.
use Rattle.std.proofs.Common.{◌≡◌, ℕ, ◌+◌, ◌<◌, ℤ, pos, List, [], ◌∷◌, ◌++◌, get_or, map, set, Option, Some, None, sym, ◌∙◌, ap}
use Rattle.nest_tree.specs.Layout.{cell_count}
use Rattle.sync_plan.specs.Own.{at_slot, own_of}
use Rattle.spmd_model.specs.Deeds.{Deed, loading, printing, storing}
use Rattle.turns.specs.TurnsLeft.{turns_place}
use Rattle.turns.specs.declared.turns.Turns.{Turns}
use Rattle.shared_words.specs.Calls.{LoadsNext, StoresNext}
use Rattle.shared_words.specs.Homes.{CellView, Home, gone, loaded_next, protocol_at, stored_next}
use Rattle.spmd_workers.specs.Held.{AreHeld}
use Rattle.fork_join.specs.SeenDeeds.{phase_deed}
use Rattle.spmd_workers.specs.Places.{left_behind, own_place, plan_at, printed_behind, registers_behind, tree_at}
use Rattle.spmd_workers.proofs.ByProgram.{first_of, own_load, own_store}
use Rattle.spmd_workers.proofs.SharedSteps.{load_left, load_printed, load_registers, loads_next, own_load_left, own_load_printed, own_load_registers, own_store_left, own_store_printed, own_store_registers, print_left, print_printed, print_registers, store_left, store_printed, store_registers, store_value, stores_next}

module _ (f : Deed → Deed) (from v : CellView) (held : AreHeld v.home) (below : v.processor < (protocol_at v.home).workers) (own : List ℤ) (n : ℕ) where
  -- behind a load of a cell that all share, and behind one of an own cell
  pub record LoadsShared (cell : ℕ) (rest : List Deed) : Type 0 where
    pub next : LoadsNext v cell
    pub left : map f (left_behind from (gone v) own (n + 1)) ≡ rest
    pub registers : (value : ℤ) → value ≡ loaded_next v → registers_behind (gone v) (n + 1) ≡ registers_behind v n ++ value ∷ []
    pub printed : printed_behind (gone v) (n + 1) ≡ printed_behind v n

  pub loads_shared : (cell : ℕ) (rest : List Deed) → map f (left_behind from v own n) ≡ loading cell ∷ rest → ((d : Deed) → f d ≡ loading cell → (d ≡ loading cell) × (cell < cell_count (tree_at v.home))) → LoadsShared cell rest
  loads_shared cell rest is back =
      let (d, more, first, same, tail) = first_of f (left_behind from v own n) (loading cell) rest is in
      let (deed, shared) = back d same in
      let left : left_behind from v own n ≡ loading cell ∷ more = first ∙ ap (λ z. z ∷ more) deed in
      record {
        next = loads_next from v held below own n more cell left shared;
        left = ap (map f) (load_left from v held below own n more cell left shared) ∙ tail;
        registers = load_registers from v held below own n more cell left shared;
        printed = load_printed from v held below own n more cell left shared;
      }

  pub record LoadsOwn (k : ℕ) (rest : List Deed) : Type 0 where
    pub left : map f (left_behind from v own (n + 1)) ≡ rest
    pub registers : registers_behind v (n + 1) ≡ registers_behind v n ++ get_or own k (pos 0) ∷ []
    pub printed : printed_behind v (n + 1) ≡ printed_behind v n

  pub loads_own : (cell k : ℕ) (rest : List Deed) → k < 32 → map f (left_behind from v own n) ≡ loading cell ∷ rest → ((d : Deed) → f d ≡ loading cell → d ≡ loading (own_place v.home v.processor k)) → LoadsOwn k rest
  loads_own cell k rest small is back =
      let (d, more, first, same, tail) = first_of f (left_behind from v own n) (loading cell) rest is in
      let left : left_behind from v own n ≡ loading (own_place v.home v.processor k) ∷ more = first ∙ ap (λ z. z ∷ more) (back d same) in
      record {
        left = ap (map f) (own_load_left from v held below own n more k small left) ∙ tail;
        registers = own_load_registers from v held below own n more k small left;
        printed = own_load_printed from v held below own n more k small left;
      }

  -- behind a store
  pub record StoresShared (cell : ℕ) (value : List ℤ → ℤ) (rest : List Deed) : Type 0 where
    pub next : StoresNext v cell
    pub stored : (z : ℤ) → z ≡ value (registers_behind v n) → z ≡ stored_next v
    pub left : map f (left_behind from (gone v) own (n + 1)) ≡ rest
    pub registers : registers_behind (gone v) (n + 1) ≡ []
    pub printed : printed_behind (gone v) (n + 1) ≡ printed_behind v n

  pub stores_shared : (cell : ℕ) (value : List ℤ → ℤ) (rest : List Deed) → map f (left_behind from v own n) ≡ storing cell value ∷ rest → ((d : Deed) → f d ≡ storing cell value → (d ≡ storing cell value) × (cell < cell_count (tree_at v.home))) → StoresShared cell value rest
  stores_shared cell value rest is back =
      let (d, more, first, same, tail) = first_of f (left_behind from v own n) (storing cell value) rest is in
      let (deed, shared) = back d same in
      let left : left_behind from v own n ≡ storing cell value ∷ more = first ∙ ap (λ z. z ∷ more) deed in
      record {
        next = stores_next from v held below own n more cell value left shared;
        stored = store_value from v held below own n more cell value left shared;
        left = ap (map f) (store_left from v held below own n more cell value left shared) ∙ tail;
        registers = store_registers from v held below own n more cell value left shared;
        printed = store_printed from v held below own n more cell value left shared;
      }

  pub record StoresOwn (k : ℕ) (value : List ℤ → ℤ) (rest : List Deed) : Type 0 where
    pub left : (z : ℤ) → z ≡ value (registers_behind v n) → map f (left_behind from v (set own k z) (n + 1)) ≡ rest
    pub registers : registers_behind v (n + 1) ≡ []
    pub printed : printed_behind v (n + 1) ≡ printed_behind v n

  pub stores_own : (cell k : ℕ) (value : List ℤ → ℤ) (rest : List Deed) → k < 32 → map f (left_behind from v own n) ≡ storing cell value ∷ rest → ((d : Deed) → f d ≡ storing cell value → d ≡ storing (own_place v.home v.processor k) value) → StoresOwn k value rest
  stores_own cell k value rest small is back =
      let (d, more, first, same, tail) = first_of f (left_behind from v own n) (storing cell value) rest is in
      let left : left_behind from v own n ≡ storing (own_place v.home v.processor k) value ∷ more = first ∙ ap (λ z. z ∷ more) (back d same) in
      record {
        left = λ z is_z. ap (map f) (own_store_left from v held below own n more k small value left z is_z) ∙ tail;
        registers = own_store_registers from v held below own n more k small value left;
        printed = own_store_printed from v held below own n more k small value left;
      }

  -- behind a PRINT
  pub record Prints (line : List ℤ → List ℕ) (rest : List Deed) : Type 0 where
    pub left : map f (left_behind from v own (n + 1)) ≡ rest
    pub registers : registers_behind v (n + 1) ≡ []
    pub printed : printed_behind v (n + 1) ≡ printed_behind v n ++ line (registers_behind v n)

  pub prints : (line : List ℤ → List ℕ) (rest : List Deed) → map f (left_behind from v own n) ≡ printing line ∷ rest → ((d : Deed) → f d ≡ printing line → d ≡ printing line) → Prints line rest
  prints line rest is back =
      let (d, more, first, same, tail) = first_of f (left_behind from v own n) (printing line) rest is in
      let left : left_behind from v own n ≡ printing line ∷ more = first ∙ ap (λ z. z ∷ more) (back d same) in
      record {
        left = ap (map f) (print_left from v held below own n more line left) ∙ tail;
        registers = print_registers from v held below own n more line left;
        printed = print_printed from v held below own n more line left;
      }

-- ---- by the place of a cell among the own scalars

module _ (h : Home) (t : Turns) (p cell : ℕ) (found : Option ℕ) (at : found ≡ (own_of (tree_at h) (plan_at h) (turns_place t)).slot cell) where
  abbrev f : Deed → Deed
  f = phase_deed (tree_at h) (plan_at h) (turns_place t) p

  pub shared_back : found ≡ None → (d : Deed) → f d ≡ loading cell → (d ≡ loading cell) × (cell < cell_count (tree_at h))
  shared_back none d same =
      let (deed, below) = own_load (tree_at h) (plan_at h) (turns_place t) p cell d same in
      (deed ∙ ap (λ o. loading (at_slot (own_of (tree_at h) (plan_at h) (turns_place t)) p cell o)) (sym at ∙ none), below)

  pub own_back : (k : ℕ) → found ≡ Some k → (d : Deed) → f d ≡ loading cell → d ≡ loading (own_place h p k)
  own_back k some d same = (own_load (tree_at h) (plan_at h) (turns_place t) p cell d same).0 ∙ ap (λ o. loading (at_slot (own_of (tree_at h) (plan_at h) (turns_place t)) p cell o)) (sym at ∙ some)

  pub shared_store_back : (value : List ℤ → ℤ) → found ≡ None → (d : Deed) → f d ≡ storing cell value → (d ≡ storing cell value) × (cell < cell_count (tree_at h))
  shared_store_back value none d same =
      let (deed, below) = own_store (tree_at h) (plan_at h) (turns_place t) p cell value d same in
      (deed ∙ ap (λ o. storing (at_slot (own_of (tree_at h) (plan_at h) (turns_place t)) p cell o) value) (sym at ∙ none), below)

  pub own_store_back : (value : List ℤ → ℤ) (k : ℕ) → found ≡ Some k → (d : Deed) → f d ≡ storing cell value → d ≡ storing (own_place h p k) value
  own_store_back value k some d same = (own_store (tree_at h) (plan_at h) (turns_place t) p cell value d same).0 ∙ ap (λ o. storing (at_slot (own_of (tree_at h) (plan_at h) (turns_place t)) p cell o) value) (sym at ∙ some)
