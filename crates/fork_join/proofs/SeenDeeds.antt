-- What an instance has of a processor's deeds.
use Rattle.std.proofs.Common.{◌≡◌, ◌==◌, ℕ, ◌+◌, ◌-◌, ◌*◌, ◌<◌, nat_lt, ℤ, pos, Bool, true, false, List, [], ◌∷◌, ◌++◌, append_assoc, drop, map, Option, Some, None, if◌then◌else◌, refl, sym, ◌∙◌, ap, arith}
use Rattle.std.specs.Prelude.{slice_index}
use Rattle.std.specs.List.{All, flat_map}
use Rattle.std.specs.Option.{option_map, option_or, option_to_list}
use Rattle.std.proofs.lemmas.Bool.{and_from, and_parts, eq-eqb, eqb-true, lt-ltb, ltb-true}
use Rattle.std.proofs.lemmas.List.{map-append}
use Rattle.std.proofs.lemmas.List.Elements.{All-cons, All-head, All-nil, All-tail}
use Rattle.std.proofs.lemmas.List.Quantifiers.{position-Some}
use Rattle.nest_tree.specs.Layout.{cell_count, first_cell}
use Rattle.nest_tree.specs.Tree.{Tree}
use Rattle.nest_model.specs.Accesses.{cells_of, loads_of, store_of}
use Rattle.nest_model.specs.Instances.{Instance}
use Rattle.nest_model.specs.Memory.{assigned_value, line_of}
use Rattle.sync_plan.specs.Own.{at_slot, own_cell, own_loop, own_of, place_in}
use Rattle.sync_plan.specs.declared.plan.Plan.{Plan}
use Rattle.own_cells.specs.OwnCells.{AreFew}
use Rattle.spmd_model.specs.Deeds.{Deed, posting, awaiting, loading, storing, adding, printing, instance_deeds, last_deed}
use Rattle.spmd_model.specs.MachineDeeds.{own_deeds}
use Rattle.turns.specs.Turns.{scalar_at}
use Rattle.fork_join.specs.Joins.{own_place}
use Rattle.fork_join.specs.SeenDeeds.{is_seen, no_deed, phase_deed, seen_deed, shared_for}
use Rattle.fork_join.proofs.Seeing.{next_left}

-- the cell of a deed, and what it stores
abbrev cell_in : Deed → ℕ
cell_in (posting word number) = 0
cell_in (awaiting word on wanted) = 0
cell_in (loading cell) = cell
cell_in (storing cell value) = cell
cell_in (adding cell value) = 0
cell_in (printing line) = 0

abbrev value_in : Deed → List ℤ → ℤ
value_in (posting word number) = λ _. pos 0
value_in (awaiting word on wanted) = λ _. pos 0
value_in (loading cell) = λ _. pos 0
value_in (storing cell value) = value
value_in (adding cell value) = λ _. pos 0
value_in (printing line) = λ _. pos 0

-- an instance whose cells are others
abbrev pub job_deeds : (ℕ → ℕ) → Tree → Instance → List Deed
job_deeds to tree i = map loading (map to (loads_of tree i)) ++ last_deed (option_map to (store_of tree i)) false (assigned_value tree i) (line_of tree i) ∷ []

module _ (to from : ℕ → ℕ) (cells : ℕ) where
  abbrev seen : Deed → Deed
  seen = seen_deed to from cells

  -- ---- which deed an instance has

  cell_goes : (cell c : ℕ) → is_seen to from cells cell ≡ true → from cell ≡ c → (cell ≡ to c) × (c < cells)
  cell_goes cell c at same =
      let parts = and_parts (to (from cell) == cell) (nat_lt (from cell) cells) at in
      let lt = ltb-true (from cell) cells parts.1 in
      (sym (eqb-true (to (from cell)) cell parts.0) ∙ ap to same, omega (arith, lt, same))

  seen_load : (d : Deed) (c : ℕ) → seen d ≡ loading c → (d ≡ loading (to c)) × (c < cells)
  seen_load (posting w k) c is = absurd (cc)
  seen_load (awaiting w q k) c is = absurd (cc)
  seen_load (loading cell) c is = by (is_seen to from cells cell) refl
    where
      by : (b : Bool) → is_seen to from cells cell ≡ b → (loading cell ≡ loading (to c)) × (c < cells)
      by true at =
          let shown : loading (from cell) ≡ loading c = sym (ap (λ b. if b then loading (from cell) else no_deed) at) ∙ is in
          let goes = cell_goes cell c at (ap cell_in shown) in
          (ap loading goes.0, goes.1)
      by false at = let clash : no_deed ≡ loading c = sym (ap (λ b. if b then loading (from cell) else no_deed) at) ∙ is in absurd (cc)
  seen_load (storing cell value) c is = by (is_seen to from cells cell) refl
    where
      by : (b : Bool) → is_seen to from cells cell ≡ b → (storing cell value ≡ loading (to c)) × (c < cells)
      by true at = let clash : storing (from cell) value ≡ loading c = sym (ap (λ b. if b then storing (from cell) value else no_deed) at) ∙ is in absurd (cc)
      by false at = let clash : no_deed ≡ loading c = sym (ap (λ b. if b then storing (from cell) value else no_deed) at) ∙ is in absurd (cc)
  seen_load (adding cell value) c is = absurd (cc)
  seen_load (printing line) c is = absurd (cc)

  seen_store : (d : Deed) (c : ℕ) (f : List ℤ → ℤ) → seen d ≡ storing c f → (d ≡ storing (to c) f) × (c < cells)
  seen_store (posting w k) c f is = absurd (cc)
  seen_store (awaiting w q k) c f is = absurd (cc)
  seen_store (loading cell) c f is = by (is_seen to from cells cell) refl
    where
      by : (b : Bool) → is_seen to from cells cell ≡ b → (loading cell ≡ storing (to c) f) × (c < cells)
      by true at = let clash : loading (from cell) ≡ storing c f = sym (ap (λ b. if b then loading (from cell) else no_deed) at) ∙ is in absurd (cc)
      by false at = let clash : no_deed ≡ storing c f = sym (ap (λ b. if b then loading (from cell) else no_deed) at) ∙ is in absurd (cc)
  seen_store (storing cell value) c f is = by (is_seen to from cells cell) refl
    where
      by : (b : Bool) → is_seen to from cells cell ≡ b → (storing cell value ≡ storing (to c) f) × (c < cells)
      by true at =
          let shown : storing (from cell) value ≡ storing c f = sym (ap (λ b. if b then storing (from cell) value else no_deed) at) ∙ is in
          let goes = cell_goes cell c at (ap cell_in shown) in
          (ap (λ x. storing x value) goes.0 ∙ ap (storing (to c)) (ap value_in shown), goes.1)
      by false at = let clash : no_deed ≡ storing c f = sym (ap (λ b. if b then storing (from cell) value else no_deed) at) ∙ is in absurd (cc)
  seen_store (adding cell value) c f is = absurd (cc)
  seen_store (printing line) c f is = absurd (cc)

  seen_print : (d : Deed) (f : List ℤ → List ℕ) → seen d ≡ printing f → d ≡ printing f
  seen_print (posting w k) f is = absurd (cc)
  seen_print (awaiting w q k) f is = absurd (cc)
  seen_print (loading cell) f is = by (is_seen to from cells cell) refl
    where
      by : (b : Bool) → is_seen to from cells cell ≡ b → loading cell ≡ printing f
      by true at = let clash : loading (from cell) ≡ printing f = sym (ap (λ b. if b then loading (from cell) else no_deed) at) ∙ is in absurd (cc)
      by false at = let clash : no_deed ≡ printing f = sym (ap (λ b. if b then loading (from cell) else no_deed) at) ∙ is in absurd (cc)
  seen_print (storing cell value) f is = by (is_seen to from cells cell) refl
    where
      by : (b : Bool) → is_seen to from cells cell ≡ b → storing cell value ≡ printing f
      by true at = let clash : storing (from cell) value ≡ printing f = sym (ap (λ b. if b then storing (from cell) value else no_deed) at) ∙ is in absurd (cc)
      by false at = let clash : no_deed ≡ printing f = sym (ap (λ b. if b then storing (from cell) value else no_deed) at) ∙ is in absurd (cc)
  seen_print (adding cell value) f is = absurd (cc)
  seen_print (printing line) f is = is

  -- ---- the first of those that are left

  pub next_load : (ds : List Deed) (c : ℕ) (rest : List Deed) → map seen ds ≡ loading c ∷ rest → (more : List Deed) × (ds ≡ loading (to c) ∷ more) × (c < cells)
  next_load [] c rest is = absurd (cc)
  next_load (d ∷ ds) c rest is = let first : seen d ≡ loading c = cc in let s = seen_load d c first in (ds, ap (λ x. x ∷ ds) s.0, s.1)

  pub next_store : (ds : List Deed) (c : ℕ) (f : List ℤ → ℤ) (rest : List Deed) → map seen ds ≡ storing c f ∷ rest → (more : List Deed) × (ds ≡ storing (to c) f ∷ more) × (c < cells)
  next_store [] c f rest is = absurd (cc)
  next_store (d ∷ ds) c f rest is = let first : seen d ≡ storing c f = cc in let s = seen_store d c f first in (ds, ap (λ x. x ∷ ds) s.0, s.1)

  pub next_print : (ds : List Deed) (f : List ℤ → List ℕ) (rest : List Deed) → map seen ds ≡ printing f ∷ rest → (more : List Deed) × (ds ≡ printing f ∷ more)
  next_print [] f rest is = absurd (cc)
  next_print (d ∷ ds) f rest is = let first : seen d ≡ printing f = cc in (ds, ap (λ x. x ∷ ds) (seen_print d f first))

  -- and what is left behind it
  pub seen_left : (all : List Deed) (n : ℕ) (d x : Deed) (rest more : List Deed) → drop n all ≡ d ∷ rest → map seen (drop n all) ≡ x ∷ more → map seen (drop n all) ≡ x ∷ map seen (drop (n + 1) all)
  seen_left all n d x rest more is shown =
      let here = next_left all n d rest is in
      let both : seen d ∷ map seen (drop (n + 1) all) ≡ x ∷ more = sym (ap (map seen) here) ∙ shown in
      let first : seen d ≡ x = cc in
      ap (map seen) here ∙ ap (λ y. y ∷ map seen (drop (n + 1) all)) first

  -- ---- instances

  module _ (back : (c : ℕ) → c < cells → from (to c) ≡ c) where
    shown_cell : (c : ℕ) → c < cells → is_seen to from cells (to c) ≡ true
    shown_cell c lt =
        let same = back c lt in
        and_from (to (from (to c)) == to c) (nat_lt (from (to c)) cells) (eq-eqb (to (from (to c))) (to c) (ap to same)) (lt-ltb (from (to c)) cells (omega (arith, same, lt)))

    front_of : (xs ys : List ℕ) → All (λ c. c < cells) (xs ++ ys) → All (λ c. c < cells) xs
    front_of [] ys all = All-nil (λ c. c < cells)
    front_of (x ∷ xs) ys all = All-cons (λ c. c < cells) x xs (All-head (λ c. c < cells) x (xs ++ ys) all) (front_of xs ys (All-tail (λ c. c < cells) x (xs ++ ys) all))

    back_of : (xs ys : List ℕ) → All (λ c. c < cells) (xs ++ ys) → All (λ c. c < cells) ys
    back_of [] ys all = all
    back_of (x ∷ xs) ys all = back_of xs ys (All-tail (λ c. c < cells) x (xs ++ ys) all)

    shown_loads : (cs : List ℕ) → All (λ c. c < cells) cs → map seen (map loading (map to cs)) ≡ map loading cs
    shown_loads [] there = refl
    shown_loads (c ∷ cs) there =
        let lt = All-head (λ c. c < cells) c cs there in
        ap (λ b. (if b then loading (from (to c)) else no_deed) ∷ map seen (map loading (map to cs))) (shown_cell c lt)
        ∙ ap (λ x. loading x ∷ map seen (map loading (map to cs))) (back c lt)
        ∙ ap (λ l. loading c ∷ l) (shown_loads cs (All-tail (λ c. c < cells) c cs there))

    shown_last : (o : Option ℕ) (value : List ℤ → ℤ) (line : List ℤ → List ℕ) → All (λ c. c < cells) (option_to_list o) → seen (last_deed (option_map to o) false value line) ≡ last_deed o false value line
    shown_last None value line there = refl
    shown_last (Some c) value line there =
        let lt = All-head (λ c. c < cells) c [] there in
        ap (λ b. if b then storing (from (to c)) value else no_deed) (shown_cell c lt) ∙ ap (λ x. storing x value) (back c lt)

    shown_job : (tree : Tree) (i : Instance) → All (λ c. c < cells) (cells_of tree i) → map seen (job_deeds to tree i) ≡ instance_deeds tree i
    shown_job tree i there =
        let last = last_deed (option_map to (store_of tree i)) false (assigned_value tree i) (line_of tree i) in
        map-append seen (map loading (map to (loads_of tree i))) (last ∷ [])
        ∙ ap (λ l. l ++ seen last ∷ []) (shown_loads (loads_of tree i) (front_of (loads_of tree i) (option_to_list (store_of tree i)) there))
        ∙ ap (λ d. map loading (loads_of tree i) ++ d ∷ []) (shown_last (store_of tree i) (assigned_value tree i) (line_of tree i) (back_of (loads_of tree i) (option_to_list (store_of tree i)) there))

    -- so many instances stand first
    pub shown_instances : (tree : Tree) (is : List Instance) (rest : List Deed) → All (λ i. All (λ c. c < cells) (cells_of tree i)) is →
        map seen (flat_map (job_deeds to tree) is ++ rest) ≡ flat_map (instance_deeds tree) is ++ map seen rest
    shown_instances tree [] rest there = refl
    shown_instances tree (i ∷ is) rest there =
        let here = All-head (λ i. All (λ c. c < cells) (cells_of tree i)) i is there in
        let later = flat_map (job_deeds to tree) is ++ rest in
        ap (map seen) (append_assoc (job_deeds to tree i) (flat_map (job_deeds to tree) is) rest)
        ∙ map-append seen (job_deeds to tree i) later
        ∙ ap (λ l. l ++ map seen later) (shown_job tree i here)
        ∙ ap (λ l. instance_deeds tree i ++ l) (shown_instances tree is rest (All-tail (λ i. All (λ c. c < cells) (cells_of tree i)) i is there))
        ∙ sym (append_assoc (instance_deeds tree i) (flat_map (instance_deeds tree) is) (map seen rest))

-- ---- in a phase

-- a place from 16 on
not_low : (n : ℕ) → nat_lt (16 + n) 16 ≡ false
not_low n = by (nat_lt (16 + n) 16) refl
  where
    by : (b : Bool) → nat_lt (16 + n) 16 ≡ b → b ≡ false
    by true at = absurd (let lt = ltb-true (16 + n) 16 at in omega (arith, lt))
    by false at = refl

not_there : (cells n : ℕ) → nat_lt (cells + n) cells ≡ false
not_there cells n = by (nat_lt (cells + n) cells) refl
  where
    by : (b : Bool) → nat_lt (cells + n) cells ≡ b → b ≡ false
    by true at = absurd (let lt = ltb-true (cells + n) cells at in omega (arith, lt))
    by false at = refl

module _ (tree : Tree) (plan : Plan) (place p : ℕ) (few : AreFew tree (own_loop tree plan place)) where
  -- back from an own cell
  back_own : (k : ℕ) → shared_for tree plan place p (own_place tree p k) ≡ first_cell tree (scalar_at (own_loop tree plan place) k)
  back_own k =
      let cell = own_place tree p k in
      let index : cell_count tree + (32 * p + k) - cell_count tree - 32 * p ≡ k = omega arith in
      ap (λ b. if b then cell else first_cell tree (scalar_at (own_loop tree plan place) (cell - cell_count tree - 32 * p))) (not_there (cell_count tree) (32 * p + k))
      ∙ ap (λ j. first_cell tree (scalar_at (own_loop tree plan place) j)) index

  -- the slot of a cell, if it has one, is small, and its scalar has the cell
  slot_there : (c k : ℕ) → (own_of tree plan place).slot c ≡ Some k → (k < 32) × (first_cell tree (scalar_at (own_loop tree plan place) k) ≡ c)
  slot_there c k at = by (place_in tree (own_loop tree plan place).privates c) refl (place_in tree (own_loop tree plan place).sums c) refl at
    where
      by : (x : Option ℕ) → place_in tree (own_loop tree plan place).privates c ≡ x → (y : Option ℕ) → place_in tree (own_loop tree plan place).sums c ≡ y → option_or x (option_map (λ n. 16 + n) y) ≡ Some k →
          (k < 32) × (first_cell tree (scalar_at (own_loop tree plan place) k) ≡ c)
      by (Some n) hx y hy e =
          let both : Some n ≡ Some k = e in
          let same : n ≡ k = cc in
          let there = position-Some (λ u. first_cell tree u == c) (own_loop tree plan place).privates n 0 hx in
          let low : n < 16 = (let lt = there.0 in let most = few.privates in omega (arith, lt, most)) in (
            omega (arith, same, low),
            ap (λ j. first_cell tree (scalar_at (own_loop tree plan place) j)) (sym same)
                ∙ ap (λ b. first_cell tree (if b then slice_index (own_loop tree plan place).privates n else slice_index (own_loop tree plan place).sums (n - 16))) (lt-ltb n 16 low)
                ∙ eqb-true (first_cell tree (slice_index (own_loop tree plan place).privates n)) c there.1,
          )
      by None hx (Some n) hy e =
          let both : Some (16 + n) ≡ Some k = e in
          let same : 16 + n ≡ k = cc in
          let there = position-Some (λ u. first_cell tree u == c) (own_loop tree plan place).sums n 0 hy in
          let less : 16 + n - 16 ≡ n = omega arith in (
            (let lt = there.0 in let most = few.sums in omega (arith, same, lt, most)),
            ap (λ j. first_cell tree (scalar_at (own_loop tree plan place) j)) (sym same)
                ∙ ap (λ b. first_cell tree (if b then slice_index (own_loop tree plan place).privates (16 + n) else slice_index (own_loop tree plan place).sums (16 + n - 16))) (not_low n)
                ∙ ap (λ j. first_cell tree (slice_index (own_loop tree plan place).sums j)) less
                ∙ eqb-true (first_cell tree (slice_index (own_loop tree plan place).sums n)) c there.1,
          )
      by None hx None hy e = absurd (let clash : None ≡ Some k = e in cc)

  back_from : (c : ℕ) → c < cell_count tree → shared_for tree plan place p (own_cell (own_of tree plan place) p c) ≡ c
  back_from c lt = by ((own_of tree plan place).slot c) refl
    where
      by : (o : Option ℕ) → (own_of tree plan place).slot c ≡ o → shared_for tree plan place p (own_cell (own_of tree plan place) p c) ≡ c
      by None at =
          ap (λ q. shared_for tree plan place p (at_slot (own_of tree plan place) p c q)) at
          ∙ ap (λ b. if b then c else first_cell tree (scalar_at (own_loop tree plan place) (c - cell_count tree - 32 * p))) (lt-ltb c (cell_count tree) lt)
      by (Some k) at = ap (λ q. shared_for tree plan place p (at_slot (own_of tree plan place) p c q)) at ∙ back_own k ∙ (slot_there c k at).1

  pub visit_instances : (is : List Instance) (rest : List Deed) → All (λ i. All (λ c. c < cell_count tree) (cells_of tree i)) is →
      map (phase_deed tree plan place p) (flat_map (own_deeds tree (own_of tree plan place) p) is ++ rest) ≡ flat_map (instance_deeds tree) is ++ map (phase_deed tree plan place p) rest
  visit_instances is rest there = shown_instances (own_cell (own_of tree plan place) p) (shared_for tree plan place p) (cell_count tree) back_from tree is rest there

  -- where an access goes
  pub slot_small : (c k : ℕ) → Some k ≡ (own_of tree plan place).slot c → k < 32
  slot_small c k at = (slot_there c k (sym at)).0

pub goes_own : (tree : Tree) (plan : Plan) (place p c k : ℕ) → Some k ≡ (own_of tree plan place).slot c → own_cell (own_of tree plan place) p c ≡ own_place tree p k
goes_own tree plan place p c k at = ap (at_slot (own_of tree plan place) p c) (sym at)

pub goes_shared : (tree : Tree) (plan : Plan) (place p c : ℕ) → None ≡ (own_of tree plan place).slot c → own_cell (own_of tree plan place) p c ≡ c
goes_shared tree plan place p c at = ap (at_slot (own_of tree plan place) p c) (sym at)
