-- Loads, stores, additions and PRINTs through a processor's seat and its own cells.
use Rattle.std.proofs.Common.{◌≡◌, ◌==◌, ◌&&◌, ◌⊎◌, ⊎_elim, ℕ, suc, ◌+◌, ◌<◌, ◌≤◌, nat_le, nat_lt, ℤ, pos, true, List, [], ◌∷◌, ◌++◌, drop, get_or, length, set, Some, refl, sym, ◌∙◌, ap, inl, inr, arith, if◌then◌else◌}
use Rattle.std.specs.Prelude.{slice_get}
use Rattle.std.specs.Cmp.Lexicographic.{pointwise}
use Rattle.std.specs.Cmp.Rules.{signed_items}
use Rattle.std.specs.Ordering.{int_eq}
use Rattle.std.proofs.lemmas.Bool.{and_from, and_parts, cases_Bool, eqb-true, eq-eqb, le-leb, leb-true, lt-ltb, ltb-true, or_left, or_right, or_cases}
use Rattle.std.proofs.lemmas.Option.{slice_get_within}
use Rattle.nest_tree.specs.Layout.{cell_count}
use Rattle.spmd_model.specs.Deeds.{Deed, adding, loading, posting, storing, printing}
use Rattle.spmd_model.specs.Timelines.{signal}
use Rattle.spmd_model.specs.Acts.{add, load, store, print}
use Rattle.spmd_model.specs.Protocols.{act_at}
use Rattle.turns.proofs.CounterLists.{drop_at}
use Rattle.turns.specs.declared.turns.Turns.{Turns}
use Rattle.shared_words.specs.Places.{settled_at}
use Rattle.shared_words.specs.Calls.{AddsNext, LoadsNext, StoresNext}
use Rattle.shared_words.specs.Homes.{CellView, gone, loaded_next, protocol_at, stored_next}
use Rattle.spmd_workers.specs.Held.{AreHeld}
use Rattle.spmd_workers.specs.Legs.{IsFurther, IsSameSeat}
use Rattle.spmd_workers.specs.Places.{deeds_at, held_cells, is_behind, is_on, left_behind, own_place, place_of, printed_behind, registers_behind, tree_at}
use Rattle.spmd_workers.proofs.Acts.{add_stands, add_there, load_passes, load_stands, load_there, print_passes, print_there, store_passes, store_stands, store_there}
use Rattle.spmd_workers.proofs.OwnHeld.{add_keeps, held_there, load_keeps, print_keeps, store_keeps, store_sets}

-- ---- where a seat stands that stood there

pub on_same : (v : CellView) → is_on v v ≡ true
on_same v =
    or_left (v.position == v.position && (v.misses == v.misses && v.seen == v.seen)) (nat_lt v.position v.position && v.misses == 0)
    (and_from (v.position == v.position) (v.misses == v.misses && v.seen == v.seen) (eq-eqb v.position v.position refl) (and_from (v.misses == v.misses) (v.seen == v.seen) (eq-eqb v.misses v.misses refl) (eq-eqb v.seen v.seen refl)))

pub on_is : (from v : CellView) → is_on from v ≡ true → ((v.position ≡ from.position) × (v.misses ≡ from.misses) × (v.seen ≡ from.seen)) ⊎ ((from.position < v.position) × (v.misses ≡ 0))
on_is from v on = ⊎_elim
    (λ stays.
    let both = and_parts (v.position == from.position) (v.misses == from.misses && v.seen == from.seen) stays in
    let polls = and_parts (v.misses == from.misses) (v.seen == from.seen) both.1 in
    inl (eqb-true v.position from.position both.0, eqb-true v.misses from.misses polls.0, eqb-true v.seen from.seen polls.1))
    (λ goes. let both = and_parts (nat_lt from.position v.position) (v.misses == 0) goes in inr (ltb-true from.position v.position both.0, eqb-true v.misses 0 both.1))
    (or_cases (v.position == from.position && (v.misses == from.misses && v.seen == from.seen)) (nat_lt from.position v.position && v.misses == 0) on)

pub on_gone : (from v : CellView) → is_on from v ≡ true → is_on from (gone v) ≡ true
on_gone from v on =
    let low : from.position ≤ v.position = ⊎_elim (λ stays. omega (arith, stays.0)) (λ goes. omega (arith, goes.0)) (on_is from v on) in
    let more : from.position < (gone v).position = omega (arith, low) in
    or_right ((gone v).position == from.position && (0 == from.misses && 0 == from.seen)) (nat_lt from.position (gone v).position && true) (and_from (nat_lt from.position (gone v).position) true (lt-ltb from.position (gone v).position more) refl)

pub on_further : (from v : CellView) → IsSameSeat from v → is_on from v ≡ true → IsFurther from v
on_further from v same on = ⊎_elim (λ stays. inl (λ i. record { home = same.home i; processor = same.processor i; position = stays.0 i; misses = stays.1 i; seen = stays.2 i })) (λ goes. inr goes) (on_is from v on)

-- what is left where the seat and the own cells show so many done
module _ (from v : CellView) (own : List ℤ) (n : ℕ) where
  abbrev all : List Deed
  all = deeds_at v.home v.processor

  pub shown_left : settled_at (protocol_at v.home) v.processor n ≡ v.position → n ≤ length all → is_on from v ≡ true → own ≡ held_cells v.home v.processor n → left_behind from v own n ≡ drop n all
  shown_left is within on holds = ap (λ b. if b then drop n all else posting signal 0 ∷ all)
      (and_from (settled_at (protocol_at v.home) v.processor n == v.position) (nat_le n (length all) && (is_on from v && pointwise int_eq own (held_cells v.home v.processor n))) (eq-eqb (settled_at (protocol_at v.home) v.processor n) v.position is)
      (and_from (nat_le n (length all)) (is_on from v && pointwise int_eq own (held_cells v.home v.processor n)) (le-leb n (length all) within)
      (and_from (is_on from v) (pointwise int_eq own (held_cells v.home v.processor n)) on ((signed_items own (held_cells v.home v.processor n)).1 holds))))

  -- where they show so many, and how many those are
  pub record Shows : Type 0 where
    pub at : settled_at (protocol_at v.home) v.processor n ≡ v.position
    pub within : n ≤ length all
    pub on : is_on from v ≡ true
    pub holds : own ≡ held_cells v.home v.processor n

  shows_of : is_behind from v own n ≡ true → Shows
  shows_of b =
      let one = and_parts (settled_at (protocol_at v.home) v.processor n == v.position) (nat_le n (length all) && (is_on from v && pointwise int_eq own (held_cells v.home v.processor n))) b in
      let two = and_parts (nat_le n (length all)) (is_on from v && pointwise int_eq own (held_cells v.home v.processor n)) one.1 in
      let three = and_parts (is_on from v) (pointwise int_eq own (held_cells v.home v.processor n)) two.1 in
      record {
        at = eqb-true (settled_at (protocol_at v.home) v.processor n) v.position one.0;
        within = leb-true n (length all) two.0;
        on = three.0;
        holds = (signed_items own (held_cells v.home v.processor n)).0 three.1;
      }

  -- no more is left than there is
  pub left_shows : length (left_behind from v own n) ≤ length all → Shows × (left_behind from v own n ≡ drop n all)
  left_shows few = elim (cases_Bool (is_behind from v own n)) [
    | inl shows ↦ (shows_of shows, ap (λ b. if b then drop n all else posting signal 0 ∷ all) shows)
    | inr hides ↦ (let long : length (left_behind from v own n) ≡ suc (length all) = ap (λ b. length (if b then drop n all else posting signal 0 ∷ all)) hides in absurd (omega (arith, long, few)))
  ]

-- behind one deed more
pub further_on : {Y : Type 0} (f : CellView → ℕ → Y) (v new : CellView) (t : Turns) (k more : ℕ) → new ≡ gone v → more ≡ k + 1 → f new (place_of new t + more) ≡ f (gone v) (place_of v t + k + 1)
further_on f v new t k more goes one = (λ i. f (goes i) (place_of (goes i) t + one i)) ∙ ap (f (gone v)) (omega arith)

pub stays_on : {Y : Type 0} (f : CellView → ℕ → Y) (v : CellView) (t : Turns) (k more : ℕ) → more ≡ k + 1 → f v (place_of v t + more) ≡ f v (place_of v t + k + 1)
stays_on f v t k more one = ap (λ j. f v (place_of v t + j)) one ∙ ap (f v) (omega arith)

-- ---- the deed that stands first

-- a seat in front of a deed
pub record Stands (from v : CellView) (own : List ℤ) (n : ℕ) (d : Deed) (rest : List Deed) : Type 0 where
  pub shows : settled_at (protocol_at v.home) v.processor n ≡ v.position
  pub on : is_on from v ≡ true
  pub holds : own ≡ held_cells v.home v.processor n
  pub there : slice_get (deeds_at v.home v.processor) n ≡ Some d
  pub behind : drop (n + 1) (deeds_at v.home v.processor) ≡ rest

pub stands : (from v : CellView) (own : List ℤ) (n : ℕ) (d : Deed) (rest : List Deed) → (d ≡ posting signal 0 → ⊥) → left_behind from v own n ≡ d ∷ rest → Stands from v own n d rest
stands from v own n d rest none is = elim (cases_Bool (is_behind from v own n)) [
  | inl shows ↦
      let at = drop_at (deeds_at v.home v.processor) n d rest (sym (ap (λ b. if b then drop n (deeds_at v.home v.processor) else posting signal 0 ∷ deeds_at v.home v.processor) shows) ∙ is) in
      let shown = shows_of from v own n shows in
      let one : n + 1 ≡ suc n = omega arith in
      record {
        shows = shown.at;
        on = shown.on;
        holds = shown.holds;
        there = at.0;
        behind = ap (λ k. drop k (deeds_at v.home v.processor)) one ∙ at.1;
      }
  | inr hides ↦ (let clash : posting signal 0 ∷ deeds_at v.home v.processor ≡ d ∷ rest = sym (ap (λ b. if b then drop n (deeds_at v.home v.processor) else posting signal 0 ∷ deeds_at v.home v.processor) hides) ∙ is in let same : d ≡ posting signal 0 = cc in absurd (none same))
]

module _ (from v : CellView) (held : AreHeld v.home) (below : v.processor < (protocol_at v.home).workers) (own : List ℤ) (n : ℕ) (rest : List Deed) where
  within_more : (d : Deed) → Stands from v own n d rest → n + 1 ≤ length (deeds_at v.home v.processor)
  within_more d s = let low = slice_get_within (deeds_at v.home v.processor) n d s.there in omega (arith, low)

  -- behind the act that the seat is at, and behind one that nobody else sees
  gone_left : (d : Deed) (after : List ℤ) → Stands from v own n d rest → v.position ≡ n → after ≡ held_cells v.home v.processor (n + 1) → left_behind from (gone v) after (n + 1) ≡ rest
  gone_left d after s here holds = shown_left from (gone v) after (n + 1) (ap (λ k. settled_at (protocol_at v.home) v.processor (k + 1)) (sym here)) (within_more d s) (on_gone from v s.on) holds ∙ s.behind

  stays_left : (d : Deed) (after : List ℤ) → Stands from v own n d rest → settled_at (protocol_at v.home) v.processor n ≡ settled_at (protocol_at v.home) v.processor (n + 1) → after ≡ held_cells v.home v.processor (n + 1) → left_behind from v after (n + 1) ≡ rest
  stays_left d after s passes holds = shown_left from v after (n + 1) (sym passes ∙ s.shows) (within_more d s) s.on holds ∙ s.behind

  module _ (cell : ℕ) (is : left_behind from v own n ≡ loading cell ∷ rest) where
    at_load : Stands from v own n (loading cell) rest
    at_load = stands from v own n (loading cell) rest (λ same. absurd (cc)) is

    pub load_act : (place : ℕ) × (act_at (protocol_at v.home) v.processor n ≡ Some (load place cell))
    load_act = load_there v.home held v.processor below n cell at_load.there

    -- of a cell that all share
    module _ (shared : cell < cell_count (tree_at v.home)) where
      load_here : v.position ≡ n
      load_here = sym at_load.shows ∙ load_stands v.home v.processor n load_act.0 cell shared load_act.1

      pub loads_next : LoadsNext v cell
      loads_next = (load_act.0, ap (act_at (protocol_at v.home) v.processor) load_here ∙ load_act.1)

      pub load_left : left_behind from (gone v) own (n + 1) ≡ rest
      load_left = gone_left (loading cell) own at_load load_here (at_load.holds ∙ sym (load_keeps v.home v.processor n load_act.0 cell load_act.1))

      pub load_registers : (value : ℤ) → value ≡ loaded_next v → registers_behind (gone v) (n + 1) ≡ registers_behind v n ++ value ∷ []
      load_registers value gives = held.laws.load_appends v.processor n load_act.0 cell load_act.1 ∙ ap (λ z. registers_behind v n ++ z ∷ []) (sym (gives ∙ ap ((protocol_at v.home).loaded_at v.processor) load_here))

      pub load_printed : printed_behind (gone v) (n + 1) ≡ printed_behind v n
      load_printed = held.laws.printed_leaves v.processor n (load load_act.0 cell) load_act.1 refl

  -- a load of an own cell
  module _ (k : ℕ) (small : k < 32) (is : left_behind from v own n ≡ loading (own_place v.home v.processor k) ∷ rest) where
    abbrev mine : ℕ
    mine = own_place v.home v.processor k

    its_load : (place : ℕ) × (act_at (protocol_at v.home) v.processor n ≡ Some (load place mine))
    its_load = load_act mine is

    pub own_load_left : left_behind from v own (n + 1) ≡ rest
    own_load_left = stays_left (loading mine) own (at_load mine is) (load_passes v.home v.processor n its_load.0 mine (omega arith) its_load.1) ((at_load mine is).holds ∙ sym (load_keeps v.home v.processor n its_load.0 mine its_load.1))

    pub own_load_registers : registers_behind v (n + 1) ≡ registers_behind v n ++ get_or own k (pos 0) ∷ []
    own_load_registers = held.laws.load_appends v.processor n its_load.0 mine its_load.1
        ∙ ap (λ z. registers_behind v n ++ z ∷ []) (held.own v.processor n its_load.0 mine (omega arith) its_load.1 ∙ sym (ap (λ l. get_or l k (pos 0)) (at_load mine is).holds ∙ held_there v.home v.processor n k small))

    pub own_load_printed : printed_behind v (n + 1) ≡ printed_behind v n
    own_load_printed = held.laws.printed_leaves v.processor n (load its_load.0 mine) its_load.1 refl

  module _ (cell : ℕ) (f : List ℤ → ℤ) (is : left_behind from v own n ≡ storing cell f ∷ rest) where
    at_store : Stands from v own n (storing cell f) rest
    at_store = stands from v own n (storing cell f) rest (λ same. absurd (cc)) is

    pub store_act : (place : ℕ) × (act_at (protocol_at v.home) v.processor n ≡ Some (store place cell))
    store_act = store_there v.home held v.processor below n cell f at_store.there

    -- to a cell that all share
    module _ (shared : cell < cell_count (tree_at v.home)) where
      store_here : v.position ≡ n
      store_here = sym at_store.shows ∙ store_stands v.home v.processor n store_act.0 cell shared store_act.1

      pub stores_next : StoresNext v cell
      stores_next = (store_act.0, ap (act_at (protocol_at v.home) v.processor) store_here ∙ store_act.1)

      pub store_value : (value : ℤ) → value ≡ f (registers_behind v n) → value ≡ stored_next v
      store_value value is_value = is_value ∙ sym (held.stored v.processor n cell f below at_store.there) ∙ ap ((protocol_at v.home).stored_at v.processor) (sym store_here)

      pub store_left : left_behind from (gone v) own (n + 1) ≡ rest
      store_left = gone_left (storing cell f) own at_store store_here (at_store.holds ∙ sym (store_keeps v.home v.processor n store_act.0 cell shared store_act.1))

      pub store_registers : registers_behind (gone v) (n + 1) ≡ []
      store_registers = held.laws.store_empties v.processor n store_act.0 cell store_act.1

      pub store_printed : printed_behind (gone v) (n + 1) ≡ printed_behind v n
      store_printed = held.laws.printed_leaves v.processor n (store store_act.0 cell) store_act.1 refl

  -- a store to an own cell
  module _ (k : ℕ) (small : k < 32) (f : List ℤ → ℤ) (is : left_behind from v own n ≡ storing (own_place v.home v.processor k) f ∷ rest) where
    abbrev to : ℕ
    to = own_place v.home v.processor k

    its_store : (place : ℕ) × (act_at (protocol_at v.home) v.processor n ≡ Some (store place to))
    its_store = store_act to f is

    pub own_store_left : (value : ℤ) → value ≡ f (registers_behind v n) → left_behind from v (set own k value) (n + 1) ≡ rest
    own_store_left value is_value =
        let stored = held.stored v.processor n to f below (at_store to f is).there in
        stays_left (storing to f) (set own k value) (at_store to f is) (store_passes v.home v.processor n its_store.0 to (omega arith) its_store.1)
        ((λ i. set ((at_store to f is).holds i) k ((is_value ∙ sym stored) i)) ∙ sym (store_sets v.home v.processor n its_store.0 k small its_store.1))

    pub own_store_registers : registers_behind v (n + 1) ≡ []
    own_store_registers = held.laws.store_empties v.processor n its_store.0 to its_store.1

    pub own_store_printed : printed_behind v (n + 1) ≡ printed_behind v n
    own_store_printed = held.laws.printed_leaves v.processor n (store its_store.0 to) its_store.1 refl

  -- an addition
  module _ (cell : ℕ) (f : List ℤ → ℤ) (is : left_behind from v own n ≡ adding cell f ∷ rest) where
    at_add : Stands from v own n (adding cell f) rest
    at_add = stands from v own n (adding cell f) rest (λ same. absurd (cc)) is

    add_act : (place : ℕ) × (act_at (protocol_at v.home) v.processor n ≡ Some (add place cell))
    add_act = add_there v.home held v.processor below n cell f at_add.there

    add_here : v.position ≡ n
    add_here = sym at_add.shows ∙ add_stands v.home v.processor n add_act.0 cell add_act.1

    pub adds_next : AddsNext v cell
    adds_next = (add_act.0, ap (act_at (protocol_at v.home) v.processor) add_here ∙ add_act.1)

    pub add_value : (value : ℤ) → value ≡ f (registers_behind v n) → value ≡ stored_next v
    add_value value is_value = is_value ∙ sym (held.added v.processor n cell f below at_add.there) ∙ ap ((protocol_at v.home).stored_at v.processor) (sym add_here)

    pub add_left : left_behind from (gone v) own (n + 1) ≡ rest
    add_left = gone_left (adding cell f) own at_add add_here (at_add.holds ∙ sym (add_keeps v.home v.processor n add_act.0 cell add_act.1))

    pub add_registers : registers_behind (gone v) (n + 1) ≡ []
    add_registers = held.laws.add_empties v.processor n add_act.0 cell add_act.1

    pub add_printed : printed_behind (gone v) (n + 1) ≡ printed_behind v n
    add_printed = held.laws.printed_leaves v.processor n (add add_act.0 cell) add_act.1 refl

  module _ (line : List ℤ → List ℕ) (is : left_behind from v own n ≡ printing line ∷ rest) where
    at_print : Stands from v own n (printing line) rest
    at_print = stands from v own n (printing line) rest (λ same. absurd (cc)) is

    print_act : (place : ℕ) × (act_at (protocol_at v.home) v.processor n ≡ Some (print place))
    print_act = print_there v.home held v.processor below n line at_print.there

    pub print_left : left_behind from v own (n + 1) ≡ rest
    print_left = stays_left (printing line) own at_print (print_passes v.home v.processor n print_act.0 print_act.1) (at_print.holds ∙ sym (print_keeps v.home v.processor n print_act.0 print_act.1))

    pub print_registers : registers_behind v (n + 1) ≡ []
    print_registers = held.laws.print_empties v.processor n print_act.0 print_act.1

    pub print_printed : printed_behind v (n + 1) ≡ printed_behind v n ++ line (registers_behind v n)
    print_printed = held.printed v.processor n line below at_print.there
