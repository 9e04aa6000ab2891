-- What a worker sees: loads, stores and PRINTs over its own stores and its own cells.
use mathlib.Core.Logic.{∥∥₁_elim, ∥∥₁_map}
use Rattle.std.proofs.Common.{◌≡◌, ℕ, zero, suc, ◌+◌, ◌<◌, ℤ, List, [], ◌∷◌, ◌++◌, drop, length, set, Some, refl, sym, ◌∙◌, ap, arith}
use Rattle.std.specs.Prelude.{slice_get}
use Rattle.std.proofs.Props.{props}
use Rattle.std.proofs.lemmas.Bool.{le-leb, lt-ltb}
use Rattle.nest_tree.specs.Layout.{cell_count}
use Rattle.nest_tree.specs.Tree.{Tree}
use Rattle.nest_model.specs.Memory.{cell_value}
use Rattle.sync_plan.specs.declared.plan.Plan.{Plan}
use Rattle.spmd_model.specs.Deeds.{Deed, loading, printing, storing}
use Rattle.spmd_model.specs.Acts.{load, print, store}
use Rattle.spmd_model.specs.declared.style.Style.TheVariants.{Arrive}
use Rattle.spmd_model.specs.Protocols.{act_at}
use Rattle.spmd_model.specs.PlanProtocols.{printed_by, registers_by}
use Rattle.fork_join.specs.Joins.{IsAlone, all_deeds, begun, own_place, protocol}
use Rattle.fork_join.specs.Overlays.{laid_in}
use Rattle.fork_join.proofs.Acts.{load_there, print_there, store_there}
use Rattle.fork_join.proofs.Alone.{gives_load, goes_load, goes_print, goes_quiet, goes_store}
use Rattle.fork_join.proofs.Holding.{holds_still, holds_stored}

-- ---- the deed that comes next

pub next_get : (all : List Deed) (n : ℕ) (d : Deed) (rest : List Deed) → drop n all ≡ d ∷ rest → slice_get all n ≡ Some d
next_get [] zero d rest is = absurd (cc)
next_get [] (suc n) d rest is = absurd (cc)
next_get (x ∷ xs) zero d rest is = let e : x ∷ xs ≡ d ∷ rest = is in ap (λ l. slice_get l 0) e
next_get (x ∷ xs) (suc n) d rest is = next_get xs n d rest is

pub next_drop : (all : List Deed) (n : ℕ) (d : Deed) (rest : List Deed) → drop n all ≡ d ∷ rest → drop (n + 1) all ≡ rest
next_drop [] zero d rest is = absurd (cc)
next_drop [] (suc n) d rest is = absurd (cc)
next_drop (x ∷ xs) zero d rest is = let e : x ∷ xs ≡ d ∷ rest = is in ap (drop 1) e
next_drop (x ∷ xs) (suc n) d rest is = let k : suc n + 1 ≡ suc (n + 1) = omega arith in ap (λ j. drop j (x ∷ xs)) k ∙ next_drop xs n d rest is

pub next_left : (all : List Deed) (n : ℕ) (d : Deed) (rest : List Deed) → drop n all ≡ d ∷ rest → drop n all ≡ d ∷ drop (n + 1) all
next_left all n d rest is = is ∙ ap (λ l. d ∷ l) (sym (next_drop all n d rest is))

ints : (xs ys : List ℤ) → IsProp (xs ≡ ys)
ints xs ys = Prim.hlevel props

codes : (xs ys : List ℕ) → IsProp (xs ≡ ys)
codes xs ys = Prim.hlevel props

less : (a b : ℕ) → IsProp (a < b)
less a b = Prim.hlevel props

module _ (tree : Tree) (plan : Plan) (p behind : ℕ) (memory : List ℤ) (stores : List (ℕ × ℤ)) (own : List ℤ) (cells n : ℕ) where
  module _ (a : IsAlone tree plan p behind memory stores own cells n) where
    long : length memory ≡ cell_count tree
    long = a.safe.laws.size memory (begun tree plan behind) a.lawful

    load_at : (c : ℕ) (rest : List Deed) → drop n (all_deeds tree plan p) ≡ loading c ∷ rest → (place : ℕ) × (act_at (protocol tree plan) p n ≡ Some (load place c))
    load_at c rest is = load_there tree plan a.safe p n a.below c (next_get (all_deeds tree plan p) n (loading c) rest is)

    store_at : (c : ℕ) (f : List ℤ → ℤ) (rest : List Deed) → drop n (all_deeds tree plan p) ≡ storing c f ∷ rest → (place : ℕ) × (act_at (protocol tree plan) p n ≡ Some (store place c))
    store_at c f rest is = store_there tree plan a.safe p n a.below c f (next_get (all_deeds tree plan p) n (storing c f) rest is)

    print_at : (f : List ℤ → List ℕ) (rest : List Deed) → drop n (all_deeds tree plan p) ≡ printing f ∷ rest → (place : ℕ) × (act_at (protocol tree plan) p n ≡ Some (print place))
    print_at f rest is = print_there tree plan a.safe p n a.below f (next_get (all_deeds tree plan p) n (printing f) rest is)

    loaded : (c : ℕ) (rest : List Deed) → drop n (all_deeds tree plan p) ≡ loading c ∷ rest → IsAlone tree plan p behind memory stores own cells (n + 1)
    loaded c rest is =
        let l = load_at c rest is in
        record {
          safe = a.safe;
          below = a.below;
          lawful = a.lawful;
          goes = goes_load (protocol tree plan) a.safe.laws p (begun tree plan behind p) a.below stores n a.goes l.0 c l.1;
          holds = holds_still tree plan p n own a.holds (load l.0 c) l.1 refl;
          count = a.count;
        }

    stored_value : (c : ℕ) (v : ℤ) (f : List ℤ → ℤ) (rest : List Deed) → drop n (all_deeds tree plan p) ≡ storing c f ∷ rest → v ≡ f (registers_by Arrive tree plan p n) → v ≡ (protocol tree plan).stored_at p n
    unfolding all_deeds
    stored_value c v f rest is value = value ∙ sym (a.safe.stored p n c f a.below (next_get (all_deeds tree plan p) n (storing c f) rest is))

    stored : (new : List (ℕ × ℤ)) (c : ℕ) (v : ℤ) (f : List ℤ → ℤ) (rest : List Deed) → c < cell_count tree → drop n (all_deeds tree plan p) ≡ storing c f ∷ rest → v ≡ f (registers_by Arrive tree plan p n) → ((cs : List ℤ) → laid_in new cs ≡ set (laid_in stores cs) c v) →
        IsAlone tree plan p behind memory new own cells (n + 1)
    stored new c v f rest small is value laid =
        let s = store_at c f rest is in
        record {
          safe = a.safe;
          below = a.below;
          lawful = a.lawful;
          goes = goes_store (protocol tree plan) a.safe.laws p (begun tree plan behind p) a.below stores n a.goes new s.0 c v s.1 small (stored_value c v f rest is value) laid;
          holds = holds_still tree plan p n own a.holds (store s.0 c) s.1 (lt-ltb c (cell_count tree) small);
          count = a.count;
        }

    kept : (k : ℕ) (v : ℤ) (f : List ℤ → ℤ) (rest : List Deed) → k < length own → drop n (all_deeds tree plan p) ≡ storing (own_place tree p k) f ∷ rest → v ≡ f (registers_by Arrive tree plan p n) → IsAlone tree plan p behind memory stores (set own k v) cells (n + 1)
    kept k v f rest inside is value =
        let s = store_at (own_place tree p k) f rest is in
        record {
          safe = a.safe;
          below = a.below;
          lawful = a.lawful;
          goes = goes_quiet (protocol tree plan) a.safe.laws p (begun tree plan behind p) a.below stores n a.goes (store s.0 (own_place tree p k)) s.1 (le-leb (cell_count tree) (own_place tree p k) (omega arith));
          holds = holds_stored tree plan p n own a.holds s.0 k v s.1 (stored_value (own_place tree p k) v f rest is value) inside;
          count = a.count;
        }

    printed : (f : List ℤ → List ℕ) (rest : List Deed) → drop n (all_deeds tree plan p) ≡ printing f ∷ rest → IsAlone tree plan p behind memory stores own cells (n + 1)
    printed f rest is =
        let l = print_at f rest is in
        record {
          safe = a.safe;
          below = a.below;
          lawful = a.lawful;
          goes = goes_print (protocol tree plan) a.safe.laws p (begun tree plan behind p) a.below stores n a.goes l.0 l.1;
          holds = holds_still tree plan p n own a.holds (print l.0) l.1 refl;
          count = a.count;
        }

  module _ (t : ∥ IsAlone tree plan p behind memory stores own cells n ∥₁) where
    pub inside_cells : (c : ℕ) → c < cell_count tree → c < cells
    inside_cells c small = ∥∥₁_elim t (less c cells) (λ a. let k = a.count in omega (arith, k, small))

    pub inside_memory : (c : ℕ) → c < cell_count tree → c < length memory
    inside_memory c small = ∥∥₁_elim t (less c (length memory)) (λ a. let k = long a in omega (arith, k, small))

    -- a load
    module _ (c : ℕ) (rest : List Deed) (is : drop n (all_deeds tree plan p) ≡ loading c ∷ rest) where
      pub load_alone : ∥ IsAlone tree plan p behind memory stores own cells (n + 1) ∥₁
      load_alone = ∥∥₁_map t (λ a. loaded a c rest is)

      pub load_registers : c < cell_count tree → (v : ℤ) → cell_value (laid_in stores memory) c ≡ v → registers_by Arrive tree plan p (n + 1) ≡ registers_by Arrive tree plan p n ++ v ∷ []
      load_registers small v value = ∥∥₁_elim t (ints (registers_by Arrive tree plan p (n + 1)) (registers_by Arrive tree plan p n ++ v ∷ [])) (λ a.
          let l = load_at a c rest is in
          let gives = gives_load (protocol tree plan) a.safe.laws p (begun tree plan behind p) a.below stores n a.goes memory (begun tree plan behind) l.0 c a.lawful refl l.1 small in
          a.safe.laws.load_appends p n l.0 c l.1 ∙ ap (λ x. registers_by Arrive tree plan p n ++ x ∷ []) (sym gives ∙ value))

      pub own_registers : (k : ℕ) → k < 32 → c ≡ own_place tree p k → (v : ℤ) → cell_value own k ≡ v → registers_by Arrive tree plan p (n + 1) ≡ registers_by Arrive tree plan p n ++ v ∷ []
      own_registers k small place v value = ∥∥₁_elim t (ints (registers_by Arrive tree plan p (n + 1)) (registers_by Arrive tree plan p n ++ v ∷ [])) (λ a.
          let l = load_at a c rest is in
          let act = l.1 ∙ ap (λ (x : ℕ). Some (load l.0 x)) place in
          let gives = a.safe.own p n l.0 (own_place tree p k) (omega arith) act ∙ sym (a.holds k small) in
          a.safe.laws.load_appends p n l.0 (own_place tree p k) act ∙ ap (λ x. registers_by Arrive tree plan p n ++ x ∷ []) (gives ∙ value))

      pub load_printed : printed_by Arrive tree plan p (n + 1) ≡ printed_by Arrive tree plan p n
      load_printed = ∥∥₁_elim t (codes (printed_by Arrive tree plan p (n + 1)) (printed_by Arrive tree plan p n)) (λ a.
          let l = load_at a c rest is in a.safe.laws.printed_leaves p n (load l.0 c) l.1 refl)

    -- a store
    module _ (c : ℕ) (f : List ℤ → ℤ) (rest : List Deed) (is : drop n (all_deeds tree plan p) ≡ storing c f ∷ rest) where
      pub store_alone : c < cell_count tree → (new : List (ℕ × ℤ)) (v : ℤ) → v ≡ f (registers_by Arrive tree plan p n) → ((cs : List ℤ) → laid_in new cs ≡ set (laid_in stores cs) c v) → ∥ IsAlone tree plan p behind memory new own cells (n + 1) ∥₁
      store_alone small new v value laid = ∥∥₁_map t (λ a. stored a new c v f rest small is value laid)

      pub own_alone : (k : ℕ) → c ≡ own_place tree p k → k < length own → (v : ℤ) → v ≡ f (registers_by Arrive tree plan p n) → ∥ IsAlone tree plan p behind memory stores (set own k v) cells (n + 1) ∥₁
      own_alone k place inside v value = ∥∥₁_map t (λ a. kept a k v f rest inside (is ∙ ap (λ (x : ℕ). storing x f ∷ rest) place) value)

      pub store_registers : registers_by Arrive tree plan p (n + 1) ≡ []
      store_registers = ∥∥₁_elim t (ints (registers_by Arrive tree plan p (n + 1)) []) (λ a.
          let l = store_at a c f rest is in a.safe.laws.store_empties p n l.0 c l.1)

      pub store_printed : printed_by Arrive tree plan p (n + 1) ≡ printed_by Arrive tree plan p n
      store_printed = ∥∥₁_elim t (codes (printed_by Arrive tree plan p (n + 1)) (printed_by Arrive tree plan p n)) (λ a.
          let l = store_at a c f rest is in a.safe.laws.printed_leaves p n (store l.0 c) l.1 refl)

    -- a PRINT
    module _ (f : List ℤ → List ℕ) (rest : List Deed) (is : drop n (all_deeds tree plan p) ≡ printing f ∷ rest) where
      pub print_alone : ∥ IsAlone tree plan p behind memory stores own cells (n + 1) ∥₁
      print_alone = ∥∥₁_map t (λ a. printed a f rest is)

      pub print_registers : registers_by Arrive tree plan p (n + 1) ≡ []
      print_registers = ∥∥₁_elim t (ints (registers_by Arrive tree plan p (n + 1)) []) (λ a.
          let l = print_at a f rest is in a.safe.laws.print_empties p n l.0 l.1)

      pub print_printed : printed_by Arrive tree plan p (n + 1) ≡ printed_by Arrive tree plan p n ++ f (registers_by Arrive tree plan p n)
      unfolding all_deeds
      print_printed = ∥∥₁_elim t (codes (printed_by Arrive tree plan p (n + 1)) (printed_by Arrive tree plan p n ++ f (registers_by Arrive tree plan p n))) (λ a.
          a.safe.printed p n f a.below (next_get (all_deeds tree plan p) n (printing f) rest is))
