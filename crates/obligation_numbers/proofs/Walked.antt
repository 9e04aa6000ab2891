-- One thing more of a walk over the text.
use Rattle.std.proofs.Common.{◌≡◌, ℕ, suc, ◌+◌, ◌<◌, Bool, true, false, List, [], ◌∷◌, ◌++◌, length, map, drop, get_or, if◌then◌else◌, refl, ap, sym, ◌∙◌, arith, length-append}
use Rattle.std.specs.Prelude.{sum_by}
use Rattle.std.specs.List.{flat_map}
use Rattle.std.proofs.lemmas.List.{drop_more}
use Rattle.std.proofs.lemmas.List.Sums.{sum_by-append, sum_by-cons}
use Rattle.nest_tree.specs.declared.tree.Access.{Access}
use Rattle.nest_tree.specs.declared.tree.PrintItem.{PrintItem}
use Rattle.nest_tree.specs.View.{printed_of}
use Rattle.nest_walk.specs.Tables.{Loaded, element, loaded_in_item}
use Rattle.nest_tree.specs.Tree.{Head, Statement, Statements, do_loop, work, continue, done, next}
use Rattle.nest_model.specs.Visits.{stops_in, stops_of}
use Rattle.comm_system.specs.References.{StaticPhase, phases_among, phases_in, variable_of}
use Rattle.obligation_numbers.specs.Sums.{sum_from}
use Rattle.obligation_numbers.proofs.Counted.{sum_mapped}

-- what an assignment's accesses weigh, and a PRINT's
pub assigned : (f : ℕ → Bool → ℕ) (loads : List Access) (target : Access) →
    sum_by (λ (l : Loaded). f (variable_of l) false) (map element loads) + sum_by (λ (a : Access). f a.variable true) (target ∷ []) ≡ sum_by (λ (a : Access). f a.variable false) loads + f target.variable true
assigned f loads target = omega (arith, sum_mapped (λ (l : Loaded). f (variable_of l) false) element loads, sum_by-cons (λ (a : Access). f a.variable true) target [])

pub printed : (f : ℕ → Bool → ℕ) (loads : List Loaded) → sum_by (λ (l : Loaded). f (variable_of l) false) loads + sum_by (λ (a : Access). f a.variable true) [] ≡ sum_by (λ (l : Loaded). f (variable_of l) false) loads
printed f loads = omega arith

-- items of a PRINT, one after another
pub printed_next : (f : Loaded → ℕ) (items : List PrintItem) (i : ℕ) (item : PrintItem) → i < length items → item ≡ get_or items i item →
    sum_by f (flat_map loaded_in_item (map printed_of (drop i items))) ≡ sum_by f (loaded_in_item (printed_of item)) + sum_by f (flat_map loaded_in_item (map printed_of (drop (i + 1) items)))
printed_next f items i item lt is =
    let rest = flat_map loaded_in_item (map printed_of (drop (i + 1) items)) in
    ap (λ xs. sum_by f (flat_map loaded_in_item (map printed_of xs))) (drop_more items i item lt) ∙ sum_by-append f (loaded_in_item (printed_of (get_or items i item))) rest
    ∙ ap (λ x. sum_by f (loaded_in_item (printed_of x)) + sum_by f rest) (sym is)

-- static phases are as many as the stops of their walk
mutual
  phases_counted : (enters : ℕ → Bool) (outer : List Head) (s : Statement) → length (phases_in enters outer s) ≡ stops_in enters s
  phases_counted enters outer (do_loop head body) = by (enters head.number) (all_phases_counted enters (outer ++ head ∷ []) body)
    where
      by : (b : Bool) → length (phases_among enters (outer ++ head ∷ []) body) ≡ stops_of enters body →
          length (if b then phases_among enters (outer ++ head ∷ []) body else record { what = do_loop head body; outer = outer } ∷ []) ≡ (if b then stops_of enters body else 1)
      by true inner = inner
      by false inner = refl
  phases_counted enters outer (work w) = refl
  phases_counted enters outer (continue line) = refl

  all_phases_counted : (enters : ℕ → Bool) (outer : List Head) (ss : Statements) → length (phases_among enters outer ss) ≡ stops_of enters ss
  all_phases_counted enters outer done = refl
  all_phases_counted enters outer (next s rest) =
      let here = phases_counted enters outer s in
      let later = all_phases_counted enters outer rest in
      let both = length-append (phases_in enters outer s) (phases_among enters outer rest) in
      omega (arith, here, later, both)

sum_both : (f : ℕ → StaticPhase → ℕ) (n m : ℕ) (ps qs : List StaticPhase) → n + length ps ≡ m → sum_from f n (ps ++ qs) ≡ sum_from f n ps + sum_from f m qs
sum_both f n m [] qs is = let same : n ≡ m = omega (arith, is) in let all = ap (λ k. sum_from f k qs) same in omega (arith, all)
sum_both f n m (p ∷ ps) qs is =
    let later = sum_both f (suc n) m ps qs (omega (arith, is)) in
    omega (arith, later)

-- those of a statement, and those behind it
pub sum_next : (f : ℕ → StaticPhase → ℕ) (enters : ℕ → Bool) (outer : List Head) (n : ℕ) (s : Statement) (rest : Statements) →
    sum_from f n (phases_among enters outer (next s rest)) ≡ sum_from f n (phases_in enters outer s) + sum_from f (n + stops_in enters s) (phases_among enters outer rest)
sum_next f enters outer n s rest = sum_both f n (n + stops_in enters s) (phases_in enters outer s) (phases_among enters outer rest) (ap (λ k. n + k) (phases_counted enters outer s))
