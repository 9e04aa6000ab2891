-- Trip counts of a program within its limits, and the numbers that they are computed from.
use Rattle.std.proofs.Common.{◌≡◌, ℕ, zero, suc, ◌+◌, ◌/◌, ◌<◌, ◌≤◌, ℤ, pos, negsuc, ◌+ℤ◌, ◌-ℤ◌, neg_ℤ, int_div, nat_lt, Bool, true, false, ◌&&◌, List, [], ◌∷◌, map, unsigned_abs, if◌then◌else◌, refl, sym, ◌∙◌, arith}
use Rattle.std.specs.List.{flat_map, list_all}
use Rattle.std.proofs.Math.Nat.{div-lt_iff_lt-mul}
use Rattle.std.proofs.lemmas.Bool.{and_from, and_parts, leb-true, lt-ltb, ltb-true}
use Rattle.std.proofs.lemmas.Int.{ints}
use Rattle.std.proofs.lemmas.List.Folds.{list_all-append}
use Rattle.nest_tree.specs.Form.{form_value, is_small}
use Rattle.nest_tree.specs.Layout.{count_of}
use Rattle.nest_tree.specs.Limits.{IsWithinLimits}
use Rattle.nest_tree.specs.Tree.{Statement, Statements, do_loop, work, continue, done, next, Tree, param_values}
use Rattle.nest_tree.specs.WellFormed.{IsWellFormed, Scope, are_good_statements, is_good_statement, is_value, loops_in, names_only, scope_of}
use Rattle.nest_tree.proofs.Cells.{well_formed_parts}
use Rattle.nest_tree.proofs.Good.{good_loop}
use Rattle.nest_model.specs.Computed.{computed_at, statement_forms}
use Rattle.nest_model.specs.Instances.{head_trips, no_values, trip_count, with_loop, works_in}
use Rattle.nest_model.specs.Visits.{Visit, stops_in, visits, visits_in, visits_of}
use Rattle.nest_model.proofs.Small.{all_small}
use Rattle.nest_walk.specs.TripNumbers.{fit_trips, fits_at}

-- a loop's step is small and not 0
abbrev has_step : Statement → Bool
has_step (do_loop head body) = nat_lt 0 (unsigned_abs head.step) && is_small head.step
has_step (work w) = true
has_step (continue line) = true

all_of_each : {X : Type 0} (p : Visit → Bool) (f : X → List Visit) (xs : List X) → ((x : X) → list_all p (f x) ≡ true) → list_all p (flat_map f xs) ≡ true
all_of_each p f [] h = refl
all_of_each p f (x ∷ xs) h = list_all-append p (f x) (flat_map f xs) ∙ and_from _ _ (h x) (all_of_each p f xs h)

mutual
  steps_in : (params : List ℤ) (scope : Scope) (around : List ℕ) (number : ℕ) (enters : ℕ → Bool) (s : Statement) (place first : ℕ) (loops : List ℤ) → is_good_statement scope around number s ≡ true → list_all (λ v. has_step v.what) (visits_of params enters s place first loops) ≡ true
  steps_in params scope around number enters (do_loop head body) place first loops good =
      let g = good_loop scope around number head body good in
      let m1 = names_only scope.constants around head.m1 in
      let m2 = names_only scope.constants around head.m2 in
      let last = and_parts (m1 && m2 && nat_lt 0 (unsigned_abs head.step)) (is_small head.step) g.bounds in
      let moves = (and_parts (m1 && m2) (nat_lt 0 (unsigned_abs head.step)) last.0).1 in
      let here : Visit = record { place = place; first = first; what = do_loop head body; loops = loops } in
      let inside = λ (v : ℤ). visits_in params enters body place first (with_loop loops head.number v) in
      elim (enters head.number) as (λ b. list_all (λ v. has_step v.what) (if b then flat_map inside (head_trips params head loops) else here ∷ []) ≡ true) [
        | true ↦ all_of_each (λ v. has_step v.what) inside (head_trips params head loops) (λ v. steps_among params scope (head.number ∷ around) (number + 1) enters body place first (with_loop loops head.number v) g.inside)
        | false ↦ and_from _ _ (and_from _ _ moves last.1) refl
      ]
  steps_in params scope around number enters (work w) place first loops good = refl
  steps_in params scope around number enters (continue line) place first loops good = refl

  steps_among : (params : List ℤ) (scope : Scope) (around : List ℕ) (number : ℕ) (enters : ℕ → Bool) (ss : Statements) (place first : ℕ) (loops : List ℤ) → are_good_statements scope around number ss ≡ true → list_all (λ v. has_step v.what) (visits_in params enters ss place first loops) ≡ true
  steps_among params scope around number enters done place first loops good = refl
  steps_among params scope around number enters (next s rest) place first loops good =
      let both = and_parts (is_good_statement scope around number s) (are_good_statements scope around (number + loops_in s) rest) good in
      list_all-append (λ v. has_step v.what) (visits_of params enters s place first loops) (visits_in params enters rest (place + stops_in enters s) (first + works_in s) loops)
      ∙ and_from _ _ (steps_in params scope around number enters s place first loops both.0) (steps_among params scope around (number + loops_in s) enters rest (place + stops_in enters s) (first + works_in s) loops both.1)

below : (n k : ℕ) → n ≤ 4294967294 + suc k → n / suc k < 4294967296
below n k le = (div-lt_iff_lt-mul (omega arith)).1 (omega (arith, le))

none : (q : ℕ) → count_of (neg_ℤ (pos q)) < 4294967296
none zero = omega arith
none (suc q) = omega arith

-- small bounds and a small step other than 0
trips_fit : (m1 m2 m3 : ℤ) → is_small m1 ≡ true → is_small m2 ≡ true → nat_lt 0 (unsigned_abs m3) ≡ true → is_small m3 ≡ true → fit_trips m1 m2 m3 ≡ true
trips_fit m1 m2 m3 h1 h2 moves h3 =
    let a = leb-true (unsigned_abs m1) 2147483647 h1 in
    let b = leb-true (unsigned_abs m2) 2147483647 h2 in
    let c = leb-true (unsigned_abs m3) 2147483647 h3 in
    let some = ltb-true 0 (unsigned_abs m3) moves in
    and_from _ _ (value_fits (m2 -ℤ m1 +ℤ m3) (omega (arith, ints, a, b, c))) (lt-ltb (trip_count m1 m2 m3) 4294967296 (few (m2 -ℤ m1) m3 some (omega (arith, ints, a, b))))
  where
    value_fits : (z : ℤ) → unsigned_abs z ≤ 6442450941 → is_value z ≡ true
    value_fits z h = grind (arith, ints, h)

    -- a quotient of a difference and a step, and one more
    few : (d m3 : ℤ) → 0 < unsigned_abs m3 → unsigned_abs d ≤ 4294967294 → count_of (int_div (d +ℤ m3) m3) < 4294967296
    few d (pos zero) some near = absurd (omega (arith, some))
    few d (pos (suc k)) some near = by (d +ℤ pos (suc k)) refl
      where
        by : (z : ℤ) → d +ℤ pos (suc k) ≡ z → count_of (int_div z (pos (suc k))) < 4294967296
        by (pos n) e = below n k (omega (arith, ints, e, near))
        by (negsuc n) e = none (suc n / suc k)
    few d (negsuc k) some near = by (d +ℤ negsuc k) refl
      where
        by : (z : ℤ) → d +ℤ negsuc k ≡ z → count_of (int_div z (negsuc k)) < 4294967296
        by (pos n) e = none (n / suc k)
        by (negsuc n) e = below (suc n) k (omega (arith, ints, e, near))

stop_fits : (params : List ℤ) (s : Statement) (loops : List ℤ) → list_all is_small (map (λ f. form_value f loops params) (statement_forms s)) ≡ true → has_step s ≡ true → fits_at params s loops ≡ true
stop_fits params (do_loop head body) loops small step =
    let first = and_parts (is_small (form_value head.m1 loops params)) _ small in
    let second = and_parts (is_small (form_value head.m2 loops params)) _ first.1 in
    let parts = and_parts (nat_lt 0 (unsigned_abs head.step)) (is_small head.step) step in
    trips_fit (form_value head.m1 loops params) (form_value head.m2 loops params) head.step first.0 second.0 parts.0 parts.1
stop_fits params (work w) loops small step = refl
stop_fits params (continue line) loops small step = refl

all_fit : (params : List ℤ) (vs : List Visit) → list_all (λ v. list_all is_small (computed_at params v)) vs ≡ true → list_all (λ v. has_step v.what) vs ≡ true → list_all (λ v. fits_at params v.what v.loops) vs ≡ true
all_fit params [] small steps = refl
all_fit params (v ∷ vs) small steps =
    let s = and_parts (list_all is_small (computed_at params v)) _ small in
    let t = and_parts (has_step v.what) (list_all (λ (w : Visit). has_step w.what) vs) steps in
    let forms = map (λ f. form_value f v.loops params) (statement_forms v.what) in
    let here = and_parts (list_all is_small forms) _ (sym (list_all-append is_small forms _) ∙ s.0) in
    and_from _ _ (stop_fits params v.what v.loops here.0 t.0) (all_fit params vs s.1 t.1)

pub trip_numbers_fit : (tree : Tree) (enters : ℕ → Bool) → IsWellFormed tree → IsWithinLimits tree → list_all (λ (v : Visit). fits_at (param_values tree) v.what v.loops) (visits tree enters) ≡ true
trip_numbers_fit tree enters formed limits =
    all_fit (param_values tree) (visits tree enters) (all_small tree enters formed limits) (steps_among (param_values tree) (scope_of tree) [] 1 enters tree.items 1 1 (no_values tree) (well_formed_parts tree formed).statements)
