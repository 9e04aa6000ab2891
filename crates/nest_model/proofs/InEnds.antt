-- At each stop of a walk the loops' values lie in the intervals of the loops round it.
use Rattle.std.proofs.Common.{◌≡◌, ℕ, suc, ◌+◌, ◌-◌, ◌<◌, ◌≤◌, ℤ, pos, ◌+ℤ◌, ◌*ℤ◌, ◌≤ℤ◌, Bool, true, false, int_le, List, [], ◌∷◌, ◌++◌, length, length-append, get_or, if◌then◌else◌, refl, ap, ◌∙◌, subst, arith}
use Rattle.std.specs.List.{flat_map, list_all}
use Rattle.std.proofs.lemmas.Bool.{and_from, and_parts}
use Rattle.std.proofs.lemmas.Int.{ints}
use Rattle.std.proofs.lemmas.List.{get_or_append_left, get_or-append-add, length-replicate, length-set}
use Rattle.std.proofs.lemmas.List.Folds.{list_all-append}
use Rattle.nest_tree.specs.Form.{form_value}
use Rattle.nest_tree.specs.Intervals.{head_interval, with_ends}
use Rattle.nest_tree.specs.Layout.{are_inside}
use Rattle.nest_tree.specs.Limits.{no_ends}
use Rattle.nest_tree.specs.Tree.{Statement, Statements, do_loop, work, continue, done, next, Tree, param_values}
use Rattle.nest_tree.specs.WellFormed.{IsWellFormed, Scope, are_good_statements, is_good_statement, loops_in, loops_of, scope_of}
use Rattle.nest_tree.proofs.Cells.{well_formed_parts}
use Rattle.nest_tree.proofs.Good.{good_loop}
use Rattle.nest_model.specs.Instances.{head_trips, no_values, trip_count, with_loop, works_in}
use Rattle.nest_model.specs.StopEnds.{is_in_its_ends, stop_ends, stop_ends_in, stop_ends_of}
use Rattle.nest_model.specs.Visits.{Visit, stops_in, stops_of, visits, visits_in, visits_of}
use Rattle.nest_model.proofs.Spans.{all_trips}
use Rattle.nest_model.proofs.Small.{list_all-flat_map}
use Rattle.nest_model.proofs.Stops.{at_start, good_trips}
use Rattle.nest_model.proofs.Within.{Between, IsInEnds, in_ends-step}

int_le-from : (a b : ℤ) → a ≤ℤ b → int_le a b ≡ true
int_le-from a b h = grind (arith, ints)

inside_from : (ends : List (ℤ × ℤ)) (loops : List ℤ) → ((n : ℕ) → Between (get_or ends n (pos 0, pos 0)) (get_or loops n (pos 0))) → are_inside ends loops ≡ true
inside_from [] loops h = refl
inside_from (e ∷ ends) [] h = refl
inside_from (e ∷ ends) (v ∷ loops) h =
    let here = h 0 in
    let low : int_le e.0 v ≡ true = int_le-from e.0 v here.low in
    let high : int_le v e.1 ≡ true = int_le-from v e.1 here.high in
    and_from _ _ (and_from _ _ low high) (inside_from ends loops (λ n. h (suc n)))

-- each stop has its intervals
mutual
  ends_in-length : (params : List ℤ) (enters : ℕ → Bool) (ends : List (ℤ × ℤ)) (s : Statement) → length (stop_ends_in params enters ends s) ≡ stops_in enters s
  ends_in-length params enters ends (do_loop head body) =
      let inner = with_ends ends head.number (head_interval params ends head) in
      elim (enters head.number) as (λ b. length (if b then stop_ends_of params enters inner body else ends ∷ []) ≡ (if b then stops_of enters body else 1)) [
        | true ↦ ends_of-length params enters inner body
        | false ↦ omega arith
      ]
  ends_in-length params enters ends (work w) = omega arith
  ends_in-length params enters ends (continue line) = refl

  ends_of-length : (params : List ℤ) (enters : ℕ → Bool) (ends : List (ℤ × ℤ)) (ss : Statements) → length (stop_ends_of params enters ends ss) ≡ stops_of enters ss
  ends_of-length params enters ends done = refl
  ends_of-length params enters ends (next s rest) =
      omega (arith, ends_in-length params enters ends s, ends_of-length params enters ends rest, length-append (stop_ends_in params enters ends s) (stop_ends_of params enters ends rest))

-- these stand in the list from this place on
abbrev StandsAt : List (List (ℤ × ℤ)) → ℕ → List (List (ℤ × ℤ)) → Type 0
StandsAt all k xs = (j : ℕ) → j < length xs → get_or all (k + j) [] ≡ get_or xs j []

stands-front : (all : List (List (ℤ × ℤ))) (k : ℕ) (xs ys : List (List (ℤ × ℤ))) → StandsAt all k (xs ++ ys) → StandsAt all k xs
stands-front all k xs ys h j lt = h j (omega (arith, lt, length-append xs ys)) ∙ get_or_append_left xs ys [] j lt

stands-back : (all : List (List (ℤ × ℤ))) (k : ℕ) (xs ys : List (List (ℤ × ℤ))) → StandsAt all k (xs ++ ys) → StandsAt all (k + length xs) ys
stands-back all k xs ys h j lt =
    ap (λ n. get_or all n []) (omega arith) ∙ h (length xs + j) (omega (arith, lt, length-append xs ys)) ∙ get_or-append-add xs ys j []

abbrev are_in_ends : List (List (ℤ × ℤ)) → List Visit → Bool
are_in_ends all vs = list_all (is_in_its_ends all) vs

one_stop : (all : List (List (ℤ × ℤ))) (ends : List (ℤ × ℤ)) (v : Visit) → 1 ≤ v.place → IsInEnds ends v.loops → StandsAt all (v.place - 1) (ends ∷ []) → are_in_ends all (v ∷ []) ≡ true
one_stop all ends v low h stands =
    let at : get_or all (v.place - 1) [] ≡ ends = ap (λ n. get_or all n []) (omega arith) ∙ stands 0 (omega arith) in
    and_from _ _ (ap (λ es. are_inside es v.loops) at ∙ inside_from ends v.loops h.inside) refl

mutual
  stop_in_ends : (all : List (List (ℤ × ℤ))) (params : List ℤ) (ends : List (ℤ × ℤ)) (loops : List ℤ) (scope : Scope) (around : List ℕ) (number : ℕ) (enters : ℕ → Bool) (s : Statement) (place first : ℕ) → IsInEnds ends loops →
      1 ≤ place → StandsAt all (place - 1) (stop_ends_in params enters ends s) →
      is_good_statement scope around number s ≡ true → 1 ≤ number → number + loops_in s ≤ suc (length loops) → are_in_ends all (visits_of params enters s place first loops) ≡ true
  stop_in_ends all params ends loops scope around number enters (do_loop head body) place first h from stands good low count =
      let interval = head_interval params ends head in
      let inner = with_ends ends head.number interval in
      let g = good_loop scope around number head body good in
      let t = good_trips params ends loops scope around number head body h g low count in
      let inside = λ (v : ℤ). visits_in params enters body place first (with_loop loops head.number v) in
      let here : Visit = record { place = place; first = first; what = do_loop head body; loops = loops } in
      let trip = λ (at : StandsAt all (place - 1) (stop_ends_of params enters inner body)) (n : ℕ) (lt : n < trip_count (form_value head.m1 loops params) (form_value head.m2 loops params) head.step).
      let v = form_value head.m1 loops params +ℤ (pos n *ℤ head.step) in
      stops_in_ends all params inner (with_loop loops head.number v) scope (head.number ∷ around) (number + 1) enters body place first
      (in_ends-step ends loops head.number interval v h t.number (t.between n lt)) from at g.inside (omega arith) (omega (arith, count, length-set loops (head.number - 1) v)) in
      (elim (enters head.number) as (λ b. StandsAt all (place - 1) (if b then stop_ends_of params enters inner body else ends ∷ []) → are_in_ends all (if b then flat_map inside (head_trips params head loops) else here ∷ []) ≡ true) [
        | true ↦ λ at. list_all-flat_map (is_in_its_ends all) inside (head_trips params head loops) (all_trips (λ v. are_in_ends all (inside v)) (form_value head.m1 loops params) (form_value head.m2 loops params) head.step (trip at))
        | false ↦ λ at. one_stop all ends here from h at
      ]) stands
  stop_in_ends all params ends loops scope around number enters (work w) place first h from stands good low count =
      one_stop all ends (record { place = place; first = first; what = work w; loops = loops }) from h stands
  stop_in_ends all params ends loops scope around number enters (continue line) place first h from stands good low count = refl

  stops_in_ends : (all : List (List (ℤ × ℤ))) (params : List ℤ) (ends : List (ℤ × ℤ)) (loops : List ℤ) (scope : Scope) (around : List ℕ) (number : ℕ) (enters : ℕ → Bool) (ss : Statements) (place first : ℕ) → IsInEnds ends loops →
      1 ≤ place → StandsAt all (place - 1) (stop_ends_of params enters ends ss) →
      are_good_statements scope around number ss ≡ true → 1 ≤ number → number + loops_of ss ≤ suc (length loops) → are_in_ends all (visits_in params enters ss place first loops) ≡ true
  stops_in_ends all params ends loops scope around number enters done place first h from stands good low count = refl
  stops_in_ends all params ends loops scope around number enters (next s rest) place first h from stands good low count =
      let both = and_parts (is_good_statement scope around number s) (are_good_statements scope around (number + loops_in s) rest) good in
      let front = stands-front all (place - 1) (stop_ends_in params enters ends s) (stop_ends_of params enters ends rest) stands in
      let behind : place - 1 + length (stop_ends_in params enters ends s) ≡ place + stops_in enters s - 1 = omega (arith, ends_in-length params enters ends s, from) in
      let back = subst (λ k. StandsAt all k (stop_ends_of params enters ends rest)) behind (stands-back all (place - 1) (stop_ends_in params enters ends s) (stop_ends_of params enters ends rest) stands) in
      list_all-append (is_in_its_ends all) (visits_of params enters s place first loops) (visits_in params enters rest (place + stops_in enters s) (first + works_in s) loops)
      ∙ and_from _ _ (stop_in_ends all params ends loops scope around number enters s place first h from front both.0 low (omega (arith, count)))
      (stops_in_ends all params ends loops scope around (number + loops_in s) enters rest (place + stops_in enters s) (first + works_in s) h (omega (arith, from)) back both.1 (omega (arith, low)) (omega (arith, count)))

pub in_their_ends : (tree : Tree) (enters : ℕ → Bool) → IsWellFormed tree → list_all (is_in_its_ends (stop_ends tree enters)) (visits tree enters) ≡ true
in_their_ends tree enters formed =
    let all = stop_ends tree enters in
    stops_in_ends all (param_values tree) no_ends (no_values tree) (scope_of tree) [] 1 enters tree.items 1 1 (at_start tree formed) (omega arith) (λ j lt. ap (λ n. get_or all n []) (omega arith))
    (well_formed_parts tree formed).statements (omega arith) (omega (arith, length-replicate (loops_of tree.items) (pos 0)))
