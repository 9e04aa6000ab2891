-- In a program within its limits all that forms and DO variables come to is small.
use Rattle.std.proofs.Common.{◌≡◌, ℕ, suc, ◌+◌, ◌-◌, ◌<◌, ◌≤◌, ℤ, pos, ◌+ℤ◌, ◌*ℤ◌, Bool, true, false, List, [], ◌∷◌, length, map, Option, Some, None, if◌then◌else◌, refl, ap, sym, ◌∙◌, arith}
use Rattle.std.specs.List.{flat_map, list_all}
use Rattle.std.proofs.lemmas.Bool.{and_from, and_parts}
use Rattle.std.proofs.lemmas.Int.{ints}
use Rattle.std.proofs.lemmas.List.{length-replicate, length-set}
use Rattle.std.proofs.lemmas.List.Folds.{list_all-append}
use Rattle.nest_tree.specs.Form.{Form, form_value, is_small}
use Rattle.nest_tree.specs.Intervals.{form_interval, head_interval, with_ends}
use Rattle.nest_tree.specs.Limits.{IsWithinLimits, is_empty, line_of_work, no_ends, wide_at, wide_forms, wide_in, wide_of}
use Rattle.nest_tree.specs.Loads.{work_forms}
use Rattle.nest_tree.specs.Tree.{Statement, Statements, do_loop, work, continue, done, next, Tree, param_values}
use Rattle.nest_tree.specs.WellFormed.{IsWellFormed, Scope, are_good_statements, is_good_statement, loops_in, loops_of, scope_of}
use Rattle.nest_tree.proofs.Cells.{well_formed_parts}
use Rattle.nest_tree.proofs.FirstLimits.{kept, neither}
use Rattle.nest_tree.proofs.Good.{good_loop}
use Rattle.nest_model.specs.Computed.{computed_at}
use Rattle.nest_model.specs.Instances.{head_trips, no_values, trip_count, with_loop, works_in}
use Rattle.nest_model.specs.Visits.{Visit, stops_in, visits, visits_in, visits_of}
use Rattle.nest_model.proofs.Spans.{all_trips}
use Rattle.nest_model.proofs.Stops.{at_start, good_trips}
use Rattle.nest_model.proofs.Within.{Between, IsInEnds, IsSmallInterval, form_between, head_small, in_ends-step, small_between, wide_first}

abbrev are_small : List ℤ → Bool
are_small values = list_all is_small values

abbrev is_small_stop : List ℤ → Visit → Bool
is_small_stop params v = are_small (computed_at params v)

pub list_all-flat_map : {X Y : Type 0} (p : Y → Bool) (f : X → List Y) (xs : List X) → list_all (λ x. list_all p (f x)) xs ≡ true → list_all p (flat_map f xs) ≡ true
list_all-flat_map p f [] h = refl
list_all-flat_map p f (x ∷ xs) h =
    let parts = and_parts (list_all p (f x)) (list_all (λ x. list_all p (f x)) xs) h in
    list_all-append p (f x) (flat_map f xs) ∙ and_from _ _ parts.0 (list_all-flat_map p f xs parts.1)

pub no_line : (line : ℕ) (end : Option ℤ) → wide_at line end ≡ None → end ≡ None
no_line line None h = refl
no_line line (Some end) h = cc

pub not_empty : (interval : ℤ × ℤ) (v : ℤ) → Between interval v → is_empty interval ≡ false
not_empty interval v b = let low = b.low in let high = b.high in grind (arith, ints)

forms_small : (params : List ℤ) (ends : List (ℤ × ℤ)) (loops : List ℤ) (fs : List Form) → IsInEnds ends loops → wide_forms params ends fs ≡ None → are_small (map (λ f. form_value f loops params) fs) ≡ true
forms_small params ends loops [] h none = refl
forms_small params ends loops (f ∷ fs) h none =
    let first = wide_first params ends f fs none in
    and_from _ _ (small_between (form_interval f ends params) (form_value f loops params) first.0 (form_between f ends loops params h)) (forms_small params ends loops fs h first.1)

mutual
  stops_small : (params : List ℤ) (ends : List (ℤ × ℤ)) (loops : List ℤ) (scope : Scope) (around : List ℕ) (number : ℕ) (enters : ℕ → Bool) (s : Statement) (place first : ℕ) → IsInEnds ends loops → wide_in params ends s ≡ None →
      is_good_statement scope around number s ≡ true → 1 ≤ number → number + loops_in s ≤ suc (length loops) → list_all (is_small_stop params) (visits_of params enters s place first loops) ≡ true
  stops_small params ends loops scope around number enters (do_loop head body) place first h none good low count =
      let interval = head_interval params ends head in
      let inner = with_ends ends head.number interval in
      let g = good_loop scope around number head body good in
      let t = good_trips params ends loops scope around number head body h g low count in
      let parts = neither (wide_at head.line (wide_forms params ends (head.m1 ∷ head.m2 ∷ []))) (if is_empty interval then None else wide_of params inner body) none in
      let fine = no_line head.line (wide_forms params ends (head.m1 ∷ head.m2 ∷ [])) parts.0 in
      let m1 = wide_first params ends head.m1 (head.m2 ∷ []) fine in
      let m2 = wide_first params ends head.m2 [] m1.1 in
      let small : IsSmallInterval interval = head_small head ends params m1.0 m2.0 in
      let inside = λ (v : ℤ). visits_in params enters body place first (with_loop loops head.number v) in
      let here : Visit = record { place = place; first = first; what = do_loop head body; loops = loops } in
      let values = all_trips is_small (form_value head.m1 loops params) (form_value head.m2 loops params) head.step (λ n lt. small_between interval (form_value head.m1 loops params +ℤ (pos n *ℤ head.step)) small (t.between n lt)) in
      let stop : list_all (is_small_stop params) (here ∷ []) ≡ true =
      and_from _ _ (list_all-append is_small (map (λ f. form_value f loops params) (head.m1 ∷ head.m2 ∷ [])) (head_trips params head loops) ∙ and_from _ _ (forms_small params ends loops (head.m1 ∷ head.m2 ∷ []) h fine) values) refl in
      let trip = λ (n : ℕ) (lt : n < trip_count (form_value head.m1 loops params) (form_value head.m2 loops params) head.step).
      let v = form_value head.m1 loops params +ℤ (pos n *ℤ head.step) in
      let wide : wide_of params inner body ≡ None = ap (λ b. if b then None else wide_of params inner body) (sym (not_empty interval v (t.between n lt))) ∙ parts.1 in
      all_stops_small params inner (with_loop loops head.number v) scope (head.number ∷ around) (number + 1) enters body place first
      (in_ends-step ends loops head.number interval v h t.number (t.between n lt)) wide g.inside (omega arith) (omega (arith, count, length-set loops (head.number - 1) v)) in
      let entered = list_all-flat_map (is_small_stop params) inside (head_trips params head loops)
      (all_trips (λ v. list_all (is_small_stop params) (inside v)) (form_value head.m1 loops params) (form_value head.m2 loops params) head.step trip) in
      elim (enters head.number) as (λ b. list_all (is_small_stop params) (if b then flat_map inside (head_trips params head loops) else here ∷ []) ≡ true) [
        | true ↦ entered
        | false ↦ stop
      ]
  stops_small params ends loops scope around number enters (work w) place first h none good low count =
      let fine = no_line (line_of_work w) (wide_forms params ends (work_forms w)) none in
      and_from _ _ (list_all-append is_small (map (λ f. form_value f loops params) (work_forms w)) [] ∙ and_from _ _ (forms_small params ends loops (work_forms w) h fine) refl) refl
  stops_small params ends loops scope around number enters (continue line) place first h none good low count = refl

  all_stops_small : (params : List ℤ) (ends : List (ℤ × ℤ)) (loops : List ℤ) (scope : Scope) (around : List ℕ) (number : ℕ) (enters : ℕ → Bool) (ss : Statements) (place first : ℕ) → IsInEnds ends loops → wide_of params ends ss ≡ None →
      are_good_statements scope around number ss ≡ true → 1 ≤ number → number + loops_of ss ≤ suc (length loops) → list_all (is_small_stop params) (visits_in params enters ss place first loops) ≡ true
  all_stops_small params ends loops scope around number enters done place first h none good low count = refl
  all_stops_small params ends loops scope around number enters (next s rest) place first h none good low count =
      let parts = neither (wide_in params ends s) (wide_of params ends rest) none in
      let both = and_parts (is_good_statement scope around number s) (are_good_statements scope around (number + loops_in s) rest) good in
      list_all-append (is_small_stop params) (visits_of params enters s place first loops) (visits_in params enters rest (place + stops_in enters s) (first + works_in s) loops)
      ∙ and_from _ _ (stops_small params ends loops scope around number enters s place first h parts.0 both.0 low (omega (arith, count)))
      (all_stops_small params ends loops scope around (number + loops_in s) enters rest (place + stops_in enters s) (first + works_in s) h parts.1 both.1 (omega (arith, low)) (omega (arith, count)))

pub all_small : (tree : Tree) (enters : ℕ → Bool) → IsWellFormed tree → IsWithinLimits tree → list_all (is_small_stop (param_values tree)) (visits tree enters) ≡ true
all_small tree enters formed limits =
    all_stops_small (param_values tree) no_ends (no_values tree) (scope_of tree) [] 1 enters tree.items 1 1 (at_start tree formed) (kept tree limits).forms (well_formed_parts tree formed).statements (omega arith)
    (omega (arith, length-replicate (loops_of tree.items) (pos 0)))
