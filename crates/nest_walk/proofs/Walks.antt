-- A well-formed program within its limits can be walked.
use Rattle.std.proofs.Common.{◌≡◌, ℕ, suc, ◌+◌, ◌-◌, ◌<◌, ◌≤◌, ◌^◌, ◌==◌, ℤ, pos, ◌+ℤ◌, ◌*ℤ◌, Bool, true, false, ◌&&◌, nat_lt, List, [], ◌∷◌, ◌++◌, length, Option, Some, None, unsigned_abs, if◌then◌else◌, refl, ap, sym, ◌∙◌, arith}
use Rattle.std.specs.List.{list_all}
use Rattle.std.proofs.lemmas.Bool.{and_parts, and_from, eqb-true, le-leb, lt-ltb, ltb-true}
use Rattle.std.proofs.lemmas.List.{length-replicate, length-set}
use Rattle.nest_tree.specs.declared.tree.Guard.{Guard}
use Rattle.nest_tree.specs.Form.{form_value, is_small}
use Rattle.nest_tree.specs.Intervals.{form_interval, head_interval, with_ends}
use Rattle.nest_tree.specs.Limits.{IsWithinLimits, is_empty, line_of_work, no_ends, too_much_work, too_many_cells, too_wide, wide_at, wide_forms, wide_in, wide_of}
use Rattle.std.specs.Option.{option_or}
use Rattle.nest_tree.specs.Loads.{guard_forms, loads_in, subscript_forms, work_forms}
use Rattle.nest_tree.specs.Tree.{Work, assign, print, Statement, Statements, do_loop, work, continue, done, next, Tree, param_values}
use Rattle.nest_tree.specs.WellFormed.{IsWellFormed, Scope, are_good_statements, is_good_head, is_good_statement, is_number_of, loops_in, loops_of, scope_of, statement_count, statements_in}
use Rattle.nest_tree.proofs.FirstLimits.{neither}
use Rattle.nest_model.specs.Instances.{no_values, trip_count, with_loop, works_in, works_of}
use Rattle.nest_model.specs.Visits.{stops_in, stops_of}
use Rattle.nest_model.proofs.Small.{no_line, not_empty}
use Rattle.nest_model.proofs.Spans.{all_trips}
use Rattle.nest_model.proofs.Stops.{at_start}
use Rattle.nest_model.proofs.Within.{IsInEnds, form_between, head_between, head_small, in_ends-step, small_between, wide_first}
use Rattle.nest_walk.specs.Walks.{Level, enters_but, is_sound, walk_in}
use Rattle.nest_walk.specs.Walkable.{are_above, are_walkable, is_above, is_small_at, is_walkable, sides_of}

-- the sides of a comparison are small
work_small : (params : List ℤ) (ends : List (ℤ × ℤ)) (loops : List ℤ) (w : Work) → IsInEnds ends loops → wide_forms params ends (work_forms w) ≡ None → list_all (is_small_at params loops) (sides_of w) ≡ true
work_small params ends loops (assign a) h none =
    let behind = λ (g : Option Guard). guard_forms g ++ a.target.subscripts ++ subscript_forms (loads_in a.value) in
    (elim (a.guard) as (λ g. wide_forms params ends (behind g) ≡ None → list_all (is_small_at params loops) (guard_forms g) ≡ true) [
      | None ↦ λ k. refl
      | Some g ↦ λ k.
          let first = wide_first params ends g.left (g.right ∷ (a.target.subscripts ++ subscript_forms (loads_in a.value))) k in
          let second = wide_first params ends g.right (a.target.subscripts ++ subscript_forms (loads_in a.value)) first.1 in
          and_from _ _ (small_between (form_interval g.left ends params) _ first.0 (form_between g.left ends loops params h))
          (and_from _ _ (small_between (form_interval g.right ends params) _ second.0 (form_between g.right ends loops params h)) refl)
    ]) none
work_small params ends loops (print p) h none = refl

-- loops are numbered in text order
mutual
  good_above_in : (scope : Scope) (around : List ℕ) (n first : ℕ) (s : Statement) → n < first → is_good_statement scope around first s ≡ true → is_above n s ≡ true
  good_above_in scope around n first (do_loop head body) below good =
      let a = and_parts _ (are_good_statements scope (head.number ∷ around) (first + 1) body) good in
      let b = and_parts _ (is_good_head scope around head) a.0 in
      let c = and_parts (head.number == first) (nat_lt (length around) 6) b.0 in
      let number = eqb-true head.number first c.0 in
      and_from _ _ (lt-ltb n head.number (omega (arith, number, below))) (good_above scope (head.number ∷ around) n (first + 1) body (omega (arith, below)) a.1)
  good_above_in scope around n first (work w) below good = refl
  good_above_in scope around n first (continue line) below good = refl

  good_above : (scope : Scope) (around : List ℕ) (n first : ℕ) (ss : Statements) → n < first → are_good_statements scope around first ss ≡ true → are_above n ss ≡ true
  good_above scope around n first done below good = refl
  good_above scope around n first (next s rest) below good =
      let both = and_parts (is_good_statement scope around first s) (are_good_statements scope around (first + loops_in s) rest) good in
      and_from _ _ (good_above_in scope around n first s below both.0) (good_above scope around n (first + loops_in s) rest (omega (arith, below)) both.1)

mutual
  statement_walkable : (params : List ℤ) (ends : List (ℤ × ℤ)) (loops : List ℤ) (scope : Scope) (around : List ℕ) (first : ℕ) (s : Statement) → IsInEnds ends loops → wide_in params ends s ≡ None →
      is_good_statement scope around first s ≡ true → 1 ≤ first → first + loops_in s ≤ suc (length loops) → is_walkable params (length around) s loops ≡ true
  statement_walkable params ends loops scope around first (do_loop head body) h none good low count =
      let interval = head_interval params ends head in
      let a = and_parts _ (are_good_statements scope (head.number ∷ around) (first + 1) body) good in
      let b = and_parts (head.number == first && nat_lt (length around) 6) (is_good_head scope around head) a.0 in
      let c = and_parts (head.number == first) (nat_lt (length around) 6) b.0 in
      let d = and_parts _ (is_small head.step) b.1 in
      let e = and_parts _ (nat_lt 0 (unsigned_abs head.step)) d.0 in
      let number_is = eqb-true head.number first c.0 in
      let number : is_number_of (length loops) head.number ≡ true =
      and_from _ _ (le-leb 1 head.number (omega (arith, number_is, low))) (le-leb head.number (length loops) (omega (arith, number_is, count))) in
      let parts = neither (wide_at head.line (wide_forms params ends (head.m1 ∷ head.m2 ∷ []))) (if is_empty interval then None else wide_of params (with_ends ends head.number interval) body) none in
      let m1 = wide_first params ends head.m1 (head.m2 ∷ []) (no_line head.line (wide_forms params ends (head.m1 ∷ head.m2 ∷ [])) parts.0) in
      let m2 = wide_first params ends head.m2 [] m1.1 in
      let small_m1 = small_between (form_interval head.m1 ends params) (form_value head.m1 loops params) m1.0 (form_between head.m1 ends loops params h) in
      let small_m2 = small_between (form_interval head.m2 ends params) (form_value head.m2 loops params) m2.0 (form_between head.m2 ends loops params h) in
      let moves = ltb-true 0 (unsigned_abs head.step) e.1 in
      let trip = λ (n : ℕ) (lt : n < trip_count (form_value head.m1 loops params) (form_value head.m2 loops params) head.step).
      let v = form_value head.m1 loops params +ℤ (pos n *ℤ head.step) in
      let between = head_between head ends loops params n h moves lt in
      let inner = in_ends-step ends loops head.number interval v h number between in
      let wide : wide_of params (with_ends ends head.number interval) body ≡ None =
      ap (λ b. if b then None else wide_of params (with_ends ends head.number interval) body) (sym (not_empty interval v between)) ∙ parts.1 in
      and_from _ _ (small_between interval v (head_small head ends params m1.0 m2.0) between)
      (statements_walkable params (with_ends ends head.number interval) (with_loop loops head.number v) scope (head.number ∷ around) (first + 1) body inner wide a.1 (omega (arith, low))
      (omega (arith, count, length-set loops (head.number - 1) v))) in
      let above = good_above scope (head.number ∷ around) head.number (first + 1) body (omega (arith, number_is)) a.1 in
      and_from _ _ (and_from _ _ (and_from _ _ (and_from _ _ number c.1) above) (and_from _ _ (and_from _ _ (and_from _ _ small_m1 small_m2) e.1) d.1))
      (all_trips (λ v. is_small v && are_walkable params (suc (length around)) body (with_loop loops head.number v)) (form_value head.m1 loops params) (form_value head.m2 loops params) head.step trip)
  statement_walkable params ends loops scope around first (work w) h none good low count =
      work_small params ends loops w h (no_line (line_of_work w) (wide_forms params ends (work_forms w)) none)
  statement_walkable params ends loops scope around first (continue line) h none good low count = refl

  statements_walkable : (params : List ℤ) (ends : List (ℤ × ℤ)) (loops : List ℤ) (scope : Scope) (around : List ℕ) (first : ℕ) (ss : Statements) → IsInEnds ends loops → wide_of params ends ss ≡ None →
      are_good_statements scope around first ss ≡ true → 1 ≤ first → first + loops_of ss ≤ suc (length loops) → are_walkable params (length around) ss loops ≡ true
  statements_walkable params ends loops scope around first done h none good low count = refl
  statements_walkable params ends loops scope around first (next s rest) h none good low count =
      let parts = neither (wide_in params ends s) (wide_of params ends rest) none in
      let both = and_parts (is_good_statement scope around first s) (are_good_statements scope around (first + loops_in s) rest) good in
      and_from _ _ (statement_walkable params ends loops scope around first s h parts.0 both.0 low (omega (arith, count)))
      (statements_walkable params ends loops scope around (first + loops_in s) rest h parts.1 both.1 (omega (arith, low)) (omega (arith, count)))

-- no more stops and works than statements
mutual
  stops-most : (enters : ℕ → Bool) (s : Statement) → stops_in enters s ≤ statements_in s
  stops-most enters (do_loop head body) =
      let all = stops_of-most enters body in
      elim (enters head.number) as (λ b. (if b then stops_of enters body else 1) ≤ 1 + statement_count body) [ true ↦ omega (arith, all) | false ↦ omega arith ]
  stops-most enters (work w) = omega arith
  stops-most enters (continue line) = omega arith

  stops_of-most : (enters : ℕ → Bool) (ss : Statements) → stops_of enters ss ≤ statement_count ss
  stops_of-most enters done = omega arith
  stops_of-most enters (next s rest) = omega (arith, stops-most enters s, stops_of-most enters rest)

mutual
  works-most : (s : Statement) → works_in s ≤ statements_in s
  works-most (do_loop head body) = omega (arith, works_of-most body)
  works-most (work w) = omega arith
  works-most (continue line) = omega arith

  works_of-most : (ss : Statements) → works_of ss ≤ statement_count ss
  works_of-most done = omega arith
  works_of-most (next s rest) = omega (arith, works-most s, works_of-most rest)

-- what the walk of a program asks for
pub walkable : (tree : Tree) → IsWellFormed tree → IsWithinLimits tree → are_walkable (param_values tree) 0 tree.items (no_values tree) ≡ true
walkable tree formed limits =
    let good = and_parts _ (are_good_statements (scope_of tree) [] 1 tree.items) formed in
    let wide = neither (too_wide tree) (option_or (too_much_work tree) (too_many_cells tree)) limits in
    statements_walkable (param_values tree) no_ends (no_values tree) (scope_of tree) [] 1 tree.items (at_start tree formed) wide.0 good.1 (omega arith)
    (omega (arith, length-replicate (loops_of tree.items) (pos 0)))

pub few_statements : (tree : Tree) → IsWellFormed tree → statement_count tree.items < 400
few_statements tree formed =
    let good = and_parts _ (are_good_statements (scope_of tree) [] 1 tree.items) formed in
    let counted = and_parts _ (nat_lt (statement_count tree.items) 400) good.0 in
    ltb-true (statement_count tree.items) 400 counted.1

pub start_sound : (tree : Tree) (marks : List Bool) (levels : List Level) → IsWellFormed tree → IsWithinLimits tree →
    is_sound (walk_in tree marks) [] levels (record { statements = tree.items; place = 1; first = 1 }) ≡ true
start_sound tree marks levels formed limits =
    let few = few_statements tree formed in
    let stops : 1 + stops_of (enters_but marks) tree.items < 2 ^ 32 = omega (arith, few, stops_of-most (enters_but marks) tree.items) in
    let works : 1 + works_of tree.items < 2 ^ 32 = omega (arith, few, works_of-most tree.items) in
    and_from _ _ (and_from _ _ (lt-ltb (1 + stops_of (enters_but marks) tree.items) (2 ^ 32) stops) (lt-ltb (1 + works_of tree.items) (2 ^ 32) works)) (walkable tree formed limits)
