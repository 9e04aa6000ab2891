-- What a well-formed program names is there.
use Rattle.std.proofs.Common.{◌≡◌, ℕ, ◌+◌, ◌≤◌, ◌<◌, ℤ, true, false, ◌&&◌, ◌||◌, ◌==◌, nat_lt, nat_le, unsigned_abs, List, [], ◌∷◌, ◌++◌, length, IsTrue, Option, Some, None, refl, ap, sym, ◌∙◌, arith, pos, negsuc}
use Rattle.std.specs.List.{flat_map, list_all, list_any}
use Rattle.std.proofs.lemmas.Bool.{and_from, and_parts, eqb-true}
use Rattle.std.proofs.lemmas.Bool.Decides.{nat_tests}
use Rattle.std.proofs.lemmas.Grind.{flat_map-append}
use Rattle.std.proofs.lemmas.List.Folds.{list_all-append}
use Rattle.nest_tree.specs.declared.tree.Access.{Access}
use Rattle.nest_tree.specs.declared.tree.Guard.{Guard}
use Rattle.nest_tree.specs.Form.{Form, is_form, is_given, is_small, reach_within}
use Rattle.nest_tree.specs.Given.{are_all_given, are_given, are_loads_given, is_all_given}
use Rattle.nest_tree.specs.Loads.{guard_forms, loads_among, loads_in, loads_in_item, subscript_forms, work_forms}
use Rattle.nest_tree.specs.Tree.{Expression, Expressions, number, loop_value, param, load, neg, add, sub, mul, div, least_of, greatest_of, no_more, one_more, Printed, value, whole, text, Work, assign, print, Head, Statement, Statements, do_loop, work, continue, done, next, Tree}
use Rattle.nest_tree.specs.WellFormed.{IsWellFormed, Scope, are_good_expressions, are_good_statements, is_good_access, is_good_expression, is_good_guard, is_good_head, is_good_item, is_good_statement, is_good_work, is_number_of, is_value, loops_in, loops_of, names_only, rank_of, scope_of, statement_count, statements_in}
use Rattle.nest_tree.proofs.Cells.{well_formed_parts}

-- the loops round a place have numbers up to this one
abbrev pub AreWithin : ℕ → List ℕ → Type 0
AreWithin loops around = IsTrue (list_all (λ l. nat_le l loops) around)

named-within : (loops n : ℕ) (around : List ℕ) → AreWithin loops around → IsTrue (list_any (λ l. l == n) around) → IsTrue (nat_le n loops)
named-within loops n [] h named = absurd (let no : false ≡ true = named in cc)
named-within loops n (l ∷ around) h named =
    let parts = and_parts (nat_le l loops) (list_all (λ l. nat_le l loops) around) h in
    elim (l == n) as (λ b. (l == n) ≡ b → IsTrue (nat_le n loops)) [
      | true ↦ λ e. ap (λ m. nat_le m loops) (sym (eqb-true l n e)) ∙ parts.0
      | false ↦ λ e. named-within loops n around parts.1 (sym (ap (λ b. b || list_any (λ l. l == n) around) e) ∙ named)
    ] refl

loops-within : (loops : ℕ) (around : List ℕ) (pairs : List (ℕ × ℤ)) → AreWithin loops around → IsTrue (list_all (λ p. list_any (λ l. l == p.0) around) pairs) → IsTrue (reach_within loops pairs)
loops-within loops around [] h named = refl
loops-within loops around (p ∷ pairs) h named =
    let parts = and_parts (list_any (λ l. l == p.0) around) (list_all (λ (p : ℕ × ℤ). list_any (λ l. l == p.0) around) pairs) named in
    and_from (nat_le p.0 loops) (reach_within loops pairs) (named-within loops p.0 around h parts.0) (loops-within loops around pairs h parts.1)

constants-within : (constants : ℕ) (pairs : List (ℕ × ℤ)) → IsTrue (list_all (λ p. is_number_of constants p.0) pairs) → IsTrue (reach_within constants pairs)
constants-within constants [] named = refl
constants-within constants (p ∷ pairs) named =
    let parts = and_parts (is_number_of constants p.0) (list_all (λ (p : ℕ × ℤ). is_number_of constants p.0) pairs) named in
    and_from (nat_le p.0 constants) (reach_within constants pairs) (and_parts (nat_le 1 p.0) (nat_le p.0 constants) parts.0).1 (constants-within constants pairs parts.1)

pub form-given : (loops constants : ℕ) (around : List ℕ) (f : Form) → AreWithin loops around → IsTrue (names_only constants around f) → IsTrue (is_given f loops constants)
form-given loops constants around f h named =
    let all = list_all (λ (p : ℕ × ℤ). list_any (λ l. l == p.0) around) f.loops in
    let numbers = list_all (λ (p : ℕ × ℤ). is_number_of constants p.0) f.params in
    let last = and_parts (is_form f && all) numbers named in
    let first = and_parts (is_form f) all last.0 in
    and_from (reach_within loops f.loops) (reach_within constants f.params) (loops-within loops around f.loops h first.1) (constants-within constants f.params last.1)

forms-given : (loops constants : ℕ) (around : List ℕ) (fs : List Form) → AreWithin loops around → IsTrue (list_all (names_only constants around) fs) → IsTrue (are_given loops constants fs)
forms-given loops constants around [] h named = refl
forms-given loops constants around (f ∷ fs) h named =
    let parts = and_parts (names_only constants around f) (list_all (names_only constants around) fs) named in
    and_from (is_given f loops constants) (are_given loops constants fs) (form-given loops constants around f h parts.0) (forms-given loops constants around fs h parts.1)

given-both : (loops constants : ℕ) (xs ys : List Form) → IsTrue (are_given loops constants xs) → IsTrue (are_given loops constants ys) → IsTrue (are_given loops constants (xs ++ ys))
given-both loops constants xs ys h k =
    list_all-append (λ f. is_given f loops constants) xs ys ∙ and_from (are_given loops constants xs) (are_given loops constants ys) h k

loads-both : (loops constants : ℕ) (xs ys : List Access) → IsTrue (are_loads_given loops constants xs) → IsTrue (are_loads_given loops constants ys) → IsTrue (are_loads_given loops constants (xs ++ ys))
loads-both loops constants xs ys h k =
    ap (are_given loops constants) (flat_map-append (λ (a : Access). a.subscripts) xs ys) ∙ given-both loops constants (subscript_forms xs) (subscript_forms ys) h k

module _ (loops : ℕ) (scope : Scope) (around : List ℕ) (within : AreWithin loops around) where
  access-given : (a : Access) → IsTrue (is_good_access scope around a) → IsTrue (are_given loops scope.constants a.subscripts)
  access-given a good =
      forms-given loops scope.constants around a.subscripts within (and_parts (is_number_of (length scope.ranks) a.variable && length a.subscripts == rank_of scope a.variable) (list_all (names_only scope.constants around) a.subscripts) good).1

  load-given : (a : Access) → IsTrue (is_good_access scope around a) → IsTrue (are_loads_given loops scope.constants (a ∷ []))
  load-given a good = given-both loops scope.constants a.subscripts [] (access-given a good) refl

  div-good : (a : Expression) (divisor : ℤ) → IsTrue (is_good_expression scope around (div a divisor)) → IsTrue (is_good_expression scope around a)
  div-good a divisor good =
      let first = and_parts (is_good_expression scope around a && nat_lt 0 (unsigned_abs divisor)) (is_value divisor) good in
      (and_parts (is_good_expression scope around a) (nat_lt 0 (unsigned_abs divisor)) first.0).0

  mutual
    loads-given : (e : Expression) → IsTrue (is_good_expression scope around e) → IsTrue (are_loads_given loops scope.constants (loads_in e))
    loads-given (number n) good = refl
    loads-given (loop_value l) good = refl
    loads-given (param p) good = refl
    loads-given (load a) good = load-given a good
    loads-given (neg a) good = loads-given a good
    loads-given (add a b) good =
        let g = and_parts (is_good_expression scope around a) (is_good_expression scope around b) good in
        loads-both loops scope.constants (loads_in a) (loads_in b) (loads-given a g.0) (loads-given b g.1)
    loads-given (sub a b) good =
        let g = and_parts (is_good_expression scope around a) (is_good_expression scope around b) good in
        loads-both loops scope.constants (loads_in a) (loads_in b) (loads-given a g.0) (loads-given b g.1)
    loads-given (mul a b) good =
        let g = and_parts (is_good_expression scope around a) (is_good_expression scope around b) good in
        loads-both loops scope.constants (loads_in a) (loads_in b) (loads-given a g.0) (loads-given b g.1)
    loads-given (div a divisor) good = loads-given a (div-good a divisor good)
    loads-given (least_of no_more) good = refl
    loads-given (least_of (one_more e rest)) good =
        let g = and_parts (is_good_expression scope around e) (are_good_expressions scope around rest) good in
        loads-both loops scope.constants (loads_in e) (loads_among rest) (loads-given e g.0) (all_loads-given rest g.1)
    loads-given (greatest_of no_more) good = refl
    loads-given (greatest_of (one_more e rest)) good =
        let g = and_parts (is_good_expression scope around e) (are_good_expressions scope around rest) good in
        loads-both loops scope.constants (loads_in e) (loads_among rest) (loads-given e g.0) (all_loads-given rest g.1)

    all_loads-given : (es : Expressions) → IsTrue (are_good_expressions scope around es) → IsTrue (are_loads_given loops scope.constants (loads_among es))
    all_loads-given no_more good = refl
    all_loads-given (one_more e rest) good =
        let g = and_parts (is_good_expression scope around e) (are_good_expressions scope around rest) good in
        loads-both loops scope.constants (loads_in e) (loads_among rest) (loads-given e g.0) (all_loads-given rest g.1)

  item-given : (p : Printed) → IsTrue (is_good_item scope around p) → IsTrue (are_loads_given loops scope.constants (loads_in_item p))
  item-given (value e) good = loads-given e good
  item-given (whole variable) good = refl
  item-given (text characters) good = refl

  items-given : (ps : List Printed) → IsTrue (list_all (is_good_item scope around) ps) → IsTrue (are_loads_given loops scope.constants (flat_map loads_in_item ps))
  items-given [] good = refl
  items-given (p ∷ ps) good =
      let g = and_parts (is_good_item scope around p) (list_all (is_good_item scope around) ps) good in
      loads-both loops scope.constants (loads_in_item p) (flat_map loads_in_item ps) (item-given p g.0) (items-given ps g.1)

  guard-given : (g : Option Guard) → IsTrue (is_good_guard scope around g) → IsTrue (are_given loops scope.constants (guard_forms g))
  guard-given None good = refl
  guard-given (Some g) good =
      let parts = and_parts (names_only scope.constants around g.left) (names_only scope.constants around g.right) good in
      forms-given loops scope.constants around (g.left ∷ g.right ∷ []) within (and_from (names_only scope.constants around g.left) (names_only scope.constants around g.right && true) parts.0 (and_from (names_only scope.constants around g.right) true parts.1 refl))

  work-given : (w : Work) → IsTrue (is_good_work scope around w) → IsTrue (are_given loops scope.constants (work_forms w))
  work-given (assign a) good =
      let last = and_parts (is_good_access scope around a.target && is_good_expression scope around a.value) (is_good_guard scope around a.guard) good in
      let first = and_parts (is_good_access scope around a.target) (is_good_expression scope around a.value) last.0 in
      given-both loops scope.constants (guard_forms a.guard ++ a.target.subscripts) (subscript_forms (loads_in a.value))
      (given-both loops scope.constants (guard_forms a.guard) a.target.subscripts (guard-given a.guard last.1) (access-given a.target first.0)) (loads-given a.value first.1)
  work-given (print p) good = items-given p.items good

  head-given : (head : Head) → IsTrue (is_good_head scope around head) → IsTrue (are_given loops scope.constants (head.m1 ∷ head.m2 ∷ []))
  head-given head good =
      let m1 = names_only scope.constants around head.m1 in
      let m2 = names_only scope.constants around head.m2 in
      let step = nat_lt 0 (unsigned_abs head.step) in
      let last = and_parts (m1 && m2 && step) (is_small head.step) good in
      let third = and_parts (m1 && m2) step last.0 in
      let first = and_parts m1 m2 third.0 in
      forms-given loops scope.constants around (head.m1 ∷ head.m2 ∷ []) within (and_from m1 (m2 && true) first.0 (and_from m2 true first.1 refl))

-- the parts of a good loop whose number is `first`
pub record GoodLoop (scope : Scope) (around : List ℕ) (first : ℕ) (head : Head) (body : Statements) : Type 0 where
  pub number : head.number ≡ first
  pub bounds : IsTrue (is_good_head scope around head)
  pub inside : IsTrue (are_good_statements scope (head.number ∷ around) (first + 1) body)

pub good_loop : (scope : Scope) (around : List ℕ) (first : ℕ) (head : Head) (body : Statements) → IsTrue (is_good_statement scope around first (do_loop head body)) → GoodLoop scope around first head body
good_loop scope around first head body good =
    let number = head.number == first in
    let deep = nat_lt (length around) 6 in
    let here = is_good_head scope around head in
    let last = and_parts (number && deep && here) (are_good_statements scope (head.number ∷ around) (first + 1) body) good in
    let third = and_parts (number && deep) here last.0 in
    let two = and_parts number deep third.0 in
    record { number = eqb-true head.number first two.0; bounds = third.1; inside = last.1 }

mutual
  statement-given : (loops : ℕ) (scope : Scope) (around : List ℕ) (first : ℕ) (s : Statement) → AreWithin loops around → 1 ≤ first → first + loops_in s ≤ loops + 1 →
      IsTrue (is_good_statement scope around first s) → IsTrue (is_all_given loops scope.constants s)
  statement-given loops scope around first (do_loop head body) within low high good =
      let g = good_loop scope around first head body good in
      let reach : IsTrue (nat_le head.number loops) = grind (arith, nat_tests, g.number, high) in
      let number : IsTrue (is_number_of loops head.number) = and_from (nat_le 1 head.number) (nat_le head.number loops) (grind (arith, nat_tests, g.number, low)) reach in
      let inner = and_from (nat_le head.number loops) (list_all (λ l. nat_le l loops) around) reach within in
      let forms = are_given loops scope.constants (head.m1 ∷ head.m2 ∷ []) in
      and_from (is_number_of loops head.number && forms) (are_all_given loops scope.constants body)
      (and_from (is_number_of loops head.number) forms number (head-given loops scope around within head g.bounds))
      (statements-given loops scope (head.number ∷ around) (first + 1) body inner (omega arith) (omega (arith, high)) g.inside)
  statement-given loops scope around first (work w) within low high good = work-given loops scope around within w good
  statement-given loops scope around first (continue line) within low high good = refl

  pub statements-given : (loops : ℕ) (scope : Scope) (around : List ℕ) (first : ℕ) (ss : Statements) → AreWithin loops around → 1 ≤ first → first + loops_of ss ≤ loops + 1 →
      IsTrue (are_good_statements scope around first ss) → IsTrue (are_all_given loops scope.constants ss)
  statements-given loops scope around first done within low high good = refl
  statements-given loops scope around first (next s rest) within low high good =
      let g = and_parts (is_good_statement scope around first s) (are_good_statements scope around (first + loops_in s) rest) good in
      and_from (is_all_given loops scope.constants s) (are_all_given loops scope.constants rest)
      (statement-given loops scope around first s within low (omega (arith, high)) g.0)
      (statements-given loops scope around (first + loops_in s) rest within (omega (arith, low)) (omega (arith, high)) g.1)

-- there are at most as many loops as statements
mutual
  loops_in-few : (s : Statement) → loops_in s ≤ statements_in s
  loops_in-few (do_loop head body) = let rest = loops_of-few body in omega (arith, rest)
  loops_in-few (work w) = omega arith
  loops_in-few (continue line) = omega arith

  loops_of-few : (ss : Statements) → loops_of ss ≤ statement_count ss
  loops_of-few done = omega arith
  loops_of-few (next s rest) = omega (arith, loops_in-few s, loops_of-few rest)

pub loops-few : (tree : Tree) → IsWellFormed tree → loops_of tree.items < 400
loops-few tree w = omega (arith, loops_of-few tree.items, (well_formed_parts tree w).few)

-- in a well-formed program each number named is of a thing that is there
pub all-given : (tree : Tree) (loops : ℕ) → IsWellFormed tree → loops_of tree.items ≤ loops → IsTrue (are_all_given loops (length tree.params) tree.items)
all-given tree loops w h =
    statements-given loops (scope_of tree) [] 1 tree.items refl (omega arith) (omega (arith, h)) (well_formed_parts tree w).statements

-- a small number is a value of the language
pub small-value : (z : ℤ) → is_small z ≡ true → is_value z ≡ true
small-value (pos n) h = grind (arith, nat_tests)
small-value (negsuc n) h = grind (arith, nat_tests)
