-- The steps of a well-formed program's loops are small.
use Rattle.std.proofs.Common.{◌≡◌, ℕ, zero, suc, ◌+◌, ◌<◌, nat_lt, ◌&&◌, true, List, [], ◌∷◌, ◌++◌, length, get_or, refl, ap, ◌∙◌, arith}
use Rattle.std.specs.List.{list_all}
use Rattle.std.proofs.lemmas.Bool.{and_from, and_parts}
use Rattle.std.proofs.lemmas.List.{map-append}
use Rattle.std.proofs.lemmas.List.Folds.{list_all-append}
use Rattle.nest_tree.specs.Form.{is_small}
use Rattle.nest_tree.specs.Tree.{Head, Statement, Statements, do_loop, work, continue, done, next, Tree}
use Rattle.nest_tree.specs.View.{head_of, statement_of, statements_from}
use Rattle.nest_tree.specs.WellFormed.{IsWellFormed, Scope, are_good_statements, is_good_constant, is_good_declaration, is_good_head, is_good_statement, loops_in, most_statements, scope_of, statement_count}
use Rattle.nest_tree.specs.declared.tree.Item.{Item}
use Rattle.nest_rows.specs.Views.{heads_of}
use Rattle.nest_rows.specs.declared.terms.Around.{Around}
use Rattle.conflict_rules.specs.SmallSteps.{are_small_steps, has_small_steps, have_small_steps}

mutual
  small_in : (scope : Scope) (around : List ℕ) (first : ℕ) (s : Statement) → is_good_statement scope around first s ≡ true → has_small_steps s ≡ true
  small_in scope around first (do_loop head body) good =
      let last = and_parts _ (are_good_statements scope (head.number ∷ around) (first + 1) body) good in
      let heads = and_parts _ (is_good_head scope around head) last.0 in
      let step = and_parts _ (is_small head.step) heads.1 in
      and_from (is_small head.step) (have_small_steps body) step.1 (small_among scope (head.number ∷ around) (first + 1) body last.1)
  small_in scope around first (work w) good = refl
  small_in scope around first (continue line) good = refl

  small_among : (scope : Scope) (around : List ℕ) (first : ℕ) (ss : Statements) → are_good_statements scope around first ss ≡ true → have_small_steps ss ≡ true
  small_among scope around first done good = refl
  small_among scope around first (next s rest) good =
      let parts = and_parts (is_good_statement scope around first s) (are_good_statements scope around (first + loops_in s) rest) good in
      and_from (has_small_steps s) (have_small_steps rest) (small_in scope around first s parts.0) (small_among scope around (first + loops_in s) rest parts.1)

pub small_program : (tree : Tree) → IsWellFormed tree → have_small_steps tree.items ≡ true
small_program tree formed =
    let last = and_parts (list_all is_good_constant tree.params && list_all is_good_declaration tree.variables && nat_lt (statement_count tree.items) most_statements) (are_good_statements (scope_of tree) [] 1 tree.items) formed in
    small_among (scope_of tree) [] 1 tree.items last.1

-- of one statement of some
pub small_at : (items : List Item) (k : ℕ) (i : Item) → k < length items → i ≡ get_or items k i → have_small_steps (statements_from items) ≡ true → has_small_steps (statement_of i) ≡ true
small_at [] k i lt is all = absurd (omega arith)
small_at (x ∷ items) zero i lt is all = ap (λ y. has_small_steps (statement_of y)) is ∙ (and_parts (has_small_steps (statement_of x)) (have_small_steps (statements_from items)) all).0
small_at (x ∷ items) (suc k) i lt is all = small_at items k i (omega (arith, lt)) is (and_parts (has_small_steps (statement_of x)) (have_small_steps (statements_from items)) all).1

-- one statement of good ones
pub good_at : (scope : Scope) (around : List ℕ) (number : ℕ) (items : List Item) (k : ℕ) (i : Item) → k < length items → i ≡ get_or items k i → are_good_statements scope around number (statements_from items) ≡ true → (n : ℕ) × (is_good_statement scope around n (statement_of i) ≡ true)
good_at scope around number [] k i lt is all = absurd (omega arith)
good_at scope around number (x ∷ items) zero i lt is all =
    (number, ap (λ y. is_good_statement scope around number (statement_of y)) is ∙ (and_parts (is_good_statement scope around number (statement_of x)) (are_good_statements scope around (number + loops_in (statement_of x)) (statements_from items)) all).0)
good_at scope around number (x ∷ items) (suc k) i lt is all =
    let later = number + loops_in (statement_of x) in
    good_at scope around later items k i (omega (arith, lt)) is (and_parts (is_good_statement scope around number (statement_of x)) (are_good_statements scope around later (statements_from items)) all).1

-- of one loop more
pub small_behind : (around new : List Around) (a : Around) → are_small_steps (heads_of around) ≡ true → is_small a.nest.now.step ≡ true → new ≡ around ++ a ∷ [] → are_small_steps (heads_of new) ≡ true
small_behind around new a all one is =
    ap (λ xs. are_small_steps (heads_of xs)) is ∙ ap are_small_steps (map-append (λ (b : Around). head_of b.nest.now) around (a ∷ []))
    ∙ list_all-append (λ (h : Head). is_small h.step) (heads_of around) (head_of a.nest.now ∷ [])
    ∙ and_from (are_small_steps (heads_of around)) (is_small a.nest.now.step && true) all (and_from (is_small a.nest.now.step) true one refl)
