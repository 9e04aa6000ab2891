-- Accesses and pieces of work in text order, one expression, item or statement after another.
use Rattle.std.proofs.Common.{◌≡◌, ℕ, ◌+◌, ◌<◌, ◌&&◌, ◌==◌, nat_lt, true, List, [], ◌∷◌, ◌++◌, length, map, take, get_or, refl, ap, sym, ◌∙◌, arith, append-nil, zero, suc}
use Rattle.std.specs.List.{flat_map, list_all}
use Rattle.std.proofs.lemmas.Bool.{and_parts, ltb-true}
use Rattle.std.proofs.lemmas.Grind.{flat_map-append}
use Rattle.std.proofs.lemmas.List.{take_more, map-append}
use Rattle.nest_tree.specs.Loads.{loads_among, loads_in}
use Rattle.nest_tree.specs.Tree.{Head, Expressions, least_of, greatest_of, no_more, one_more, Printed, Statements, do_loop}
use Rattle.nest_tree.specs.View.{expression_of, expressions_from, printed_of, statement_of, statements_from}
use Rattle.nest_tree.specs.WellFormed.{Scope, are_good_expressions, are_good_statements, is_good_expression, is_good_head, is_good_item, is_good_statement, loops_in}
use Rattle.nest_tree.specs.declared.tree.Expr.{Expr}
use Rattle.nest_tree.specs.declared.tree.Item.{Item}
use Rattle.nest_tree.specs.declared.tree.PrintItem.{PrintItem}
use Rattle.nest_model.specs.Visits.{every}
use Rattle.nest_walk.specs.Tables.{element}
use Rattle.nest_walk.specs.Texts.{placed_in, placed_of}

-- of a list made piece by piece, the pieces of one item more
pub pieces_taken : {X Y : Type 0} (f : X → List Y) (xs : List X) (i : ℕ) (x : X) → i < length xs → x ≡ get_or xs i x → flat_map f (take (i + 1) xs) ≡ flat_map f (take i xs) ++ f x
pieces_taken f xs i x lt is =
    ap (flat_map f) (take_more xs i x lt) ∙ flat_map-append f (take i xs) (get_or xs i x ∷ [])
    ∙ ap (λ ys. flat_map f (take i xs) ++ ys) (append-nil (f (get_or xs i x)) ∙ ap f (sym is))

-- arguments
loads_among-pieces : (es : List Expr) → loads_among (expressions_from es) ≡ flat_map (λ (e : Expr). loads_in (expression_of e)) es
loads_among-pieces [] = refl
loads_among-pieces (e ∷ es) = ap (λ xs. loads_in (expression_of e) ++ xs) (loads_among-pieces es)

all_loads_taken : (es : List Expr) (i : ℕ) (e : Expr) → i < length es → e ≡ get_or es i e →
    loads_among (expressions_from (take (i + 1) es)) ≡ loads_among (expressions_from (take i es)) ++ loads_in (expression_of e)
all_loads_taken es i e lt is =
    loads_among-pieces (take (i + 1) es) ∙ pieces_taken (λ (x : Expr). loads_in (expression_of x)) es i e lt is ∙ ap (λ xs. xs ++ loads_in (expression_of e)) (sym (loads_among-pieces (take i es)))

pub loads_taken : (es : List Expr) (i : ℕ) (e : Expr) → i < length es → e ≡ get_or es i e →
    map element (loads_among (expressions_from (take (i + 1) es))) ≡ map element (loads_among (expressions_from (take i es))) ++ map element (loads_in (expression_of e))
loads_taken es i e lt is =
    ap (map element) (all_loads_taken es i e lt is) ∙ map-append element (loads_among (expressions_from (take i es))) (loads_in (expression_of e))

pub good_argument : (scope : Scope) (around : List ℕ) (es : List Expr) (i : ℕ) (e : Expr) → i < length es → e ≡ get_or es i e → are_good_expressions scope around (expressions_from es) ≡ true → is_good_expression scope around (expression_of e) ≡ true
good_argument scope around [] i e lt is good = absurd (omega arith)
good_argument scope around (x ∷ es) zero e lt is good =
    ap (λ y. is_good_expression scope around (expression_of y)) is ∙ (and_parts (is_good_expression scope around (expression_of x)) (are_good_expressions scope around (expressions_from es)) good).0
good_argument scope around (x ∷ es) (suc i) e lt is good =
    good_argument scope around es i e (omega arith) is (and_parts (is_good_expression scope around (expression_of x)) (are_good_expressions scope around (expressions_from es)) good).1

pub least_of-good : (scope : Scope) (around : List ℕ) (es : Expressions) → is_good_expression scope around (least_of es) ≡ true → are_good_expressions scope around es ≡ true
least_of-good scope around no_more h = refl
least_of-good scope around (one_more e rest) h = h

pub greatest_of-good : (scope : Scope) (around : List ℕ) (es : Expressions) → is_good_expression scope around (greatest_of es) ≡ true → are_good_expressions scope around es ≡ true
greatest_of-good scope around no_more h = refl
greatest_of-good scope around (one_more e rest) h = h

-- items of a PRINT
pub items_taken : {Y : Type 0} (f : Printed → List Y) (items : List PrintItem) (i : ℕ) (item : PrintItem) → i < length items → item ≡ get_or items i item →
    flat_map f (map printed_of (take (i + 1) items)) ≡ flat_map f (map printed_of (take i items)) ++ f (printed_of item)
items_taken f items i item lt is =
    ap (λ xs. flat_map f (map printed_of xs)) (take_more items i item lt) ∙ ap (flat_map f) (map-append printed_of (take i items) (get_or items i item ∷ []))
    ∙ flat_map-append f (map printed_of (take i items)) (printed_of (get_or items i item) ∷ [])
    ∙ ap (λ ys. flat_map f (map printed_of (take i items)) ++ ys) (append-nil (f (printed_of (get_or items i item))) ∙ ap (λ x. f (printed_of x)) (sym is))

pub good_item : (scope : Scope) (around : List ℕ) (items : List PrintItem) (i : ℕ) (item : PrintItem) → i < length items → item ≡ get_or items i item →
    list_all (is_good_item scope around) (map printed_of items) ≡ true → is_good_item scope around (printed_of item) ≡ true
good_item scope around [] i item lt is good = absurd (omega arith)
good_item scope around (x ∷ items) zero item lt is good =
    ap (λ y. is_good_item scope around (printed_of y)) is ∙ (and_parts (is_good_item scope around (printed_of x)) (list_all (is_good_item scope around) (map printed_of items)) good).0
good_item scope around (x ∷ items) (suc i) item lt is good =
    good_item scope around items i item (omega arith) is (and_parts (is_good_item scope around (printed_of x)) (list_all (is_good_item scope around) (map printed_of items)) good).1

-- statements
placed_of-pieces : (around : List ℕ) (items : List Item) → placed_of every around (statements_from items) ≡ flat_map (λ (i : Item). placed_in every around (statement_of i)) items
placed_of-pieces around [] = refl
placed_of-pieces around (i ∷ items) = ap (λ ps. placed_in every around (statement_of i) ++ ps) (placed_of-pieces around items)

pub placed_taken : (around : List ℕ) (items : List Item) (i : ℕ) (item : Item) → i < length items → item ≡ get_or items i item →
    placed_of every around (statements_from (take (i + 1) items)) ≡ placed_of every around (statements_from (take i items)) ++ placed_in every around (statement_of item)
placed_taken around items i item lt is =
    placed_of-pieces around (take (i + 1) items) ∙ pieces_taken (λ (x : Item). placed_in every around (statement_of x)) items i item lt is
    ∙ ap (λ ps. ps ++ placed_in every around (statement_of item)) (sym (placed_of-pieces around (take i items)))

-- a statement among good ones is good, whatever number its loops begin with
pub good_among : (scope : Scope) (around : List ℕ) (items : List Item) (i : ℕ) (item : Item) (first : ℕ) → i < length items → item ≡ get_or items i item → are_good_statements scope around first (statements_from items) ≡ true →
    (n : ℕ) × (is_good_statement scope around n (statement_of item) ≡ true)
good_among scope around [] i item first lt is good = absurd (omega arith)
good_among scope around (x ∷ items) zero item first lt is good =
    (first, ap (λ y. is_good_statement scope around first (statement_of y)) is ∙ (and_parts (is_good_statement scope around first (statement_of x)) (are_good_statements scope around (first + loops_in (statement_of x)) (statements_from items)) good).0)
good_among scope around (x ∷ items) (suc i) item first lt is good =
    good_among scope around items i item (first + loops_in (statement_of x)) (omega arith) is
    (and_parts (is_good_statement scope around first (statement_of x)) (are_good_statements scope around (first + loops_in (statement_of x)) (statements_from items)) good).1

-- at most six loops lie in one another
pub good_loop-depth : (scope : Scope) (around : List ℕ) (first : ℕ) (head : Head) (body : Statements) → is_good_statement scope around first (do_loop head body) ≡ true → length around < 6
good_loop-depth scope around first head body good =
    let last = and_parts (head.number == first && nat_lt (length around) 6 && is_good_head scope around head) (are_good_statements scope (head.number ∷ around) (first + 1) body) good in
    let third = and_parts (head.number == first && nat_lt (length around) 6) (is_good_head scope around head) last.0 in
    ltb-true (length around) 6 (and_parts (head.number == first) (nat_lt (length around) 6) third.0).1
