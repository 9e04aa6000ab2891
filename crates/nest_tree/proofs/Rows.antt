-- What a nested list of the program's types holds, as a list.
use Rattle.std.proofs.Common.{◌≡◌, ℕ, ◌+◌, ◌<◌, List, ◌++◌, map, length, drop, get_or, Vec, Global, refl, ap, sym, ◌∙◌}
use Rattle.std.specs.List.{flat_map}
use Rattle.std.proofs.lemmas.List.{drop_more}
use Rattle.nest_tree.specs.declared.tree.PrintItem.{PrintItem}
use Rattle.nest_tree.specs.Loads.{loads_in_item}
use Rattle.nest_tree.specs.Tree.{one_more, least_of, greatest_of, do_loop, next, Work, work}
use Rattle.nest_tree.specs.View.{expression_of, expressions_of, expressions_from, printed_of, head_of, loop_of, statement_of, statements_of, statements_from}
use Rattle.nest_tree.specs.declared.tree.Nest.{Nest}
use Rattle.nest_tree.specs.declared.tree.Item.{Item, Loop, Loop', Row_of-Item, end_of-Item, more_of-Item, items-the_row-Item, items_hidden-the_row-Item-0}
use Rattle.nest_tree.specs.declared.tree.Expr.{Expr, Min, Max, Min', Row_of-Expr, end_of-Expr, more_of-Expr, items-the_row-Expr, items_hidden-the_row-Expr-0}
use mathlib.Core.Former.{Count}

expressions_from-row : (n : _) (row : Row_of-Expr n) → expressions_from (items-the_row-Expr n row) ≡ expressions_of row
expressions_from-row n end_of-Expr = refl
expressions_from-row n (more_of-Expr e rest) = ap (one_more (expression_of e)) (expressions_from-row _ rest)

abbrev row_of : Expr → (n : Count) × Row_of-Expr n
row_of (Min' _ row) = (_, row)
row_of _ = (_, end_of-Expr)

-- MIN and MAX of the arguments in a list
pub expression_of-Min : (arguments : Vec Expr Global) → expression_of (Min arguments) ≡ least_of (expressions_from arguments.items)
expression_of-Min arguments =
    let row = row_of (Min arguments) in
    ap least_of (sym (expressions_from-row row.0 row.1) ∙ ap expressions_from (items_hidden-the_row-Expr-0 arguments))

pub expression_of-Max : (arguments : Vec Expr Global) → expression_of (Max arguments) ≡ greatest_of (expressions_from arguments.items)
expression_of-Max arguments =
    let row = row_of (Min arguments) in
    ap greatest_of (sym (expressions_from-row row.0 row.1) ∙ ap expressions_from (items_hidden-the_row-Expr-0 arguments))

-- arguments, one after another
pub arguments_more : (es : List Expr) (i : ℕ) (e : Expr) → i < length es → e ≡ get_or es i e → expressions_from (drop i es) ≡ one_more (expression_of e) (expressions_from (drop (i + 1) es))
arguments_more es i e lt is = ap expressions_from (drop_more es i e lt) ∙ ap (λ x. one_more (expression_of x) (expressions_from (drop (i + 1) es))) (sym is)

-- items of a PRINT, one after another
pub printed_more : (items : List PrintItem) (i : ℕ) (item : PrintItem) → i < length items → item ≡ get_or items i item →
    flat_map loads_in_item (map printed_of (drop i items)) ≡ loads_in_item (printed_of item) ++ flat_map loads_in_item (map printed_of (drop (i + 1) items))
printed_more items i item lt is =
    ap (λ xs. flat_map loads_in_item (map printed_of xs)) (drop_more items i item lt) ∙ ap (λ x. loads_in_item (printed_of x) ++ flat_map loads_in_item (map printed_of (drop (i + 1) items))) (sym is)

pub statements_from-row : (n : _) (row : Row_of-Item n) → statements_from (items-the_row-Item n row) ≡ statements_of row
statements_from-row n end_of-Item = refl
statements_from-row n (more_of-Item s rest) = ap (next (statement_of s)) (statements_from-row _ rest)

abbrev row_of_items : Item → (n : Count) × Row_of-Item n
row_of_items (Loop' n m1 m2 step _ row line) = (_, row)
row_of_items _ = (_, end_of-Item)

-- a loop with its body in a list
pub statement_of-Loop : (nest : Nest) → statement_of (Loop nest) ≡ loop_of nest
statement_of-Loop nest =
    let row = row_of_items (Loop nest) in
    ap (do_loop (head_of nest)) (sym (statements_from-row row.0 row.1) ∙ ap statements_from (items_hidden-the_row-Item-0 nest.items))

-- statements, one after another
pub statements_more : (items : List Item) (i : ℕ) (item : Item) → i < length items → item ≡ get_or items i item →
    statements_from (drop i items) ≡ next (statement_of item) (statements_from (drop (i + 1) items))
statements_more items i item lt is =
    ap statements_from (drop_more items i item lt) ∙ ap (λ x. next (statement_of x) (statements_from (drop (i + 1) items))) (sym is)

-- a statement of work is of one piece of work
pub same_work : (w w' : Work) → work w ≡ work w' → w ≡ w'
same_work w w' h = cc
