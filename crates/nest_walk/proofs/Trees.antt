-- A loop's body as a list and as a row, and statements from one on.
use Rattle.std.proofs.Common.{◌≡◌, ℕ, ◌+◌, ◌-◌, ◌<◌, Bool, false, not, List, get_or, drop, length, if◌then◌else◌, ap, sym, ◌∙◌}
use Rattle.std.specs.Prelude.{slice_index_or}
use Rattle.std.proofs.lemmas.List.{at_drop_more}
use Rattle.nest_tree.specs.Tree.{do_loop}
use Rattle.nest_tree.specs.View.{statement_of, statements_from}
use Rattle.nest_tree.specs.declared.tree.Item.{Item, Loop, Loop', Row_of-Item, end_of-Item, items_hidden-the_row-Item-0}
use Rattle.nest_tree.specs.declared.tree.Nest.{Nest}
use Rattle.nest_tree.proofs.Rows.{statements_from-row}
use Rattle.nest_model.specs.Instances.{works_in, works_of}
use Rattle.nest_model.specs.Visits.{stops_in, stops_of}
use Rattle.nest_walk.specs.Frames.{head_of}
use Rattle.nest_walk.specs.Walks.{enters_but}
use mathlib.Core.Former.{Count}

abbrev row_of : Item → (n : Count) × Row_of-Item n
row_of (Loop' n m1 m2 step shape row line) = (_, row)
row_of _ = (_, end_of-Item)

-- a loop with its body in a list
pub statement_of-Loop : (nest : Nest) → statement_of (Loop nest) ≡ do_loop (head_of nest) (statements_from nest.items.items)
statement_of-Loop nest =
    let row = row_of (Loop nest) in
    ap (do_loop (head_of nest)) (sym (statements_from-row row.0 row.1) ∙ ap statements_from (items_hidden-the_row-Item-0 nest.items))

-- how many stops and works stand from a statement on
pub stops-more : (enters : ℕ → Bool) (items : List Item) (i : ℕ) (item : Item) → i < length items → item ≡ get_or items i item →
    stops_of enters (statements_from (drop i items)) ≡ stops_in enters (statement_of item) + stops_of enters (statements_from (drop (i + 1) items))
stops-more enters items i item h is =
    at_drop_more (λ xs. stops_of enters (statements_from xs)) items i item h ∙ ap (λ x. stops_in enters (statement_of x) + stops_of enters (statements_from (drop (i + 1) items))) (sym is)

pub works-more : (items : List Item) (i : ℕ) (item : Item) → i < length items → item ≡ get_or items i item →
    works_of (statements_from (drop i items)) ≡ works_in (statement_of item) + works_of (statements_from (drop (i + 1) items))
works-more items i item h is =
    at_drop_more (λ xs. works_of (statements_from xs)) items i item h ∙ ap (λ x. works_in (statement_of x) + works_of (statements_from (drop (i + 1) items))) (sym is)

-- the stops in a loop that is entered, and the works in any
pub stops-entered : (marks : List Bool) (nest : Nest) → slice_index_or marks (nest.number - 1) false ≡ false →
    stops_in (enters_but marks) (statement_of (Loop nest)) ≡ stops_of (enters_but marks) (statements_from nest.items.items)
stops-entered marks nest h =
    ap (stops_in (enters_but marks)) (statement_of-Loop nest) ∙ ap (λ b. if not b then stops_of (enters_but marks) (statements_from nest.items.items) else 1) h

pub works-loop : (nest : Nest) → works_in (statement_of (Loop nest)) ≡ works_of (statements_from nest.items.items)
works-loop nest = ap works_in (statement_of-Loop nest)
