use Rattle.std.proofs.Common.{arith, rules, ap, sym, ◌∙◌}
use Rattle.std.proofs.lemmas.List.{at_drop_all}
use Rattle.nest_tree.specs.View.{statements_from, statement_of}
use Rattle.nest_tree.specs.declared.tree.Item.{the_lemmas}
use Rattle.nest_model.specs.Visits.{stops_in, stops_of}
use Rattle.nest_walk.specs.Walks.{enters_but}
use Rattle.nest_walk.proofs.Trees.{stops-more, stops-entered}
use Rattle.nest_walk.proofs.count.+stops.Goals as goal

pub stop_count-stops_in_item-count-requires : goal.stop_count-stops_in_item-count-requires
stop_count-stops_in_item-count-requires t c =
    let more = stops-more (enters_but c.args.marks.now) c.args.items.now c.loop-item.item-index c.item-item.result c.loop-item-test.true c.item-item.is in
    (search (rules, the_lemmas), omega (arith, more, c.loop-item.invariant, c.requires))

pub stop_count-overflow_add-count : goal.stop_count-overflow_add-count
stop_count-overflow_add-count t c =
    let more = stops-more (enters_but c.args.marks.now) c.args.items.now c.loop-item.item-index c.item-item.result c.loop-item-test.true c.item-item.is in
    search (rules, more)

pub stop_count-loop-item-preserved : goal.stop_count-loop-item-preserved
stop_count-loop-item-preserved t c =
    let more = stops-more (enters_but c.args.marks.now) c.args.items.now c.loop-item.item-index c.item-item.result c.loop-item-test.true c.item-item.is in
    omega (arith, more, c.loop-item.invariant, c.stops_in_item-count.ensures)

pub stop_count-returns : goal.stop_count-returns
stop_count-returns t c =
    let none = at_drop_all (λ xs. stops_of (enters_but c.args.marks.now) (statements_from xs)) c.args.items.now c.loop-item.item-index c.loop-item-test.false in
    omega (arith, none, c.loop-item.invariant)

pub stops_in_item-stop_count-requires : goal.stops_in_item-stop_count-requires
stops_in_item-stop_count-requires t c =
    let unmarked = sym c.is_marked.ensures ∙ c.if-is_marked.false in
    let whole = ap (λ i. stops_in (enters_but c.args.marks.now) (statement_of i)) c.in-Loop.is ∙ stops-entered c.args.marks.now c.in-Loop.nest unmarked in
    (search (rules, the_lemmas), rw c.deref.ensures.value (omega (arith, whole, c.requires)))

pub stops_in_item-returns-else-is_marked : goal.stops_in_item-returns-else-is_marked
stops_in_item-returns-else-is_marked t c =
    let unmarked = sym c.is_marked.ensures ∙ c.if-is_marked.false in
    let whole = ap (λ i. stops_in (enters_but c.args.marks.now) (statement_of i)) c.in-Loop.is ∙ stops-entered c.args.marks.now c.in-Loop.nest unmarked in
    c.stop_count.ensures ∙ ap (λ xs. stops_of (enters_but c.args.marks.now) (statements_from xs)) c.deref.ensures.value ∙ sym whole
