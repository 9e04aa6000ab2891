use Rattle.std.proofs.Common.{arith, rules, ap, sym, ◌∙◌}
use Rattle.std.proofs.lemmas.List.{at_drop_all}
use Rattle.nest_tree.specs.View.{statements_from, statement_of}
use Rattle.nest_tree.specs.declared.tree.Item.{the_lemmas}
use Rattle.nest_model.specs.Visits.{stops_in, stops_of}
use Rattle.nest_walk.specs.Walks.{enters_but}
use Rattle.nest_walk.proofs.Trees.{stops-more, stops-entered}
use Rattle.owner_partition.proofs.cut.+phases.Goals as goal

pub phase_count-phases_in-count-requires : goal.phase_count-phases_in-count-requires
phase_count-phases_in-count-requires t c =
    let more = stops-more (enters_but c.args.closed.now) c.args.items.now c.loop-item.item-index c.item-item.result c.loop-item-test.true c.item-item.is in
    (search (rules, the_lemmas), omega (arith, more, c.loop-item.invariant, c.requires))

pub phase_count-overflow_add-count : goal.phase_count-overflow_add-count
phase_count-overflow_add-count t c =
    let more = stops-more (enters_but c.args.closed.now) c.args.items.now c.loop-item.item-index c.item-item.result c.loop-item-test.true c.item-item.is in
    search (rules, more)

pub phase_count-loop-item-preserved : goal.phase_count-loop-item-preserved
phase_count-loop-item-preserved t c =
    let more = stops-more (enters_but c.args.closed.now) c.args.items.now c.loop-item.item-index c.item-item.result c.loop-item-test.true c.item-item.is in
    omega (arith, more, c.loop-item.invariant, c.phases_in-count.ensures)

pub phase_count-returns : goal.phase_count-returns
phase_count-returns t c =
    let none = at_drop_all (λ xs. stops_of (enters_but c.args.closed.now) (statements_from xs)) c.args.items.now c.loop-item.item-index c.loop-item-test.false in
    omega (arith, none, c.loop-item.invariant)

pub phases_in-phase_count-requires : goal.phases_in-phase_count-requires
phases_in-phase_count-requires t c =
    let unmarked = sym c.is_closed_at.ensures ∙ c.if-is_closed_at.false in
    let whole = ap (λ i. stops_in (enters_but c.args.closed.now) (statement_of i)) c.in-Loop.is ∙ stops-entered c.args.closed.now c.in-Loop.nest unmarked in
    (search (rules, the_lemmas), rw c.deref.ensures.value (omega (arith, whole, c.requires)))

pub phases_in-returns-else-is_closed_at : goal.phases_in-returns-else-is_closed_at
phases_in-returns-else-is_closed_at t c =
    let unmarked = sym c.is_closed_at.ensures ∙ c.if-is_closed_at.false in
    let whole = ap (λ i. stops_in (enters_but c.args.closed.now) (statement_of i)) c.in-Loop.is ∙ stops-entered c.args.closed.now c.in-Loop.nest unmarked in
    c.phase_count.ensures ∙ ap (λ xs. stops_of (enters_but c.args.closed.now) (statements_from xs)) c.deref.ensures.value ∙ sym whole
