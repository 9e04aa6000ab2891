use Rattle.std.proofs.Common.{◌+◌, ◌<◌, ◌^◌, arith, rules, ap, sym, ◌∙◌}
use Rattle.std.proofs.lemmas.List.{at_drop_all}
use Rattle.nest_tree.specs.View.{statement_of, statements_from}
use Rattle.nest_tree.specs.WellFormed.{loops_in, loops_of}
use Rattle.nest_tree.specs.declared.tree.Item.{the_lemmas}
use Rattle.nest_tree.proofs.Rows.{statement_of-Loop, statements_more}
use Rattle.nest_tree.proofs.items.+loops.Goals as goal

pub loops_in_items-loops_in_item-count-requires : goal.loops_in_items-loops_in_item-count-requires
loops_in_items-loops_in_item-count-requires t c =
    let more = ap loops_of (statements_more c.args.items.now c.loop-item.item-index c.item-item.result c.loop-item-test.true c.item-item.is) in
    (search (rules, the_lemmas), omega (arith, more, c.loop-item.invariant, c.requires))

pub loops_in_items-overflow_add-count : goal.loops_in_items-overflow_add-count
loops_in_items-overflow_add-count t c =
    let more = ap loops_of (statements_more c.args.items.now c.loop-item.item-index c.item-item.result c.loop-item-test.true c.item-item.is) in
    let few : c.loop-item.count + c.loops_in_item-count.result < 2 ^ 32 = omega (arith, more, c.loop-item.invariant, c.requires, c.loops_in_item-count.ensures) in
    search (rules, few)

pub loops_in_items-loop-item-preserved : goal.loops_in_items-loop-item-preserved
loops_in_items-loop-item-preserved t c =
    let more = ap loops_of (statements_more c.args.items.now c.loop-item.item-index c.item-item.result c.loop-item-test.true c.item-item.is) in
    omega (arith, more, c.loop-item.invariant, c.loops_in_item-count.ensures)

pub loops_in_items-returns : goal.loops_in_items-returns
loops_in_items-returns t c =
    let none = at_drop_all (λ xs. loops_of (statements_from xs)) c.args.items.now c.loop-item.item-index c.loop-item-test.false in
    omega (arith, none, c.loop-item.invariant)

pub loops_in_item-loops_in_items-requires : goal.loops_in_item-loops_in_items-requires
loops_in_item-loops_in_items-requires t c =
    let whole = ap loops_in (ap statement_of c.in-Loop.is ∙ statement_of-Loop c.in-Loop.nest) in
    (search (rules, the_lemmas), rw c.deref.ensures.value (omega (arith, whole, c.requires)))

pub loops_in_item-overflow_add-result : goal.loops_in_item-overflow_add-result
loops_in_item-overflow_add-result t c =
    let whole = ap loops_in (ap statement_of c.in-Loop.is ∙ statement_of-Loop c.in-Loop.nest) in
    let inside = c.loops_in_items.ensures ∙ ap (λ xs. loops_of (statements_from xs)) c.deref.ensures.value in
    let few : 1 + c.loops_in_items.result < 2 ^ 32 = omega (arith, whole, inside, c.requires) in
    search (rules, few)

pub loops_in_item-returns-in-Loop : goal.loops_in_item-returns-in-Loop
loops_in_item-returns-in-Loop t c =
    let whole = ap loops_in (ap statement_of c.in-Loop.is ∙ statement_of-Loop c.in-Loop.nest) in
    ap (λ n. 1 + n) (c.loops_in_items.ensures ∙ ap (λ xs. loops_of (statements_from xs)) c.deref.ensures.value) ∙ sym whole
