use Rattle.std.proofs.Common.{arith, rules, ap, sym, ◌∙◌}
use Rattle.std.proofs.lemmas.List.{at_drop_all}
use Rattle.nest_tree.specs.View.{statements_from, statement_of}
use Rattle.nest_tree.specs.declared.tree.Item.{the_lemmas}
use Rattle.nest_model.specs.Instances.{works_in, works_of}
use Rattle.nest_walk.proofs.Trees.{works-more, works-loop}
use Rattle.nest_walk.proofs.count.+works.Goals as goal

pub work_count-works_in_item-count-requires : goal.work_count-works_in_item-count-requires
work_count-works_in_item-count-requires t c =
    let more = works-more c.args.items.now c.loop-item.item-index c.item-item.result c.loop-item-test.true c.item-item.is in
    (search (rules, the_lemmas), omega (arith, more, c.loop-item.invariant, c.requires))

pub work_count-overflow_add-count : goal.work_count-overflow_add-count
work_count-overflow_add-count t c =
    let more = works-more c.args.items.now c.loop-item.item-index c.item-item.result c.loop-item-test.true c.item-item.is in
    search (rules, more)

pub work_count-loop-item-preserved : goal.work_count-loop-item-preserved
work_count-loop-item-preserved t c =
    let more = works-more c.args.items.now c.loop-item.item-index c.item-item.result c.loop-item-test.true c.item-item.is in
    omega (arith, more, c.loop-item.invariant, c.works_in_item-count.ensures)

pub work_count-returns : goal.work_count-returns
work_count-returns t c =
    let none = at_drop_all (λ xs. works_of (statements_from xs)) c.args.items.now c.loop-item.item-index c.loop-item-test.false in
    omega (arith, none, c.loop-item.invariant)

pub works_in_item-work_count-requires : goal.works_in_item-work_count-requires
works_in_item-work_count-requires t c =
    let whole = ap (λ i. works_in (statement_of i)) c.in-Loop.is ∙ works-loop c.in-Loop.nest in
    (search (rules, the_lemmas), rw c.deref.ensures.value (omega (arith, whole, c.requires)))

pub works_in_item-returns-in-Loop : goal.works_in_item-returns-in-Loop
works_in_item-returns-in-Loop t c =
    let whole = ap (λ i. works_in (statement_of i)) c.in-Loop.is ∙ works-loop c.in-Loop.nest in
    c.work_count.ensures ∙ ap (λ xs. works_of (statements_from xs)) c.deref.ensures.value ∙ sym whole
