use Rattle.std.proofs.Common.{◌≡◌, arith, ap, sym, ◌∙◌, subst, IfSome}
use Rattle.std.proofs.lemmas.List.{at_drop_all}
use Rattle.nest_tree.specs.View.{statements_from, statement_of}
use Rattle.nest_model.specs.Instances.{works_in, works_of}
use Rattle.nest_walk.proofs.Trees.{works-more, works-loop}
use Rattle.instance_runs.proofs.room.+works.Goals as goal

pub work_count-loop-item-preserved : goal.work_count-loop-item-preserved
work_count-loop-item-preserved t c =
    omega (arith, works-more c.args.items.now c.loop-item.item-index c.item-item.result c.loop-item-test.true c.item-item.is, c.loop-item.invariant, c.in_ok-works_in.ensures, c.in_ok-count.ensures.1)

pub work_count-returns : goal.work_count-returns
work_count-returns t c =
    let none = at_drop_all (λ xs. works_of (statements_from xs)) c.args.items.now c.loop-item.item-index c.loop-item-test.false in
    omega (arith, none, c.loop-item.invariant)

pub works_in-returns-in-Loop : goal.works_in-returns-in-Loop
works_in-returns-in-Loop t c =
    let whole = ap (λ xs. works_of (statements_from xs)) c.deref.ensures.value ∙ sym (ap (λ i. works_in (statement_of i)) c.in-Loop.is ∙ works-loop c.in-Loop.nest) in
    subst (λ count. IfSome c.work_count.result (λ n. n ≡ count)) whole c.work_count.ensures
