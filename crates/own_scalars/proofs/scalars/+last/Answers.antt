use Rattle.std.proofs.Common.{ap, sym, ◌∙◌, arith}
use Rattle.std.proofs.lemmas.List.{at_drop_all}
use Rattle.nest_tree.specs.View.{statement_of, statements_from}
use Rattle.nest_tree.proofs.Rows.{statement_of-Loop, statements_more}
use Rattle.own_scalars.specs.OwnScalars.{last_stored, last_stored_in}
use Rattle.own_scalars.proofs.scalars.+last.Goals as goal

pub last_stored-loop-item-preserved : goal.last_stored-loop-item-preserved
last_stored-loop-item-preserved t c =
    let more = ap last_stored (statements_more c.args.items.now c.loop-item.item-index c.item-item.result c.loop-item-test.true c.item-item.is) in
    omega (arith, more, c.loop-item.invariant, c.last_stored_in.ensures, c.max-last.ensures)

pub last_stored-returns : goal.last_stored-returns
last_stored-returns t c =
    let none = at_drop_all (λ xs. last_stored (statements_from xs)) c.args.items.now c.loop-item.item-index c.loop-item-test.false in
    omega (arith, none, c.loop-item.invariant)

pub last_stored_in-returns-in-Loop : goal.last_stored_in-returns-in-Loop
last_stored_in-returns-in-Loop t c =
    c.last_stored.ensures ∙ ap (λ xs. last_stored (statements_from xs)) c.deref.ensures.value ∙ sym (ap last_stored_in (ap statement_of c.in-Loop.is ∙ statement_of-Loop c.in-Loop.nest))
