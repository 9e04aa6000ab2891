use Rattle.std.proofs.Common.{◌+◌, drop, ap, sym, ◌∙◌}
use Rattle.std.specs.Prelude.{if◌then◌else◌}
use Rattle.nest_tree.specs.View.{statement_of, statements_from}
use Rattle.nest_tree.proofs.Rows.{statement_of-Loop, statements_more}
use Rattle.own_scalars.specs.OwnScalars.{is_private, is_stored_first}
use Rattle.own_scalars.proofs.scalars.+first.Goals as goal

pub are_stored_first-returns-then-some_in : goal.are_stored_first-returns-then-some_in
are_stored_first-returns-then-some_in t c =
    let v = c.args.scalar in
    let s = statement_of c.item-item.result in
    let behind = statements_from (drop (c.loop-item.item-index + 1) c.args.items.now) in
    let more = ap (is_private v) (statements_more c.args.items.now c.loop-item.item-index c.item-item.result c.loop-item-test.true c.item-item.is) in
    c.is_stored_first.ensures ∙ sym (sym c.loop-item.invariant ∙ more ∙ ap (λ b. if b then is_stored_first v s else is_private v behind) (sym c.some_in.ensures ∙ c.if-some_in.true))

pub are_stored_first-loop-item-preserved : goal.are_stored_first-loop-item-preserved
are_stored_first-loop-item-preserved t c =
    let v = c.args.scalar in
    let s = statement_of c.item-item.result in
    let behind = statements_from (drop (c.loop-item.item-index + 1) c.args.items.now) in
    let more = ap (is_private v) (statements_more c.args.items.now c.loop-item.item-index c.item-item.result c.loop-item-test.true c.item-item.is) in
    sym (more ∙ ap (λ b. if b then is_stored_first v s else is_private v behind) (sym c.some_in.ensures ∙ c.if-some_in.false)) ∙ c.loop-item.invariant

pub is_stored_first-returns-in-Loop : goal.is_stored_first-returns-in-Loop
is_stored_first-returns-in-Loop t c =
    let v = c.args.scalar in
    c.are_stored_first.ensures ∙ ap (λ xs. is_private v (statements_from xs)) c.deref.ensures.value ∙ sym (ap (is_stored_first v) (ap statement_of c.in-Loop.is ∙ statement_of-Loop c.in-Loop.nest))
