use Rattle.std.proofs.Common.{◌+◌, ◌||◌, drop, ap, sym, ◌∙◌}
use Rattle.nest_tree.specs.View.{statement_of, statements_from}
use Rattle.nest_tree.proofs.Rows.{statement_of-Loop, statements_more}
use Rattle.own_scalars.specs.Looks.{passes}
use Rattle.own_scalars.specs.OwnScalars.{some_in, some_of}
use Rattle.own_scalars.proofs.works.+some.Goals as goal

pub some_in-returns-in-Loop : goal.some_in-returns-in-Loop
some_in-returns-in-Loop t c =
    let p = passes c.args.look c.args.scalar in
    c.some_of.ensures ∙ ap (λ xs. some_of p (statements_from xs)) c.deref.ensures.value ∙ sym (ap (some_in p) (ap statement_of c.in-Loop.is ∙ statement_of-Loop c.in-Loop.nest))

pub some_of-returns-then-some_in : goal.some_of-returns-then-some_in
some_of-returns-then-some_in t c =
    let p = passes c.args.look c.args.scalar in
    let behind = statements_from (drop (c.loop-item.item-index + 1) c.args.items.now) in
    let more = ap (some_of p) (statements_more c.args.items.now c.loop-item.item-index c.item-item.result c.loop-item-test.true c.item-item.is) in
    sym (sym c.loop-item.invariant ∙ more ∙ ap (λ b. b || some_of p behind) (sym c.some_in.ensures ∙ c.if-some_in.true))

pub some_of-loop-item-preserved : goal.some_of-loop-item-preserved
some_of-loop-item-preserved t c =
    let p = passes c.args.look c.args.scalar in
    let behind = statements_from (drop (c.loop-item.item-index + 1) c.args.items.now) in
    let more = ap (some_of p) (statements_more c.args.items.now c.loop-item.item-index c.item-item.result c.loop-item-test.true c.item-item.is) in
    sym (more ∙ ap (λ b. b || some_of p behind) (sym c.some_in.ensures ∙ c.if-some_in.false)) ∙ c.loop-item.invariant
