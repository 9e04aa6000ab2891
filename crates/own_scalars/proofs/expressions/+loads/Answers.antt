use Rattle.std.proofs.Common.{◌+◌, ◌||◌, drop, ap, sym, ◌∙◌}
use Rattle.std.specs.List.{list_any}
use Rattle.std.proofs.lemmas.List.Folds.{list_any-append}
use Rattle.nest_tree.specs.Loads.{loads_among, loads_in}
use Rattle.nest_tree.specs.View.{expression_of, expressions_from}
use Rattle.nest_tree.proofs.Rows.{arguments_more, expression_of-Min, expression_of-Max}
use Rattle.own_scalars.specs.OwnScalars.{is_of, loads}
use Rattle.own_scalars.proofs.expressions.+loads.Goals as goal

pub loads-returns-in-Min : goal.loads-returns-in-Min
loads-returns-in-Min t c =
    let v = c.args.scalar in
    c.one_loads.ensures ∙ ap (λ xs. list_any (is_of v) (loads_among (expressions_from xs))) c.deref.ensures.value
    ∙ sym (ap (λ e. loads v (expression_of e)) c.in-Min.is ∙ ap (loads v) (expression_of-Min c.in-Min.arguments))

pub loads-returns-in-Max : goal.loads-returns-in-Max
loads-returns-in-Max t c =
    let v = c.args.scalar in
    c.one_loads-in-Max.ensures ∙ ap (λ xs. list_any (is_of v) (loads_among (expressions_from xs))) c.deref-in-Max.ensures.value
    ∙ sym (ap (λ e. loads v (expression_of e)) c.in-Max.is ∙ ap (loads v) (expression_of-Max c.in-Max.arguments))

pub one_loads-returns-then-loads : goal.one_loads-returns-then-loads
one_loads-returns-then-loads t c =
    let p = is_of c.args.scalar in
    let e = c.argument-item.result in
    let behind = loads_among (expressions_from (drop (c.loop-argument.argument-index + 1) c.args.arguments.now)) in
    let more = ap (λ xs. list_any p (loads_among xs)) (arguments_more c.args.arguments.now c.loop-argument.argument-index e c.loop-argument-test.true c.argument-item.is) ∙ list_any-append p (loads_in (expression_of e)) behind in
    sym (sym c.loop-argument.invariant ∙ more ∙ ap (λ b. b || list_any p behind) (sym c.loads.ensures ∙ c.if-loads.true))

pub one_loads-loop-argument-preserved : goal.one_loads-loop-argument-preserved
one_loads-loop-argument-preserved t c =
    let p = is_of c.args.scalar in
    let e = c.argument-item.result in
    let behind = loads_among (expressions_from (drop (c.loop-argument.argument-index + 1) c.args.arguments.now)) in
    let more = ap (λ xs. list_any p (loads_among xs)) (arguments_more c.args.arguments.now c.loop-argument.argument-index e c.loop-argument-test.true c.argument-item.is) ∙ list_any-append p (loads_in (expression_of e)) behind in
    sym (more ∙ ap (λ b. b || list_any p behind) (sym c.loads.ensures ∙ c.if-loads.false)) ∙ c.loop-argument.invariant
