use Rattle.std.proofs.Common.{◌≡◌, ◌+◌, ℕ, drop, false, ap, sym, ◌∙◌, inl, inr, arith}
use Rattle.std.specs.Prelude.{sum_by}
use Rattle.std.specs.Io.Iter.{u64_saturate}
use Rattle.std.proofs.lemmas.List.{at_drop_all}
use Rattle.std.proofs.lemmas.List.Sums.{sum_by-append}
use Rattle.nest_tree.specs.declared.tree.Access.{Access}
use Rattle.nest_tree.specs.declared.tree.Expr.{Expr}
use Rattle.nest_tree.specs.Loads.{loads_among, loads_in}
use Rattle.nest_tree.specs.View.{expression_of, expressions_from}
use Rattle.nest_tree.proofs.Rows.{arguments_more, expression_of-Max, expression_of-Min}
use Rattle.obligation_numbers.proofs.accesses.+loads.Goals as goal

pub expression_weight-returns-in-Min : goal.expression_weight-returns-in-Min
expression_weight-returns-in-Min g t c =
    let f = λ (a : Access). g.W.AccessWeight.weight c.args.weight.now a.variable false in
    c.arguments_weight.ensures ∙ ap (λ xs. u64_saturate (sum_by f (loads_among (expressions_from xs)))) c.deref.ensures.value
    ∙ sym (ap (λ e. u64_saturate (sum_by f (loads_in e))) (ap expression_of c.in-Min.is ∙ expression_of-Min c.in-Min.arguments))

pub expression_weight-returns-in-Max : goal.expression_weight-returns-in-Max
expression_weight-returns-in-Max g t c =
    let f = λ (a : Access). g.W.AccessWeight.weight c.args.weight.now a.variable false in
    c.arguments_weight-in-Max.ensures ∙ ap (λ xs. u64_saturate (sum_by f (loads_among (expressions_from xs)))) c.deref-in-Max.ensures.value
    ∙ sym (ap (λ e. u64_saturate (sum_by f (loads_in e))) (ap expression_of c.in-Max.is ∙ expression_of-Max c.in-Max.arguments))

pub arguments_weight-loop-argument-preserved : goal.arguments_weight-loop-argument-preserved
arguments_weight-loop-argument-preserved g t c =
    let f = λ (a : Access). g.W.AccessWeight.weight c.args.weight.now a.variable false in
    let rest = loads_among (expressions_from (drop (c.loop-argument.argument-index + 1) c.args.arguments.now)) in
    let more = ap (λ es. sum_by f (loads_among es)) (arguments_more c.args.arguments.now c.loop-argument.argument-index c.argument-item.result c.loop-argument-test.true c.argument-item.is)
    ∙ sum_by-append f (loads_in (expression_of c.argument-item.result)) rest in
    (omega (arith, c.saturating_add-total.ensures), omega (arith, more, c.loop-argument.invariant.1, c.expression_weight.ensures, c.saturating_add-total.ensures))

pub expression_weight-returns-in-Add : goal.expression_weight-returns-in-Add
expression_weight-returns-in-Add g t c =
    let f = λ (a : Access). g.W.AccessWeight.weight c.args.weight.now a.variable false in
    let sum : Expr → ℕ = λ e. sum_by f (loads_in (expression_of e)) in
    let whole : sum c.args.e.now ≡ sum c.in-Add.a.value + sum c.in-Add.b.value =
    let both = sum_by-append f (loads_in (expression_of c.in-Add.a.value)) (loads_in (expression_of c.in-Add.b.value)) in
    elim c.in-Add.is [ inl is ↦ ap sum is ∙ both | inr other ↦ elim other [ inl is ↦ ap sum is ∙ both | inr is ↦ ap sum is ∙ both ] ]
    in
    omega (arith, whole, ap sum c.deref-in-Add.ensures, ap sum c.deref-in-Add-2.ensures, c.expression_weight.ensures, c.expression_weight-in-Add.ensures, c.saturating_add.ensures)

pub arguments_weight-returns : goal.arguments_weight-returns
arguments_weight-returns g t c =
    let f = λ (a : Access). g.W.AccessWeight.weight c.args.weight.now a.variable false in
    let none = at_drop_all (λ xs. sum_by f (loads_among (expressions_from xs))) c.args.arguments.now c.loop-argument.argument-index c.loop-argument-test.false in
    omega (arith, none, c.loop-argument.invariant.0, c.loop-argument.invariant.1)
