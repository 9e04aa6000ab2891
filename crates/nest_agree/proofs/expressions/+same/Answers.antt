use Rattle.std.proofs.Common.{◌≡◌, ◌&&◌, ◌==◌, true, ap, sym, ◌∙◌}
use Rattle.nest_tree.specs.View.{expression_of, expressions_from}
use Rattle.nest_tree.proofs.Rows.{expression_of-Min, expression_of-Max}
use Rattle.nest_agree.specs.Same.{arguments_of, kind_of, same, same_all}
use Rattle.nest_agree.proofs.Lists.{arguments_listed}
use Rattle.nest_agree.proofs.expressions.+same.Goals as goal

pub same-returns-then-kind-eq8 : goal.same-returns-then-kind-eq8
same-returns-then-kind-eq8 t c =
    let y = expression_of c.args.b.now in
    let xs = expressions_from c.in-Min.xs.items in
    let is : (kind_of y == 8) ≡ true = ap (λ k. k == 8) (sym c.kind-in-Min.ensures ∙ c.if-kind-eq8.true) in
    c.same_all.ensures ∙ sym (arguments_listed c.deref-then-kind-eq8.result.now c.arguments.result.now)
    ∙ ap (λ ys. same_all (expressions_from ys) (expressions_from c.arguments.result.now)) c.deref-then-kind-eq8.ensures.value
    ∙ ap (same_all xs) c.arguments.ensures ∙ ap (λ b. b && same_all xs (arguments_of y)) (sym is)
    ∙ sym (ap (λ e. same (expression_of e) y) c.in-Min.is ∙ ap (λ e. same e y) (expression_of-Min c.in-Min.xs))

pub same-returns-then-kind-eq9 : goal.same-returns-then-kind-eq9
same-returns-then-kind-eq9 t c =
    let y = expression_of c.args.b.now in
    let xs = expressions_from c.in-Max.xs.items in
    let is : (kind_of y == 9) ≡ true = ap (λ k. k == 9) (sym c.kind-in-Max.ensures ∙ c.if-kind-eq9.true) in
    c.same_all-then-kind-eq9.ensures ∙ sym (arguments_listed c.deref-then-kind-eq9.result.now c.arguments-then-kind-eq9.result.now)
    ∙ ap (λ ys. same_all (expressions_from ys) (expressions_from c.arguments-then-kind-eq9.result.now)) c.deref-then-kind-eq9.ensures.value
    ∙ ap (same_all xs) c.arguments-then-kind-eq9.ensures ∙ ap (λ b. b && same_all xs (arguments_of y)) (sym is)
    ∙ sym (ap (λ e. same (expression_of e) y) c.in-Max.is ∙ ap (λ e. same e y) (expression_of-Max c.in-Max.xs))
