use Rattle.std.proofs.Common.{◌&&◌, ◌==◌, ap, sym, ◌∙◌}
use Rattle.nest_tree.specs.declared.tree.Item.{Print}
use Rattle.nest_tree.specs.View.{loop_of, printed_of, statement_of, statements_from}
use Rattle.nest_tree.specs.declared.tree.PrintItem.{PrintItem}
use Rattle.nest_tree.proofs.Rows.{statement_of-Loop}
use Rattle.nest_agree.specs.Same.{same_list, same_printed, same_statement, same_statements}
use Rattle.nest_agree.proofs.Lists.{mapped_listed, statements_listed}
use Rattle.nest_agree.proofs.statements.+same.Goals as goal

pub same_statement-returns-then-same_head : goal.same_statement-returns-then-same_head
same_statement-returns-then-same_head t c =
    let x = c.in-Loop.x in
    let y = c.in-Loop-b.y in
    let first = ap statement_of c.in-Loop.is ∙ statement_of-Loop x in
    let second = ap statement_of c.in-Loop-b.is ∙ statement_of-Loop y in
    let body = statements_from x.items.items in
    let items = statements_from y.items.items in
    c.same_statements.ensures ∙ sym (statements_listed c.deref.result.now c.deref-then-same_head.result.now)
    ∙ ap (λ ss. same_statements (statements_from ss) (statements_from c.deref-then-same_head.result.now)) c.deref.ensures.value
    ∙ ap (λ ts. same_statements body (statements_from ts)) c.deref-then-same_head.ensures.value
    ∙ ap (λ b. b && same_statements body items) (sym (sym c.same_head.ensures ∙ c.if-same_head.true))
    ∙ sym (ap (λ s. same_statement s (statement_of c.args.b.now)) first ∙ ap (same_statement (loop_of x)) second)

pub same_statement-returns-then-same_items : goal.same_statement-returns-then-same_items
same_statement-returns-then-same_items t c =
    let xs = c.in-Print.items.items in
    let ys = c.in-Print-b.others.items in
    let test = λ (p q : PrintItem). same_printed (printed_of p) (printed_of q) in
    let listed = mapped_listed same_printed printed_of xs ys ∙ ap (λ zs. same_list test zs ys) (sym c.deref-in-Print-b.ensures.value) ∙ ap (same_list test c.deref-in-Print-b.result.now) (sym c.deref-in-Print-b-2.ensures.value) ∙ sym c.same_items.ensures in
    ap (λ b. b && c.in-Print.line == c.in-Print-b.number) (sym (listed ∙ c.if-same_items.true))
    ∙ sym (ap (λ i. same_statement (statement_of i) (statement_of c.args.b.now)) c.in-Print.is ∙ ap (λ i. same_statement (statement_of (Print c.in-Print.items c.in-Print.line)) (statement_of i)) c.in-Print-b.is)

pub same_statement-returns-else-same_items : goal.same_statement-returns-else-same_items
same_statement-returns-else-same_items t c =
    let xs = c.in-Print.items.items in
    let ys = c.in-Print-b.others.items in
    let test = λ (p q : PrintItem). same_printed (printed_of p) (printed_of q) in
    let listed = mapped_listed same_printed printed_of xs ys ∙ ap (λ zs. same_list test zs ys) (sym c.deref-in-Print-b.ensures.value) ∙ ap (same_list test c.deref-in-Print-b.result.now) (sym c.deref-in-Print-b-2.ensures.value) ∙ sym c.same_items.ensures in
    c.if-same_items.false ∙ ap (λ b. b && c.in-Print.line == c.in-Print-b.number) (sym (listed ∙ c.if-same_items.false))
    ∙ sym (ap (λ i. same_statement (statement_of i) (statement_of c.args.b.now)) c.in-Print.is ∙ ap (λ i. same_statement (statement_of (Print c.in-Print.items c.in-Print.line)) (statement_of i)) c.in-Print-b.is)
