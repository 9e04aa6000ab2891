use Rattle.std.proofs.Common.{OnOk, string_bytes, ap, sym, ◌∙◌, subst}
use Rattle.std.proofs.lemmas.Result.{on_ok_weaker}
use Rattle.nest_tree.specs.View.{statement_of, statements_from, tree_of}
use Rattle.nest_tree.proofs.Rows.{statement_of-Loop}
use Rattle.c_statements.specs.Layout.{statement_text, statements_text}
use Rattle.c_statements.specs.Texts.{Written}
use Rattle.c_statements.proofs.Writing.{as_well, each_all, each_next, each_none, items_are, joined}
use Rattle.c_statements.proofs.body.Body.+statements.Goals as goal

pub put_statements-loop-item-init : goal.put_statements-loop-item-init
put_statements-loop-item-init t c = each_none (λ item. statement_text (tree_of c.args.self.now.scope.program.now) c.args.self.now.scope.privates.now c.args.self.now.sums.now (statement_of item)) (string_bytes c.args.out.now)

pub put_statements-loop-item-preserved : goal.put_statements-loop-item-preserved
put_statements-loop-item-preserved t c =
    each_next (λ item. statement_text (tree_of c.args.self.now.scope.program.now) c.args.self.now.scope.privates.now c.args.self.now.sums.now (statement_of item))
    c.args.items.now c.loop-item.item-index c.item-item.result c.item-item.result c.loop-item-test.true c.item-item.is c.loop-item.invariant c.in_ok-put_statement.ensures

pub put_statements-returns : goal.put_statements-returns
put_statements-returns t c =
    let tree = tree_of c.args.self.now.scope.program.now in
    let privates = c.args.self.now.scope.privates.now in
    let sums = c.args.self.now.sums.now in
    as_well (items_are tree privates sums c.args.items.now)
    (each_all (λ item. statement_text tree privates sums (statement_of item)) c.args.items.now c.loop-item.item-index c.loop-item-test.false c.loop-item.invariant)

pub put_loop-returns : goal.put_loop-returns
put_loop-returns t c =
    let tree = tree_of c.args.self.now.scope.program.now in
    let privates = c.args.self.now.scope.privates.now in
    let sums = c.args.self.now.sums.now in
    let body = subst (λ xs. Written (statements_text tree privates sums (statements_from xs)) (string_bytes c.put_loop_head.new.out) (string_bytes c.put_statements.new.out)) c.deref.ensures.value c.in_ok-put_statements.ensures in
    on_ok_weaker c.put_line.result (λ e. joined c.in_ok-put_loop_head.ensures (joined body e)) c.put_line.ensures

pub put_statement-returns-in-Loop : goal.put_statement-returns-in-Loop
put_statement-returns-in-Loop t c =
    let tree = tree_of c.args.self.now.scope.program.now in
    let privates = c.args.self.now.scope.privates.now in
    let sums = c.args.self.now.sums.now in
    subst (λ s. OnOk c.put_loop.result (Written (statement_text tree privates sums s) (string_bytes c.args.out.now) (string_bytes c.put_loop.new.out))) (sym (ap statement_of c.in-Loop.is ∙ statement_of-Loop c.in-Loop.nest)) c.put_loop.ensures

pub put_statement-returns-in_ok-put_guard-in-Assign : goal.put_statement-returns-in_ok-put_guard-in-Assign
put_statement-returns-in_ok-put_guard-in-Assign t c =
    let tree = tree_of c.args.self.now.scope.program.now in
    let privates = c.args.self.now.scope.privates.now in
    let sums = c.args.self.now.sums.now in
    on_ok_weaker c.put_assigned.result
    (λ e. subst (λ s. Written (statement_text tree privates sums s) (string_bytes c.args.out.now) (string_bytes c.put_assigned.new.out)) (sym (ap statement_of c.in-Assign.is))
    (joined c.in_ok-put_indent-in-Assign.ensures (joined c.in_ok-put_guard-in-Assign.ensures e)))
    c.put_assigned.ensures
