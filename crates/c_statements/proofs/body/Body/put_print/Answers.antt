use Rattle.std.proofs.Common.{string_bytes}
use Rattle.std.proofs.lemmas.Result.{on_ok_weaker}
use Rattle.nest_tree.specs.View.{printed_of, tree_of}
use Rattle.c_statements.specs.Layout.{item_text}
use Rattle.c_statements.proofs.Writing.{as_well, each_all, each_next, each_none, joined, printed_are}
use Rattle.c_statements.proofs.body.Body.put_print.Goals as goal

pub loop-item-init : goal.loop-item-init
loop-item-init c = each_none (λ item. item_text (tree_of c.args.self.now.scope.program.now) c.args.self.now.scope.privates.now (printed_of item)) (string_bytes c.args.out.now)

pub loop-item-preserved : goal.loop-item-preserved
loop-item-preserved c =
    each_next (λ item. item_text (tree_of c.args.self.now.scope.program.now) c.args.self.now.scope.privates.now (printed_of item)) c.args.items.now c.loop-item.item-index c.item-item.result c.item-item.result
    c.loop-item-test.true c.item-item.is c.loop-item.invariant c.in_ok-put_item.ensures

pub returns : goal.returns
returns c =
    let tree = tree_of c.args.self.now.scope.program.now in
    let privates = c.args.self.now.scope.privates.now in
    let items = as_well (printed_are tree privates c.args.items.now) (each_all (λ item. item_text tree privates (printed_of item)) c.args.items.now c.loop-item.item-index c.loop-item-test.false c.loop-item.invariant) in
    on_ok_weaker c.put_line.result (λ e. joined items e) c.put_line.ensures
