use Rattle.std.proofs.Common.{string_bytes, take}
use Rattle.nest_tree.specs.View.{printed_of, tree_of}
use Rattle.c_statements.specs.Layout.{item_text}
use Rattle.c_statements.specs.Texts.{Written, each_of}
use Rattle.c_statements.proofs.body.Body.put_print.Given as goal

abbrev pub invariant-loop-item : goal.invariant-loop-item
invariant-loop-item l = Written (each_of (λ item. item_text (tree_of l.self.scope.program.now) l.self.scope.privates.now (printed_of item)) (take l.item-index l.items)) (string_bytes l.fn.out) (string_bytes l.out)
