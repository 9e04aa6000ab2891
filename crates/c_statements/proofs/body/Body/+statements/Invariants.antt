use Rattle.std.proofs.Common.{string_bytes, take}
use Rattle.nest_tree.specs.View.{statement_of, tree_of}
use Rattle.c_statements.specs.Layout.{statement_text}
use Rattle.c_statements.specs.Texts.{Written, each_of}
use Rattle.c_statements.proofs.body.Body.+statements.Given as goal

abbrev pub invariant-put_statements-loop-item : goal.invariant-put_statements-loop-item
invariant-put_statements-loop-item l =
    Written (each_of (λ item. statement_text (tree_of l.self.scope.program.now) l.self.scope.privates.now l.self.sums.now (statement_of item)) (take l.item-index l.items)) (string_bytes l.fn.out) (string_bytes l.out)
