use Rattle.std.proofs.Common.{string_bytes, take}
use Rattle.nest_tree.specs.View.{tree_of}
use Rattle.c_statements.specs.Texts.{Written, each_of}
use Rattle.c_owners.specs.Closings.{given_text}
use Rattle.c_owners.proofs.layout.Layout.put_stores.Given as goal

abbrev pub invariant-loop-variable : goal.invariant-loop-variable
invariant-loop-variable l = Written (each_of (given_text (tree_of l.self.program.now)) (take l.variable-index l.privates)) (string_bytes l.fn.out) (string_bytes l.out)
