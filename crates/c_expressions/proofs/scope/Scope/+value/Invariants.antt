use Rattle.std.proofs.Common.{◌+◌, ◌-◌, length, string_bytes, take}
use Rattle.nest_tree.specs.View.{tree_of}
use Rattle.c_expressions.proofs.Telling.{ChosenSoFar}
use Rattle.c_expressions.proofs.scope.Scope.+value.Given as goal

abbrev pub invariant-put_chosen-loop-e : goal.invariant-put_chosen-loop-e
invariant-put_chosen-loop-e l =
    ChosenSoFar (tree_of l.self.program.now) l.self.privates.now l.word (take (l.e-index + 1) l.arguments) (length l.rest - l.e-index) (string_bytes l.fn.out) (string_bytes l.out)
