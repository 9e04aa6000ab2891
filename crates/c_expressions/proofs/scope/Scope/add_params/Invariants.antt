use Rattle.std.proofs.Common.{◌*ℤ◌, drop}
use Rattle.nest_tree.specs.Form.{dot}
use Rattle.nest_tree.specs.Tree.{param_values}
use Rattle.nest_tree.specs.View.{tree_of}
use Rattle.c_expressions.proofs.Summed.{Left}
use Rattle.c_expressions.proofs.scope.Scope.add_params.Given as goal

abbrev pub invariant-loop-number : goal.invariant-loop-number
invariant-loop-number l =
    Left l.fn.sum l.sum (λ v. l.times *ℤ dot (drop l.number-index l.params) (param_values (tree_of l.self.program.now)))
    (λ v. l.times *ℤ dot l.params (param_values (tree_of l.self.program.now)))
