use Rattle.std.proofs.Common.{ℤ, ◌+ℤ◌, drop}
use Rattle.nest_tree.specs.Form.{dot}
use Rattle.nest_tree.specs.Tree.{param_values}
use Rattle.nest_tree.specs.View.{tree_of}
use Rattle.c_expressions.specs.Sums.{Values}
use Rattle.c_owners.specs.Owners.{IsAlike}
use Rattle.c_owners.proofs.Likeness.{AlikeLeft}
use Rattle.c_owners.proofs.layout.Layout.add_residues.Given as goal

abbrev pub invariant-loop-number : goal.invariant-loop-number
invariant-loop-number l = (all : Values → ℤ) → IsAlike l.self.workers l.fn.sum all →
    AlikeLeft l.self.workers l.sum (λ v. dot (drop l.number-index l.params) (param_values (tree_of l.self.program.now))) (λ v. all v +ℤ dot l.params (param_values (tree_of l.self.program.now)))
