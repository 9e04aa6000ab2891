use Rattle.std.proofs.Common.{◌≡◌, drop}
use Rattle.nest_tree.specs.View.{expression_of}
use Rattle.nest_agree.specs.Same.{same, same_list}
use Rattle.nest_agree.proofs.expressions.+same.Given as goal

abbrev pub invariant-same_all-loop-place : goal.invariant-same_all-loop-place
invariant-same_all-loop-place l =
    same_list (λ e f. same (expression_of e) (expression_of f)) (drop l.place l.a) (drop l.place l.b) ≡ same_list (λ e f. same (expression_of e) (expression_of f)) l.a l.b
