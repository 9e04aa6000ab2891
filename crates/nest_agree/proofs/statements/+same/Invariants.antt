use Rattle.std.proofs.Common.{◌≡◌, drop}
use Rattle.nest_tree.specs.View.{statement_of}
use Rattle.nest_agree.specs.Same.{same_list, same_statement}
use Rattle.nest_agree.proofs.statements.+same.Given as goal

abbrev pub invariant-same_statements-loop-place : goal.invariant-same_statements-loop-place
invariant-same_statements-loop-place l =
    same_list (λ s t. same_statement (statement_of s) (statement_of t)) (drop l.place l.a) (drop l.place l.b) ≡ same_list (λ s t. same_statement (statement_of s) (statement_of t)) l.a l.b
