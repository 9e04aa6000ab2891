use Rattle.std.proofs.Common.{◌≡◌, drop}
use Rattle.nest_tree.specs.View.{declaration_of}
use Rattle.nest_agree.specs.Same.{same_kind, same_list}
use Rattle.nest_agree.proofs.agree.same_kinds.Given as goal

abbrev pub invariant-loop-place : goal.invariant-loop-place
invariant-loop-place l =
    same_list (λ v w. same_kind (declaration_of v) (declaration_of w)) (drop l.place l.a) (drop l.place l.b) ≡ same_list (λ v w. same_kind (declaration_of v) (declaration_of w)) l.a l.b
