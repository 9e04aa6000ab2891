use Rattle.std.proofs.Common.{◌≡◌, drop}
use Rattle.nest_tree.specs.View.{constant_of}
use Rattle.nest_agree.specs.Same.{same_list, same_name}
use Rattle.nest_agree.proofs.agree.same_names.Given as goal

abbrev pub invariant-loop-place : goal.invariant-loop-place
invariant-loop-place l =
    same_list (λ c d. same_name (constant_of c) (constant_of d)) (drop l.place l.a) (drop l.place l.b) ≡ same_list (λ c d. same_name (constant_of c) (constant_of d)) l.a l.b
