use Rattle.std.proofs.Common.{◌≡◌, drop}
use Rattle.nest_tree.specs.View.{printed_of}
use Rattle.nest_agree.specs.Same.{same_list, same_printed}
use Rattle.nest_agree.proofs.statements.same_items.Given as goal

abbrev pub invariant-loop-place : goal.invariant-loop-place
invariant-loop-place l =
    same_list (λ x y. same_printed (printed_of x) (printed_of y)) (drop l.place l.a) (drop l.place l.b) ≡ same_list (λ x y. same_printed (printed_of x) (printed_of y)) l.a l.b
