use Rattle.std.proofs.Common.{◌≡◌, drop}
use Rattle.nest_agree.specs.Same.{same_form, same_list}
use Rattle.nest_agree.proofs.forms.same_forms.Given as goal

abbrev pub invariant-loop-place : goal.invariant-loop-place
invariant-loop-place l = same_list same_form (drop l.place l.a) (drop l.place l.b) ≡ same_list same_form l.a l.b
