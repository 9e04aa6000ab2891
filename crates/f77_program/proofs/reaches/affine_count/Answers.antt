use Rattle.std.proofs.Common.{◌≡◌, ◌+◌, length, map, sym, ap, ◌∙◌, arith}
use Rattle.std.proofs.lemmas.List.{length-map}
use Rattle.f77_forms.specs.View as view
use Rattle.f77_program.specs.Counts as spec
use Rattle.f77_program.proofs.Parted.{listed_arguments}
use Rattle.f77_program.proofs.reaches.affine_count.Goals as goal

pub returns-in-Assign : goal.returns-in-Assign
returns-in-Assign c =
    let arguments = c.in-Assign.assignment.target.arguments in
    let count : c.len.result ≡ length (map view.expression_of arguments.items) = omega (arith, c.len.ensures, length-map arguments.items view.expression_of) in
    count ∙ ap length (sym (listed_arguments (map view.expression_of arguments.items))) ∙ ap (λ st. spec.affine_count (view.statement_of st)) (sym c.in-Assign.is)

pub returns-in-If : goal.returns-in-If
returns-in-If c =
    let arguments = c.in-If.assignment.target.arguments in
    let count : 2 + c.len-in-If.result ≡ 2 + length (map view.expression_of arguments.items) = omega (arith, c.len-in-If.ensures, length-map arguments.items view.expression_of) in
    count ∙ ap (λ es. 2 + length es) (sym (listed_arguments (map view.expression_of arguments.items))) ∙ ap (λ st. spec.affine_count (view.statement_of st)) (sym c.in-If.is)
