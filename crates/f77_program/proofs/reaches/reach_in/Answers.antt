use Rattle.std.proofs.Common.{◌++◌, ◌∷◌, [], map, sym, ap, ◌∙◌, arith}
use Rattle.std.proofs.lemmas.List.{append-nil}
use Rattle.f77_forms.specs.Form.{print}
use Rattle.f77_forms.specs.View as view
use Rattle.f77_scene.specs.Expressions.{list_of}
use Rattle.f77_scene.specs.Statements.{expressions_in, spots_in, optional}
use Rattle.f77_scene.specs.Tests.{affine_in, subscripts_in}
use Rattle.f77_program.specs.Counts.{affine_count}
use Rattle.f77_program.specs.Reaches.{reach_of}
use Rattle.f77_program.proofs.Reached.{cut}
use Rattle.f77_program.proofs.Surveyed.{here}
use Rattle.f77_program.specs.Surveys.{measures_of}
use Rattle.f77_program.proofs.reaches.reach_in.Goals as goal

pub returns-in-Do : goal.returns-in-Do
returns-in-Do c = λ given s listed.
    let d = view.do_of c.in-Do.field-0 in
    let t = cut s (d.first ∷ d.last ∷ []) (optional d.step) c.args.measures.now c.split_at.result.0.now c.split_at.result.1.now c.affine_count.result c.min.result
    (listed ∙ ap (λ st. measures_of (spots_in given s (view.statement_of st))) c.in-Do.is ∙ here s (d.first ∷ d.last ∷ optional d.step)) (c.affine_count.ensures ∙ ap (λ st. affine_count (view.statement_of st)) c.in-Do.is) c.min.ensures c.split_at.ensures.front c.split_at.ensures.back in
    c.linear_reaches.ensures ∙ t.affine ∙ ap (λ st. reach_of s (affine_in s (view.statement_of st))) (sym c.in-Do.is)

pub returns-in-Assign : goal.returns-in-Assign
returns-in-Assign c = λ given s listed.
    let a = view.assignment_of c.in-Assign.field-0 in
    let t = cut s (list_of a.target.arguments) (a.value ∷ []) c.args.measures.now c.split_at.result.0.now c.split_at.result.1.now c.affine_count.result c.min.result
    (listed ∙ ap (λ st. measures_of (spots_in given s (view.statement_of st))) c.in-Assign.is ∙ here s (list_of a.target.arguments ++ a.value ∷ [])) (c.affine_count.ensures ∙ ap (λ st. affine_count (view.statement_of st)) c.in-Assign.is) c.min.ensures c.split_at.ensures.front c.split_at.ensures.back in
    c.with_subscripts.ensures ∙ t.others ∙ ap (λ es. reach_of s (list_of a.target.arguments ++ es)) (append-nil (subscripts_in s a.value)) ∙ ap (λ st. reach_of s (affine_in s (view.statement_of st))) (sym c.in-Assign.is)

pub returns-in-If : goal.returns-in-If
returns-in-If c = λ given s listed.
    let x = view.comparison_of c.in-If.field-0 in
    let a = view.assignment_of c.in-If.field-1 in
    let t = cut s (x.left ∷ x.right ∷ list_of a.target.arguments) (a.value ∷ []) c.args.measures.now c.split_at.result.0.now c.split_at.result.1.now c.affine_count.result c.min.result
    (listed ∙ ap (λ st. measures_of (spots_in given s (view.statement_of st))) c.in-If.is ∙ here s (x.left ∷ x.right ∷ list_of a.target.arguments ++ a.value ∷ [])) (omega (arith, c.affine_count.ensures ∙ ap (λ st. affine_count (view.statement_of st)) c.in-If.is)) c.min.ensures c.split_at.ensures.front c.split_at.ensures.back in
    c.with_subscripts-in-If.ensures ∙ t.others ∙ ap (λ es. reach_of s (x.left ∷ x.right ∷ list_of a.target.arguments ++ es)) (append-nil (subscripts_in s a.value)) ∙ ap (λ st. reach_of s (affine_in s (view.statement_of st))) (sym c.in-If.is)

pub returns-in-Print : goal.returns-in-Print
returns-in-Print c = λ given s listed.
    let t = cut s [] (expressions_in s (print (map view.printed_of c.in-Print.field-0.items))) c.args.measures.now c.split_at.result.0.now c.split_at.result.1.now c.affine_count.result c.min.result
    (listed ∙ ap (λ st. measures_of (spots_in given s (view.statement_of st))) c.in-Print.is ∙ here s (expressions_in s (print (map view.printed_of c.in-Print.field-0.items)))) (c.affine_count.ensures ∙ ap (λ st. affine_count (view.statement_of st)) c.in-Print.is) c.min.ensures c.split_at.ensures.front c.split_at.ensures.back in
    c.with_subscripts-in-Print.ensures ∙ t.others ∙ ap (λ st. reach_of s (affine_in s (view.statement_of st))) (sym c.in-Print.is)
