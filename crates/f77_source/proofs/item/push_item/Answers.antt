use Rattle.std.proofs.Common.{◌≡◌, ◌++◌, ◌∷◌, [], map, ap, sym, ◌∙◌}
use Rattle.std.specs.List.{flat_map}
use Rattle.f77_forms.specs.View as forms
use Rattle.f77_program.specs.Reaches.{reach_of}
use Rattle.f77_program.specs.declared.reach.Reach.TheVariants.{Within}
use Rattle.f77_source.specs.Items.{item_subscripts}
use Rattle.f77_scene.specs.Expressions.{list_of}
use Rattle.f77_scene.specs.Tests.{subscripts_in, affine_in}
use Rattle.f77_source.proofs.Formed.{reach_both}
use Rattle.f77_source.proofs.Printed.{printed-subscripts}
use Rattle.f77_source.proofs.item.push_item.Goals as goal

pub guard_of-requires-clause-right : goal.guard_of-requires-clause-right
guard_of-requires-clause-right c =
    let s = c.args.known.now in
    let a = c.in-If.a in
    let left = forms.expression_of c.in-If.comparison.left in
    let right = forms.expression_of c.in-If.comparison.right in
    let rest = list_of (forms.target_of a.target).arguments ++ subscripts_in s (forms.expression_of a.value) in
    let whole : reach_of s (left ∷ right ∷ rest) ≡ Within = ap (λ x. reach_of s (affine_in s (forms.statement_of x))) (sym c.in-If.is) ∙ c.requires.affine in
    (reach_both s (right ∷ []) rest (reach_both s (left ∷ []) (right ∷ rest) whole).1).0

pub assignment-requires-in-If-clause-affine : goal.assignment-requires-in-If-clause-affine
assignment-requires-in-If-clause-affine c =
    let s = c.args.known.now in
    let a = c.in-If.a in
    let left = forms.expression_of c.in-If.comparison.left in
    let right = forms.expression_of c.in-If.comparison.right in
    let rest = list_of (forms.target_of a.target).arguments ++ subscripts_in s (forms.expression_of a.value) in
    let whole : reach_of s (left ∷ right ∷ rest) ≡ Within = ap (λ x. reach_of s (affine_in s (forms.statement_of x))) (sym c.in-If.is) ∙ c.requires.affine in
    (reach_both s (left ∷ right ∷ []) rest whole).1

pub printed_in-requires-clause-affine : goal.printed_in-requires-clause-affine
printed_in-requires-clause-affine c =
    let s = c.args.known.now in
    ap (λ xs. reach_of s (flat_map (item_subscripts s) (map forms.printed_of xs))) c.deref.ensures.value ∙ ap (reach_of s) (printed-subscripts s (map forms.printed_of c.in-Print.printed.items))
    ∙ ap (λ x. reach_of s (affine_in s (forms.statement_of x))) (sym c.in-Print.is) ∙ c.requires.affine
