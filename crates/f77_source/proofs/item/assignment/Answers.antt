use Rattle.std.proofs.Common.{◌≡◌, map, ap, sym, ◌∙◌}
use Rattle.nest_tree.specs.Tree as tree
use Rattle.nest_tree.specs.Tree.{Expression}
use Rattle.nest_tree.specs.View.{expression_of}
use Rattle.nest_tree.specs.declared.tree.Access.{Access}
use Rattle.f77_forms.specs.Form.{arguments_in}
use Rattle.f77_forms.specs.View as forms
use Rattle.f77_program.specs.Reaches.{reach_of}
use Rattle.f77_program.proofs.Parted.{listed_arguments}
use Rattle.f77_scene.specs.Affine.{form_of}
use Rattle.f77_scene.specs.Expressions.{list_of}
use Rattle.f77_scene.specs.Scene.{number_among}
use Rattle.f77_scene.specs.Tests.{subscripts_in}
use Rattle.f77_scene.specs.Trees as trees
use Rattle.f77_source.proofs.Formed.{reach_both}
use Rattle.f77_source.proofs.item.assignment.Goals as goal

pub forms_of-requires : goal.forms_of-requires
forms_of-requires c =
    let s = c.args.known.now in
    let es = map forms.expression_of c.args.a.now.target.arguments.items in
    let both = reach_both s (list_of (arguments_in es)) (subscripts_in s (forms.expression_of c.args.a.now.value)) c.requires.affine in
    ap (λ xs. reach_of s (map forms.expression_of xs)) c.deref.ensures.value ∙ ap (reach_of s) (sym (listed_arguments es)) ∙ both.0

pub tree_of-requires-clause-affine : goal.tree_of-requires-clause-affine
tree_of-requires-clause-affine c =
    let s = c.args.known.now in
    let es = map forms.expression_of c.args.a.now.target.arguments.items in
    (reach_both s (list_of (arguments_in es)) (subscripts_in s (forms.expression_of c.args.a.now.value)) c.requires.affine).1

pub returns : goal.returns
returns c =
    let s = c.args.known.now in
    let vs = c.args.variables.now in
    let a = c.args.a.now in
    let es = map forms.expression_of a.target.arguments.items in
    let stored = λ (t : Access) (e : Expression). tree.work (tree.assign (record { target = t; value = e; guard = c.args.guard; line = c.args.line })) in
    let subscripts : c.in_ok-subscripts.subscripts ≡ map (form_of s) (list_of (arguments_in es)) =
    c.in_ok-subscripts.ensures ∙ ap (λ xs. map (form_of s) (map forms.expression_of xs)) c.deref.ensures.value ∙ ap (map (form_of s)) (sym (listed_arguments es)) in
    let target : c.access-target.result ≡ trees.access vs s a.target.name.items (arguments_in es) =
    c.access-target.ensures ∙ ap (λ n. record { variable = number_among vs n; subscripts = c.in_ok-subscripts.subscripts }) c.deref-2.ensures.value
    ∙ ap (λ fs. record { variable = number_among vs a.target.name.items; subscripts = fs }) subscripts in
    ap (λ t. stored t (expression_of c.in_ok-value.value)) target ∙ ap (stored (trees.access vs s a.target.name.items (arguments_in es))) c.in_ok-value.ensures
