use Rattle.std.proofs.Common.{◌≡◌, ◌-◌, ap, ap₂, sym, ◌∙◌, subst, refl, None, Some}
use Rattle.std.specs.Prelude.{IfOk, Option, slice_get}
use Rattle.nest_tree.specs.Tree.{Declaration}
use Rattle.nest_tree.specs.View.{declaration_of, tree_of}
use Rattle.maker_anchors.specs.Anchors.{along_axis, if_one_good}
use Rattle.maker_anchors.specs.Scopes.{constants_at, loops_at}
use Rattle.maker_anchors.proofs.Found.{mapped_get, mapped_none}
use Rattle.maker_anchors.proofs.anchors.element_anchor.Goals as goal

pub returns-in-Some : goal.returns-in-Some
returns-in-Some c =
    let scope = c.args.scope in
    let tree = tree_of scope.program.now in
    let access = c.args.access.now in
    let v = c.in-Some.variable.now in
    let place : slice_get scope.program.now.variables.items (access.variable - 1) ≡ Some v = ap₂ slice_get (sym c.as_slice.ensures.value) (sym c.saturating_sub-number.ensures) ∙ sym c.in-Some.ensures in
    let there = mapped_get declaration_of scope.program.now.variables.items (access.variable - 1) (Some v) (sym place) v refl in
    subst (λ (o : Option Declaration). IfOk c.variable_anchor.result (λ a. a ≡ if_one_good (constants_at scope) (loops_at scope) (along_axis scope.workers access.subscripts o))) (sym there)
    (subst (λ fs. IfOk c.variable_anchor.result (λ a. a ≡ if_one_good (constants_at scope) (loops_at scope) (along_axis scope.workers fs (Some (declaration_of v))))) c.as_slice-in-Some.ensures c.variable_anchor.ensures)

pub returns-in-None : goal.returns-in-None
returns-in-None c =
    let scope = c.args.scope in
    let access = c.args.access.now in
    let place : None ≡ slice_get scope.program.now.variables.items (access.variable - 1) = c.in-None.ensures ∙ ap₂ slice_get c.as_slice.ensures.value c.saturating_sub-number.ensures in
    sym (ap (λ (o : Option Declaration). if_one_good (constants_at scope) (loops_at scope) (along_axis scope.workers access.subscripts o)) (mapped_none declaration_of scope.program.now.variables.items (access.variable - 1) place))
