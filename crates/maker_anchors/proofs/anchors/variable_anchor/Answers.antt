use Rattle.std.proofs.Common.{◌≡◌, ◌-◌, ap, ap₂, ◌∙◌, subst, Some}
use Rattle.std.specs.Prelude.{IfOk, Option, slice_get}
use Rattle.owner_partition.specs.declared.anchor.Anchor.{Anchor}
use Rattle.maker_anchors.specs.Anchors.{along, if_one_good}
use Rattle.maker_anchors.specs.Scopes.{constants_at, loops_at}
use Rattle.maker_anchors.proofs.anchors.variable_anchor.Goals as goal

pub returns-in-Some-item_at : goal.returns-in-Some-item_at
returns-in-Some-item_at c =
    let scope = c.args.scope in
    let v = c.args.variable.now in
    let first : Some c.in-Some.subscript.now ≡ slice_get c.args.subscripts.now (v.axis - 1) = c.in-Some.ensures ∙ ap (slice_get c.args.subscripts.now) c.saturating_sub-axis.ensures in
    let second : Some c.in-Some-item_at.field-0.now ≡ slice_get v.bounds.items (v.axis - 1) = c.in-Some-item_at.ensures ∙ ap₂ slice_get c.as_slice.ensures.value c.saturating_sub-axis.ensures in
    subst (λ (x : Option Anchor). IfOk c.along_anchor.result (λ o. o ≡ x)) (ap₂ (λ x y. if_one_good (constants_at scope) (loops_at scope) (along scope.workers v.spread x y)) first second) c.along_anchor.ensures
