use Rattle.std.proofs.Common.{ℤ, List, reverse, ap, ◌∙◌}
use Rattle.nest_tree.specs.Tree.{Declaration}
use Rattle.f77_scene.specs.Directives.{Placing, placed}
use Rattle.f77_scene.specs.Scene.{Name, bounds_named}
use Rattle.f77_source.proofs.variable.array.Goals as goal

abbrev array_with : Name → List (ℤ × ℤ) → Placing → Declaration
array_with n bounds p = record { name = n; bounds = bounds; axis = p.0; spread = p.1 }

pub returns : goal.returns
returns c =
    let texts = reverse c.args.directives.now in
    let n = c.args.name.now in
    let bounds = bounds_named c.args.known.now.arrays n in
    let placing : Placing = (c.in_ok-axis.axis, c.in_ok-axis.spread) in
    ap (λ m. array_with m c.in_ok-from_slice-2.field-0.items placing) c.in_ok-from_slice.ensures.items ∙ ap (λ b. array_with n b placing) (c.in_ok-from_slice-2.ensures.items ∙ c.bounds.ensures)
    ∙ ap (array_with n bounds) (c.in_ok-axis.ensures ∙ ap (placed texts n) c.dimensions.ensures)
