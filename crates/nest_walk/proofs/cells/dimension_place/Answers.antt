use Rattle.std.proofs.Common.{◌+ℤ◌, ◌-ℤ◌, ◌*ℤ◌, pos, ap, ◌∙◌, w64, rules, FitsSigned}
use Rattle.std.proofs.lemmas.Int.{to_z-of_z, int_wrap-add_left}
use Rattle.nest_tree.specs.Values.{wrapped}
use Rattle.nest_tree.proofs.Places.{good_dimension}
use Rattle.nest_walk.proofs.CellSums.{extent_fits, span_fits}
use Rattle.nest_walk.proofs.cells.dimension_place.Goals as goal

pub returns : goal.returns
returns c =
    let low = c.args.bounds.0 in
    let high = c.args.bounds.1 in
    let good = good_dimension c.args.bounds c.requires in
    let f1 : FitsSigned w64 low = search rules in
    let f2 : FitsSigned w64 high = search rules in
    let f3 = c.ranges.subscript in
    let f4 = c.ranges.later in
    let f5 : FitsSigned w64 c.difference.result = search rules in
    let f6 : FitsSigned w64 c.with_product.result = search rules in
    let f7 = span_fits c.args.bounds good in
    let f8 = extent_fits c.args.bounds good in
    let difference = simp to_z-of_z at c.difference.ensures in
    let product = simp to_z-of_z at c.with_product.ensures in
    to_z-of_z w64 c.with_product.result f6 ∙ product ∙ ap (λ z. wrapped (z +ℤ (high -ℤ low +ℤ pos 1) *ℤ c.args.later)) difference
    ∙ int_wrap-add_left w64 (c.args.subscript -ℤ low) ((high -ℤ low +ℤ pos 1) *ℤ c.args.later)
