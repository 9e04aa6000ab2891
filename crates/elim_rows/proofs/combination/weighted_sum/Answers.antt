use Rattle.std.proofs.Common.{rules, ◌*ℤ◌, FitsSigned}
use Rattle.std.specs.Int.{w128}
use Rattle.std.proofs.lemmas.Int.{to_z-of_z}
use Rattle.elim_rows.proofs.Combined.{weighted_sum_is}
use Rattle.elim_rows.proofs.combination.weighted_sum.Goals as goal

pub returns : goal.returns
returns c =
    let fits_m : FitsSigned w128 c.args.m = c.ranges.m in
    let fits_a : FitsSigned w128 c.args.a = c.ranges.a in
    let fits_n : FitsSigned w128 c.args.n = c.ranges.n in
    let fits_b : FitsSigned w128 c.args.b = c.ranges.b in
    let fits_x : FitsSigned w128 c.in_ok-narrow_product.field-0 = search rules in
    let fits_y : FitsSigned w128 c.in_ok-narrow_product-2.field-0 = search rules in
    weighted_sum_is (c.args.m *ℤ c.args.a) (c.args.n *ℤ c.args.b) c.in_ok-narrow_product.field-0 c.in_ok-narrow_product-2.field-0 c.narrow_sum.result
    (simp to_z-of_z at c.in_ok-narrow_product.ensures) (simp to_z-of_z at c.in_ok-narrow_product-2.ensures) (simp to_z-of_z at c.narrow_sum.ensures)
