use Rattle.std.proofs.Common.{◌∙◌, get_or, pos, map, w64, rules, FitsSigned, to_z-of_z}
use Rattle.nest_tree.specs.declared.tree.Parameter.{Parameter}
use Rattle.nest_tree.proofs.Sums.{wrapped_sum-step}
use Rattle.nest_walk.proofs.form.with_params.Goals as goal

pub loop-number-preserved : goal.loop-number-preserved
loop-number-preserved c =
    let pair = get_or c.args.pairs.now c.loop-number.number-index (0, pos 0) in
    let f : FitsSigned w64 c.with_product-total.result = search rules in
    let g : FitsSigned w64 pair.1 = search rules in
    let h : FitsSigned w64 c.param_value.result = search rules in
    let e = rw c.param_value.ensures at (simp to_z-of_z at c.with_product-total.ensures) in
    simp to_z-of_z (wrapped_sum-step c.args.pairs.now (map (λ (p : Parameter). p.value) c.args.params.now) c.loop-number.number-index (0, pos 0) _ _ c.loop-number-test.true e ∙ c.loop-number.invariant)
