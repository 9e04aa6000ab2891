use Rattle.std.proofs.Common.{◌∙◌, ◌-◌, length, get_or, pos, w64, arith, rules, FitsSigned, to_z-of_z}
use Rattle.nest_tree.proofs.Sums.{pair-at, wrapped_sum-step}
use Rattle.nest_tree.proofs.form.wrapped_sum.Goals as goal

pub overflow_sub-number : goal.overflow_sub-number
overflow_sub-number c =
    let p = pair-at 0 (length c.args.values.now) c.args.pairs.now c.loop-number.number-index (0, pos 0) c.requires.rising c.requires.given c.loop-number-test.true in
    omega (arith, p.above)

pub loop-number-preserved : goal.loop-number-preserved
loop-number-preserved c =
    let pair = get_or c.args.pairs.now c.loop-number.number-index (0, pos 0) in
    let f : FitsSigned w64 c.with_product-sum.result = search rules in
    let g : FitsSigned w64 pair.1 = search rules in
    let h : FitsSigned w64 (get_or c.args.values.now (pair.0 - 1) (pos 0)) = search rules in
    let e = simp to_z-of_z at c.with_product-sum.ensures in
    simp to_z-of_z (wrapped_sum-step c.args.pairs.now c.args.values.now c.loop-number.number-index (0, pos 0) _ _ c.loop-number-test.true e ∙ c.loop-number.invariant)
