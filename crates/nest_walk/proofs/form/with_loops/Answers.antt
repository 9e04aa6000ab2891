use Rattle.std.proofs.Common.{◌∙◌, get_or, pos, w64, rules, FitsSigned, to_z-of_z}
use Rattle.nest_walk.specs.RoundsOf.{rounds_of}
use Rattle.nest_walk.proofs.Sums.{loops_step}
use Rattle.nest_walk.proofs.form.with_loops.Goals as goal

pub loop-number-preserved : goal.loop-number-preserved
loop-number-preserved c =
    let pair = get_or c.args.pairs.now c.loop-number.number-index (0, pos 0) in
    let f : FitsSigned w64 c.with_product-total.result = search rules in
    let g : FitsSigned w64 pair.1 = search rules in
    let h : FitsSigned w64 c.value_of.result = search rules in
    let e = rw c.value_of.ensures at (simp to_z-of_z at c.with_product-total.ensures) in
    simp to_z-of_z (loops_step c.args.pairs.now (rounds_of c.args.path.now) c.loop-number.number-index (0, pos 0) _ _ c.loop-number-test.true e ∙ c.loop-number.invariant)
