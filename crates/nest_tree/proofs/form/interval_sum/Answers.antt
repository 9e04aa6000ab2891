use Rattle.std.proofs.Common.{◌∙◌, length, Fits, w32, get_or, pos, to_z, w64, arith, rules, FitsSigned, to_z-of_z}
use mir.Syntax.{w128}
use Rattle.nest_tree.proofs.Sums.{pair-at, interval_sum-step, near-step}
use Rattle.nest_tree.proofs.form.interval_sum.Goals as goal

pub overflow_sub-number : goal.overflow_sub-number
overflow_sub-number c =
    let p = pair-at 0 (length c.args.ends.now) c.args.pairs.now c.loop-number.number-index (0, pos 0) c.requires.rising c.requires.given c.loop-number-test.true in
    omega (arith, p.above)

pub multiple-least-requires : goal.multiple-least-requires
multiple-least-requires c =
    let f : FitsSigned w64 (get_or c.args.pairs.now c.loop-number.number-index (0, pos 0)).1 = search rules in
    let p = pair-at 0 (length c.args.ends.now) c.args.pairs.now c.loop-number.number-index (0, pos 0) c.requires.rising c.requires.given c.loop-number-test.true in
    simp to_z-of_z p.small

pub overflow_add-low : goal.overflow_add-low
overflow_add-low c =
    let f : FitsSigned w128 c.multiple-least.result.0 = search rules in
    let few : Fits w32 (get_or c.args.pairs.now c.loop-number.number-index (0, pos 0)).0 = search rules in
    let fixed = c.ranges.fixed in
    let p = pair-at 0 (length c.args.ends.now) c.args.pairs.now c.loop-number.number-index (0, pos 0) c.requires.rising c.requires.given c.loop-number-test.true in
    let low = simp to_z-of_z at c.loop-number.invariant.low in
    let next = near-step c.args.fixed (to_z w128 c.loop-number.low-bits) c.multiple-least.result.0 c.loop-number.number-index _ c.requires.fixed low (omega (arith, p.above)) few c.multiple-least.ensures.low in
    simp to_z-of_z next.fits

pub overflow_add-high : goal.overflow_add-high
overflow_add-high c =
    let f : FitsSigned w128 c.multiple-least.result.1 = search rules in
    let few : Fits w32 (get_or c.args.pairs.now c.loop-number.number-index (0, pos 0)).0 = search rules in
    let fixed = c.ranges.fixed in
    let p = pair-at 0 (length c.args.ends.now) c.args.pairs.now c.loop-number.number-index (0, pos 0) c.requires.rising c.requires.given c.loop-number-test.true in
    let high = simp to_z-of_z at c.loop-number.invariant.high in
    let next = near-step c.args.fixed (to_z w128 c.loop-number.high-bits) c.multiple-least.result.1 c.loop-number.number-index _ c.requires.fixed high (omega (arith, p.above)) few c.multiple-least.ensures.high in
    simp to_z-of_z next.fits

pub loop-number-preserved : goal.loop-number-preserved
loop-number-preserved c =
    let pair = get_or c.args.pairs.now c.loop-number.number-index (0, pos 0) in
    let g : FitsSigned w64 pair.1 = search rules in
    let f0 : FitsSigned w128 c.multiple-least.result.0 = search rules in
    let f1 : FitsSigned w128 c.multiple-least.result.1 = search rules in
    let few : Fits w32 pair.0 = search rules in
    let fixed = c.ranges.fixed in
    let p = pair-at 0 (length c.args.ends.now) c.args.pairs.now c.loop-number.number-index (0, pos 0) c.requires.rising c.requires.given c.loop-number-test.true in
    let low = simp to_z-of_z at c.loop-number.invariant.low in
    let high = simp to_z-of_z at c.loop-number.invariant.high in
    let lower = near-step c.args.fixed (to_z w128 c.loop-number.low-bits) c.multiple-least.result.0 c.loop-number.number-index _ c.requires.fixed low (omega (arith, p.above)) few c.multiple-least.ensures.low in
    let higher = near-step c.args.fixed (to_z w128 c.loop-number.high-bits) c.multiple-least.result.1 c.loop-number.number-index _ c.requires.fixed high (omega (arith, p.above)) few c.multiple-least.ensures.high in
    let low_fits = lower.fits in
    let high_fits = higher.fits in
    let e = simp to_z-of_z at c.multiple-least.ensures.value in
    let step = interval_sum-step c.args.pairs.now c.args.ends.now c.loop-number.number-index (0, pos 0) (to_z w128 c.loop-number.low-bits) (to_z w128 c.loop-number.high-bits) c.multiple-least.result c.loop-number-test.true e in
    let kept = simp to_z-of_z at c.loop-number.invariant.sum in
    record { sum = simp to_z-of_z (step ∙ kept); few = lower.few; low = simp to_z-of_z lower.near; high = simp to_z-of_z higher.near }
