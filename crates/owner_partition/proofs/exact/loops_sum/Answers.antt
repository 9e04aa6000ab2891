use Rattle.std.proofs.Common.{◌∙◌, ap, ◌*ℤ◌, Fits, w32, get_or, pos, to_z, w64, arith, rules, FitsSigned, to_z-of_z}
use mir.Syntax.{w128}
use Rattle.nest_walk.specs.RoundsOf.{rounds_of}
use Rattle.nest_tree.proofs.Sums.{near-step}
use Rattle.owner_partition.proofs.Sums.{loop_pair, among_step}
use Rattle.owner_partition.proofs.exact.loops_sum.Goals as goal

pub product-sum-requires : goal.product-sum-requires
product-sum-requires c =
    let f : FitsSigned w64 (get_or c.args.pairs.now c.loop-number.number-index (0, pos 0)).1 = search rules in
    simp to_z-of_z (loop_pair 0 c.args.pairs.now c.loop-number.number-index (0, pos 0) c.requires.rising c.loop-number-test.true).small

pub overflow_add-sum : goal.overflow_add-sum
overflow_add-sum c =
    let f : FitsSigned w128 c.product-sum.result = search rules in
    let few : Fits w32 (get_or c.args.pairs.now c.loop-number.number-index (0, pos 0)).0 = search rules in
    let p = loop_pair 0 c.args.pairs.now c.loop-number.number-index (0, pos 0) c.requires.rising c.loop-number-test.true in
    let start = c.ranges.start in
    let near = simp to_z-of_z at c.loop-number.invariant.near in
    let next = near-step c.args.start (to_z w128 c.loop-number.sum-bits) c.product-sum.result c.loop-number.number-index _ (omega (arith, c.requires.start)) near (omega (arith, p.above)) few c.product-sum.ensures.near in
    simp to_z-of_z next.fits

pub loop-number-preserved : goal.loop-number-preserved
loop-number-preserved c =
    let pair = get_or c.args.pairs.now c.loop-number.number-index (0, pos 0) in
    let f : FitsSigned w128 c.product-sum.result = search rules in
    let g : FitsSigned w64 pair.1 = search rules in
    let h : FitsSigned w64 c.value_of.result = search rules in
    let few : Fits w32 pair.0 = search rules in
    let p = loop_pair 0 c.args.pairs.now c.loop-number.number-index (0, pos 0) c.requires.rising c.loop-number-test.true in
    let sum = to_z w128 c.loop-number.sum-bits in
    let start = c.ranges.start in
    let near = simp to_z-of_z at c.loop-number.invariant.near in
    let next = near-step c.args.start sum c.product-sum.result c.loop-number.number-index _ (omega (arith, c.requires.start)) near (omega (arith, p.above)) few c.product-sum.ensures.near in
    let fits = next.fits in
    let e = simp to_z-of_z at c.product-sum.ensures.value ∙ ap (λ v. pair.1 *ℤ v) c.value_of.ensures in
    let step = among_step c.args.pairs.now (rounds_of c.args.path.now) c.loop-number.number-index (0, pos 0) sum c.product-sum.result c.loop-number-test.true e in
    let kept = simp to_z-of_z at c.loop-number.invariant.sum in
    record { sum = simp to_z-of_z (step ∙ kept); few = next.few; near = simp to_z-of_z next.near }
