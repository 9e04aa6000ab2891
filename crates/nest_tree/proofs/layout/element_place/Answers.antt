use Rattle.std.proofs.Common.{ℕ, ◌*◌, ◌+◌, ◌<◌, ◌≤◌, get_or, pos, w64, arith, rules, ap, FitsSigned, to_z-of_z}
use Rattle.std.proofs.lemmas.Nat.{mul-add-lt}
use Rattle.nest_tree.specs.Layout.{element_count}
use Rattle.nest_tree.proofs.Places.{placing-at, placing-step}
use Rattle.nest_tree.proofs.layout.element_place.Goals as goal

-- a step stays within the elements
place-within : (place stride o e count : ℕ) → place < stride → o < e → stride * e ≤ count → (o * stride ≤ count) × (place + o * stride < count)
place-within place stride o e count below inside within =
    let h = mul-add-lt o stride place e inside below in (omega (arith, h), omega (arith, h))

pub overflow_mul-place : goal.overflow_mul-place
overflow_mul-place c =
    let bounds = c.args.bounds.now in
    let i = c.loop-dimension.dimension in
    let next = placing-at bounds c.args.subscripts.now i (pos 0, pos 0) (pos 0) _ c.loop-dimension.stride _ _ c.loop-dimension-test.true (omega (arith, c.requires.as_many)) c.loop-dimension.invariant in
    omega (arith, c.requires.few, (place-within c.loop-dimension.place c.loop-dimension.stride c.offset.result _ (element_count bounds) c.loop-dimension.invariant.below c.offset.ensures.below next.within).0)

pub overflow_add-place : goal.overflow_add-place
overflow_add-place c =
    let bounds = c.args.bounds.now in
    let i = c.loop-dimension.dimension in
    let next = placing-at bounds c.args.subscripts.now i (pos 0, pos 0) (pos 0) _ c.loop-dimension.stride _ _ c.loop-dimension-test.true (omega (arith, c.requires.as_many)) c.loop-dimension.invariant in
    omega (arith, c.requires.few, (place-within c.loop-dimension.place c.loop-dimension.stride c.offset.result _ (element_count bounds) c.loop-dimension.invariant.below c.offset.ensures.below next.within).1)

pub overflow_mul-stride : goal.overflow_mul-stride
overflow_mul-stride c =
    let bounds = c.args.bounds.now in
    let i = c.loop-dimension.dimension in
    let next = placing-at bounds c.args.subscripts.now i (pos 0, pos 0) (pos 0) _ c.loop-dimension.stride _ _ c.loop-dimension-test.true (omega (arith, c.requires.as_many)) c.loop-dimension.invariant in
    omega (arith, c.requires.few, next.within, ap (λ n. c.loop-dimension.stride * n) c.extent-stride.ensures.extent)

pub loop-dimension-preserved : goal.loop-dimension-preserved
loop-dimension-preserved c =
    let bounds = c.args.bounds.now in
    let i = c.loop-dimension.dimension in
    let f : FitsSigned w64 (get_or c.args.subscripts.now i (pos 0)) = search rules in
    let e = simp to_z-of_z at c.offset.ensures.offset in
    rw c.extent-stride.ensures.extent (placing-step bounds c.args.subscripts.now i (pos 0, pos 0) (pos 0) _ _ _ _ c.loop-dimension-test.true (omega (arith, c.requires.as_many)) c.loop-dimension.invariant c.offset.result e c.offset.ensures.below)
