use Rattle.std.proofs.Common.{◌<◌, ◌+ℤ◌, ◌*ℤ◌, ℤ, pos, ap, sym, ◌∙◌, FitsSigned, w64, to_z, of_z, arith, rules}
use Rattle.std.proofs.lemmas.Int.{to_z-of_z}
use Rattle.nest_walk.specs.Progressions.{progression}
use Rattle.owner_partition.proofs.Trips.{stride_start, strided_values}
use Rattle.owner_partition.proofs.own.strided_values.Goals as goal

pub stride_step-requires-clause-within : goal.stride_step-requires-clause-within
stride_step-requires-clause-within c = λ h. let second = c.requires.within 1 h in omega (arith, second)

pub returns : goal.returns
returns c =
    let a = c.args in
    let f1 = c.ranges.m1 in
    let f2 = c.ranges.m3 in
    let f3 : FitsSigned w64 c.multiple.result = search rules in
    let f4 : FitsSigned w64 c.stride_step.result = search rules in
    let f5 : FitsSigned w64 (a.m1 +ℤ c.multiple.result) = stride_start a.m1 c.multiple.result c.requires.first c.multiple.ensures.near in
    let start = c.multiple.ensures.value ∙ ap (λ z. pos a.own.first *ℤ z) (to_z-of_z w64 a.m3 f2) in
    let step = λ (h : 1 < a.own.count). c.stride_step.ensures h ∙ ap (λ z. pos a.own.stride *ℤ z) (to_z-of_z w64 a.m3 f2) in
    let from = λ (z : ℤ). progression (to_z w64 (of_z w64 z)) (to_z w64 (of_z w64 c.stride_step.result)) a.own.count in
    c.new-2.ensures ∙ ap (λ z. from (z +ℤ to_z w64 (of_z w64 c.multiple.result))) (to_z-of_z w64 a.m1 f1) ∙ ap (λ z. from (a.m1 +ℤ z)) (to_z-of_z w64 c.multiple.result f3)
    ∙ ap (λ z. progression z (to_z w64 (of_z w64 c.stride_step.result)) a.own.count) (to_z-of_z w64 (a.m1 +ℤ c.multiple.result) f5)
    ∙ ap (λ z. progression (a.m1 +ℤ c.multiple.result) z a.own.count) (to_z-of_z w64 c.stride_step.result f4) ∙ ap (λ z. progression (a.m1 +ℤ z) c.stride_step.result a.own.count) start
    ∙ sym (strided_values a.m1 a.m3 c.stride_step.result a.own.first a.own.stride a.own.count step)
