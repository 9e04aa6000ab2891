use Rattle.std.proofs.Common.{◌∙◌, Fits, FitsSigned, w32, to_z-of_z, arith, rules}
use Rattle.std.specs.Int.{w128}
use Rattle.owner_partition.proofs.Near.{near_numbers}
use Rattle.owner_partition.proofs.own.own_trips_from.Goals as goal

pub returns-in-Block : goal.returns-in-Block
returns-in-Block c =
    let a = c.args in
    let f1 = c.ranges.start in
    let f2 = c.ranges.rise in
    let f3 : FitsSigned w128 c.clamped.result = search rules in
    let long : Fits w32 c.in-Block.field-0 = search rules in
    let worker : Fits w32 a.p = search rules in
    let e = simp to_z-of_z at c.own_trips.ensures.own in
    let n = simp to_z-of_z at c.clamped.ensures in
    near_numbers a.dist c.in-Block.field-0 a.workers a.p a.start c.clamped.result a.rise a.count c.in-Block.is (c.requires.block c.in-Block.field-0 c.in-Block.is) (omega (arith, long)) (omega (arith, worker))
    c.requires.rise c.requires.count n.near n.above n.below
    ∙ e
