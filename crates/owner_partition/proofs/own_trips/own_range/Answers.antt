use Rattle.std.proofs.Common.{to_z-of_z}
use Rattle.owner_partition.proofs.Strides.{block_range, no_range, turn_range}
use Rattle.owner_partition.proofs.own_trips.own_range.Goals as goal

pub returns-in-Block : goal.returns-in-Block
returns-in-Block c =
    let a = c.args in
    let f1 = c.ranges.start in
    let f2 = c.ranges.rise in
    let e = c.in_block-first.ensures a.workers in
    block_range a.dist c.in-Block.length a.workers a.p a.start a.rise a.count c.in_block-first.result.0 c.in_block-first.result.1 c.in-Block.is (simp to_z-of_z at e)

pub returns-in-Some : goal.returns-in-Some
returns-in-Some c =
    let a = c.args in
    let f1 = c.ranges.start in
    let f2 = c.ranges.rise in
    let e = c.in_turn.ensures in
    turn_range a.dist a.workers a.p a.start a.rise a.count c.in_turn.result c.in-Some.first c.in-Some.stride c.in-Cyclic.is (simp to_z-of_z at e) c.in-Some.is

pub returns-in-None : goal.returns-in-None
returns-in-None c =
    let a = c.args in
    let f1 = c.ranges.start in
    let f2 = c.ranges.rise in
    let e = c.in_turn.ensures in
    no_range a.dist a.workers a.p a.start a.rise a.count c.in_turn.result c.in-Cyclic.is (simp to_z-of_z at e) c.in-None.is
