use Rattle.std.proofs.Common.{◌-ℤ◌, ◌+ℤ◌, unsigned_abs, to_z-of_z}
use Rattle.std.specs.Prelude.{int_div}
use Rattle.std.proofs.lemmas.Bool.{ltb-true}
use Rattle.nest_walk.proofs.Steps.{count_none, count_some, nonzero_bits, quotient_fits, span_fits, sum_fits}
use Rattle.nest_walk.proofs.trips.trip_count.Goals as goal

pub nonzero_div-quotient : goal.nonzero_div-quotient
nonzero_div-quotient c =
    let h1 = c.requires.first in
    let h2 = c.requires.last in
    let h3 = c.requires.step in
    let f1 = c.ranges.m1 in
    let f2 = c.ranges.m2 in
    let f3 = c.ranges.m3 in
    let span = span_fits c.args.m1 c.args.m2 h1 h2 in
    let sum = sum_fits c.args.m1 c.args.m2 c.args.m3 h1 h2 h3 in (
      nonzero_bits c.args.m3 f3 (ltb-true 0 (unsigned_abs c.args.m3) c.requires.moves),
      simp to_z-of_z (quotient_fits c.args.m1 c.args.m2 c.args.m3 h1 h2 h3),
    )

pub returns-then-quotient-gt0 : goal.returns-then-quotient-gt0
returns-then-quotient-gt0 c =
    let h1 = c.requires.first in
    let h2 = c.requires.last in
    let h3 = c.requires.step in
    let f1 = c.ranges.m1 in
    let f2 = c.ranges.m2 in
    let f3 = c.ranges.m3 in
    let span = span_fits c.args.m1 c.args.m2 h1 h2 in
    let sum = sum_fits c.args.m1 c.args.m2 c.args.m3 h1 h2 h3 in
    let quotient = quotient_fits c.args.m1 c.args.m2 c.args.m3 h1 h2 h3 in
    let test = c.if-quotient-gt0.true in
    simp to_z-of_z (count_some (int_div (c.args.m2 -ℤ c.args.m1 +ℤ c.args.m3) c.args.m3) (simp to_z-of_z at test))

pub returns-else-quotient-gt0 : goal.returns-else-quotient-gt0
returns-else-quotient-gt0 c =
    let h1 = c.requires.first in
    let h2 = c.requires.last in
    let h3 = c.requires.step in
    let f1 = c.ranges.m1 in
    let f2 = c.ranges.m2 in
    let f3 = c.ranges.m3 in
    let span = span_fits c.args.m1 c.args.m2 h1 h2 in
    let sum = sum_fits c.args.m1 c.args.m2 c.args.m3 h1 h2 h3 in
    let quotient = quotient_fits c.args.m1 c.args.m2 c.args.m3 h1 h2 h3 in
    let test = c.if-quotient-gt0.false in
    count_none (int_div (c.args.m2 -ℤ c.args.m1 +ℤ c.args.m3) c.args.m3) (simp to_z-of_z at test)
