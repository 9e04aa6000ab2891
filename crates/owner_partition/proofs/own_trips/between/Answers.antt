use Rattle.std.proofs.Common.{◌-ℤ◌, pos, FitsSigned, to_z-of_z, arith}
use Rattle.std.specs.Int.{w128}
use Rattle.std.proofs.lemmas.Int.{ints, fits_signed_from_abs}
use Rattle.owner_partition.proofs.Limits.{between_limits}
use Rattle.owner_partition.proofs.own_trips.between.Goals as goal

pub returns : goal.returns
returns c = (
  c.count_up_to-2.ensures.within,
  λ n below.
      let f1 = c.ranges.low in
      let f3 = c.ranges.start in
      let f4 = c.ranges.rise in
      let f5 = c.ranges.high in
      let size = c.requires.low in
      let f2 : FitsSigned w128 (c.args.low -ℤ pos 1) = fits_signed_from_abs w128 (c.args.low -ℤ pos 1) (omega (arith, ints, size)) in
      let lower = c.count_up_to.ensures.exact n below in
      let upper = c.count_up_to-2.ensures.exact n below in
      between_limits c.args.start c.args.rise c.args.low c.args.high n c.count_up_to.result c.count_up_to-2.result (simp to_z-of_z at lower) (simp to_z-of_z at upper),
)
