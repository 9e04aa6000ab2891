use Rattle.std.proofs.Common.{◌+ℤ◌, ◌-ℤ◌, ◌*ℤ◌, pos, FitsSigned, to_z-of_z, arith}
use Rattle.std.specs.Int.{w128}
use Rattle.std.proofs.lemmas.Int.{ints, fits_signed_from_abs}
use Rattle.owner_partition.proofs.Limits.{block_trip, place_small, turned_round}
use Rattle.owner_partition.proofs.own_trips.in_block.Goals as goal

pub returns-then-rise-ge0 : goal.returns-then-rise-ge0
returns-then-rise-ge0 c workers = (
  c.between.ensures.0,
  λ n below.
      let h = c.requires in
      let e = c.block_ends-low.ensures in
      let low = c.block_ends-low.result.0 in
      let high = c.block_ends-low.result.1 in
      let f1 = c.ranges.start in
      let f2 = c.ranges.rise in
      let f3 : FitsSigned w128 low = fits_signed_from_abs w128 low (omega (arith, e.size.0)) in
      let f4 : FitsSigned w128 high = fits_signed_from_abs w128 high (omega (arith, e.size.1)) in
      let reached = c.between.ensures.1 n below in
      let small = place_small c.args.start c.args.rise c.args.count n h.start h.rise h.count below in
      block_trip c.args.length workers c.args.p c.args.start c.args.rise low high n c.between.result.0 c.between.result.1 h.block (e.low (c.args.start +ℤ (pos n *ℤ c.args.rise)) small) e.high (simp to_z-of_z at reached),
)

pub returns-else-rise-ge0 : goal.returns-else-rise-ge0
returns-else-rise-ge0 c workers = (
  c.between-else-rise-ge0.ensures.0,
  λ n below.
      let h = c.requires in
      let e = c.block_ends-low.ensures in
      let low = c.block_ends-low.result.0 in
      let high = c.block_ends-low.result.1 in
      let first = c.between-else-rise-ge0.result.0 in
      let end = c.between-else-rise-ge0.result.1 in
      let f1 = c.ranges.start in
      let f2 = c.ranges.rise in
      let f3 : FitsSigned w128 low = fits_signed_from_abs w128 low (omega (arith, e.size.0)) in
      let f4 : FitsSigned w128 high = fits_signed_from_abs w128 high (omega (arith, e.size.1)) in
      let g1 : FitsSigned w128 (pos 0 -ℤ c.args.start) = fits_signed_from_abs w128 (pos 0 -ℤ c.args.start) (omega (arith, ints, h.start)) in
      let g2 : FitsSigned w128 (pos 0 -ℤ c.args.rise) = fits_signed_from_abs w128 (pos 0 -ℤ c.args.rise) (omega (arith, ints, h.rise)) in
      let g3 : FitsSigned w128 (pos 0 -ℤ low) = fits_signed_from_abs w128 (pos 0 -ℤ low) (omega (arith, ints, e.size.0)) in
      let g4 : FitsSigned w128 (pos 0 -ℤ high) = fits_signed_from_abs w128 (pos 0 -ℤ high) (omega (arith, ints, e.size.1)) in
      let reached = c.between-else-rise-ge0.ensures.1 n below in
      let small = place_small c.args.start c.args.rise c.args.count n h.start h.rise h.count below in
      block_trip c.args.length workers c.args.p c.args.start c.args.rise low high n first end h.block (e.low (c.args.start +ℤ (pos n *ℤ c.args.rise)) small) e.high (turned_round c.args.start c.args.rise low high n first end (simp to_z-of_z at reached)),
)
