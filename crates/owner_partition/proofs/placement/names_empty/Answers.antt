use Rattle.std.proofs.Common.{length, pos, arith}
use Rattle.nest_tree.proofs.Sums.{pair-at}
use Rattle.owner_partition.proofs.placement.names_empty.Goals as goal

pub overflow_sub-low : goal.overflow_sub-low
overflow_sub-low c =
    let p = pair-at 0 (length c.args.ends.now) c.args.pairs.now c.loop-number.number-index (0, pos 0) c.requires.rising c.requires.given c.loop-number-test.true in
    omega (arith, p.above)
