use Rattle.std.proofs.Common.{get_or, pos, FitsSigned, w64, to_z-of_z, rules}
use Rattle.owner_partition.proofs.Sums.{loop_pair}
use Rattle.owner_partition.proofs.anchor.coefficient_among.Goals as goal

pub returns-then-loop_number-number-clause-small : goal.returns-then-loop_number-number-clause-small
returns-then-loop_number-number-clause-small c =
    let f : FitsSigned w64 (get_or c.args.pairs.now c.loop-loop_number.loop_number-index (0, pos 0)).1 = search rules in
    simp to_z-of_z (loop_pair 0 c.args.pairs.now c.loop-loop_number.loop_number-index (0, pos 0) c.requires c.loop-loop_number-test.true).small
