use Rattle.std.proofs.Common.{◌<◌, arith}
use Rattle.spmd_model.proofs.RoundCounts.{few_rounds, round_below, small_power}
use Rattle.spmd_model.proofs.rounds.awaited_in_round.Goals as goal

pub overflow_sub-result : goal.overflow_sub-result
overflow_sub-result c =
    let few = few_rounds c.args.workers in
    let small : c.args.round < 6 = omega (arith, few, c.requires.round) in
    omega (arith, small_power c.args.round small, round_below c.args.workers c.args.round c.requires.round)
