use Rattle.std.proofs.Common.{◌≤◌, ◌<◌, ◌^◌, sym, ◌∙◌, arith}
use Rattle.spmd_model.proofs.RoundCounts.{enough, one_more, small_power}
use Rattle.spmd_model.proofs.rounds.rounds_of.Goals as goal

pub returns-then-workers-rounds-clause-rounds : goal.returns-then-workers-rounds-clause-rounds
returns-then-workers-rounds-clause-rounds c =
    let r = c.loop-rounds.rounds in
    let small = small_power r c.loop-rounds-test.true in
    let le : c.args.workers ≤ 2 ^ r = omega (arith, small, c.if-workers-rounds.true) in
    sym (enough r c.args.workers c.loop-rounds-test.true le) ∙ c.loop-rounds.invariant

pub loop-rounds-preserved : goal.loop-rounds-preserved
loop-rounds-preserved c =
    let r = c.loop-rounds.rounds in
    let small = small_power r c.loop-rounds-test.true in
    let less : 2 ^ r < c.args.workers = omega (arith, small, c.if-workers-rounds.false) in
    one_more r c.args.workers c.loop-rounds-test.true less ∙ c.loop-rounds.invariant
