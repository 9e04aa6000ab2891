use Rattle.spmd_answer.proofs.Left.{join_left}
use Rattle.spmd_answer.proofs.run.join_run.Goals as goal

pub returns-clause-receipt : goal.returns-clause-receipt
returns-clause-receipt g c =
    let ran = c.in_ok-receipt in
    join_left c.args.program.now c.args.plan.now ran.receipt ran.ensures.program ran.ensures.plan ran.ensures.memory
