use Rattle.std.proofs.Common.{arith}
use Rattle.spmd_machine.proofs.Ready.{same_then}
use Rattle.spmd_machine.proofs.Settling.{turn_is}
use Rattle.spmd_machine.proofs.parts.Parts.step.Goals as goal

pub act-answer-requires-clause-worker : goal.act-answer-requires-clause-worker
act-answer-requires-clause-worker c = omega (arith, c.requires.worker, c.requires.ready.count)

pub settle-requires-clause-worker : goal.settle-requires-clause-worker
settle-requires-clause-worker c = omega (arith, c.requires.worker, c.requires.ready.count, c.act-answer.ensures.same.count)

pub returns-clause-step : goal.returns-clause-step
returns-clause-step c = turn_is c.args.self.now c.act-answer.new.self c.settle.new.self c.args.p c.act-answer.result c.act-answer.ensures c.settle.ensures.same c.settle.ensures.state

pub returns-clause-same : goal.returns-clause-same
returns-clause-same c = same_then c.args.self.now c.act-answer.new.self c.settle.new.self c.act-answer.ensures.same c.settle.ensures.same
