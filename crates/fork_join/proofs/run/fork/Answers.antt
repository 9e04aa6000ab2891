use denote.Param.Send.{sendable}
use Rattle.std.proofs.Crossing.{crosses}
use Rattle.fork_join.proofs.Crosses.{Worker-field-send, Worker-send}
use Rattle.fork_join.proofs.run.fork.Goals as goal

pub for_each_mut-requires-send-T : goal.for_each_mut-requires-send-T
for_each_mut-requires-send-T g c = search (sendable, crosses, Worker-send, Worker-field-send) depth 20
