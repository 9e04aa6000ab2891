use denote.Param.Send.{sendable}
use Rattle.std.proofs.Crossing.{crosses}
use Rattle.spmd_workers.proofs.Crosses.{Cells-sync, Worker-send}
use Rattle.run_tests.proofs.runs.all_to_the_end.Goals as goal

pub for_each_mut-requires-send-T : goal.for_each_mut-requires-send-T
for_each_mut-requires-send-T g c κs within = search (sendable, crosses, Worker-send) depth 20

pub for_each_mut-requires-sync-F : goal.for_each_mut-requires-sync-F
for_each_mut-requires-sync-F g c κs within = search (sendable, crosses, Cells-sync) depth 20
