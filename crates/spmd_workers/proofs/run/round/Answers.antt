use denote.Param.Send.{sendable}
use Rattle.std.proofs.Common.{subst}
use Rattle.std.specs.Prelude.{slice_index_or}
use Rattle.std.proofs.Crossing.{crosses}
use Rattle.spmd_workers.proofs.Crosses.{Cells-sync, Worker-field-send, Worker-send}
use Rattle.crossbeam_utils.specs.declared.cache_padded.CachePadded.{CachePadded}
use Rattle.crossbeam_utils.specs.Padded.{padded_value}
use Rattle.spmd_workers.specs.Teams.{WentOn}
use Rattle.spmd_workers.specs.Workers.{WorkerView}
use Rattle.spmd_workers.proofs.run.round.Goals as goal

pub for_each_mut-requires-send-T : goal.for_each_mut-requires-send-T
for_each_mut-requires-send-T g c κs within = search (sendable, crosses, Worker-send, Worker-field-send) depth 20

pub for_each_mut-requires-sync-F : goal.for_each_mut-requires-sync-F
for_each_mut-requires-sync-F g c κs within = let s = c.type_bounds.sync-G in search (sendable, crosses, Cells-sync) depth 20

pub returns-clause-went : goal.returns-clause-went
returns-clause-went g c = λ p d lt.
    let did = (c.for_each_mut.ensures p d lt).1 in
    subst (λ (x : CachePadded WorkerView). WentOn (padded_value x) (padded_value (slice_index_or c.for_each_mut.new.s p d))) did.argument_is
    (subst (λ (y : CachePadded WorkerView). WentOn (padded_value did.argument.now) (padded_value y)) did.left did.call.1.1.1)
