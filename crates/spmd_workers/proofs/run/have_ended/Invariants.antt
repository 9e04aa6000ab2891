use Rattle.std.proofs.Common.{◌<◌, ℕ}
use Rattle.std.specs.Prelude.{slice_index_or}
use Rattle.crossbeam_utils.specs.declared.cache_padded.CachePadded.{CachePadded}
use Rattle.crossbeam_utils.specs.Padded.{padded_value}
use Rattle.spmd_workers.specs.Workers.{IsOver, WorkerView}
use Rattle.spmd_workers.proofs.run.have_ended.Given as goal

abbrev pub invariant-loop-worker : goal.invariant-loop-worker
invariant-loop-worker l = (p : ℕ) (d : CachePadded WorkerView) → p < l.worker-index → IsOver (padded_value (slice_index_or l.workers p d))
