use Rattle.std.proofs.Common.{◌≡◌, ◌<◌, ◌≤◌, ℕ, Some, length}
use Rattle.std.specs.Prelude.{slice_get, slice_index_or}
use Rattle.crossbeam_utils.specs.declared.cache_padded.CachePadded.{CachePadded}
use Rattle.crossbeam_utils.specs.Padded.{padded_value}
use Rattle.shared_words.specs.Homes.{protocol_at}
use Rattle.shared_words.specs.declared.roles.Stage.TheVariants.{NotOut, Out}
use Rattle.spmd_workers.specs.Workers.{IsWorkerOf, WorkerView}
use Rattle.spmd_workers.proofs.run.workers_of.Given as goal

abbrev pub invariant-loop-p : goal.invariant-loop-p
invariant-loop-p l = record {
  home : l.main.home ≡ l.cells;
  count : length l.workers.items ≡ l.p;
  each : (q : ℕ) (d : CachePadded WorkerView) → q < length l.workers.items → IsWorkerOf l.cells q (padded_value (slice_index_or l.workers.items q d));
  out : (q : ℕ) → q < l.p → slice_get l.main.stages q ≡ Some Out;
  idle : (q : ℕ) → l.p ≤ q → q < (protocol_at l.cells).workers → slice_get l.main.stages q ≡ Some NotOut;
}
