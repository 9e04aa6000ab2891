use Rattle.std.proofs.Common.{◌≡◌, ◌<◌, ◌≤◌, ℕ, IfSome, None, Some, length}
use Rattle.std.specs.Prelude.{slice_get, slice_index_or}
use Rattle.crossbeam_utils.specs.declared.cache_padded.CachePadded.{CachePadded}
use Rattle.crossbeam_utils.specs.Padded.{padded_value}
use Rattle.shared_words.specs.Homes.{protocol_at}
use Rattle.shared_words.specs.declared.roles.Stage.TheVariants.{Ended, Out}
use Rattle.spmd_workers.specs.Workers.{IsOver, IsWorkerOf, WorkerView}
use Rattle.spmd_workers.proofs.run.gathered.Given as goal

abbrev pub invariant-loop-worker : goal.invariant-loop-worker
invariant-loop-worker l = record {
  home : l.main.home ≡ l.cells;
  few : length l.workers.items ≤ (protocol_at l.cells).workers;
  each : (q : ℕ) (d : CachePadded WorkerView) → q < length l.workers.items → IsWorkerOf l.cells q (padded_value (slice_index_or l.workers.items q d));
  over : (q : ℕ) (d : CachePadded WorkerView) → q < length l.workers.items → IsOver (padded_value (slice_index_or l.workers.items q d));
  out : (q : ℕ) → q < length l.workers.items → slice_get l.main.stages q ≡ Some Out;
  ended : (q : ℕ) → length l.workers.items ≤ q → q < (protocol_at l.cells).workers → slice_get l.main.stages q ≡ Some Ended;
  none : l.first ≡ None → length l.workers.items ≡ (protocol_at l.cells).workers;
  first : IfSome l.first (λ o. o.bytes ≡ (protocol_at l.cells).printed_at (length l.workers.items) (length ((protocol_at l.cells).acts (length l.workers.items))));
}

abbrev pub decreases-loop-worker : goal.decreases-loop-worker
decreases-loop-worker l = length l.workers.items
