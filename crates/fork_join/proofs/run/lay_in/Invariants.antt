use Rattle.std.proofs.Common.{◌≡◌, ◌≤◌, ◌<◌, ℕ, length}
use Rattle.std.specs.Prelude.{slice_index_or}
use Rattle.nest_tree.specs.View.{tree_of}
use Rattle.crossbeam_utils.specs.declared.cache_padded.CachePadded.{CachePadded}
use Rattle.crossbeam_utils.specs.Padded.{padded_value}
use Rattle.fork_join.specs.Joins.{joined, protocol}
use Rattle.fork_join.specs.Workers.{AreLaid, HasWorked}
use Rattle.fork_join.specs.declared.worker.Worker.{Worker}
use Rattle.fork_join.proofs.run.lay_in.Given as goal

abbrev pub invariant-loop-p : goal.invariant-loop-p
invariant-loop-p l =
    let tree = tree_of l.lent.program.now in
    let plan = l.lent.plan.now in record {
      count : length l.workers ≡ length l.fn.workers;
      laid : AreLaid tree plan l.behind l.p l.workers;
      worked : (q : ℕ) (d : CachePadded Worker) → l.p ≤ q → q < length l.workers → HasWorked tree plan l.behind q (padded_value (slice_index_or l.workers q d));
      lawful : ∥ (protocol tree plan).lawful l.memory (joined tree plan l.behind l.p) ∥₁;
    }
