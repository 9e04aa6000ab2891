use Rattle.std.proofs.Common.{◌≡◌, ◌≤◌, drop, length}
use Rattle.nest_tree.specs.View.{tree_of}
use Rattle.owner_partition.specs.Phases.{phases}
use Rattle.owner_partition.specs.PhasesLeft.{phases_left, phases_passed}
use Rattle.fork_join.specs.Joins.{in_front, protocol}
use Rattle.fork_join.specs.Workers.{AreAt}
use Rattle.fork_join.proofs.run.execute.Given as goal

abbrev pub invariant-loop-phase : goal.invariant-loop-phase
invariant-loop-phase g l =
    let tree = tree_of l.lent.program.now in
    let plan = l.lent.plan.now in record {
      count : length l.workers ≡ length l.fn.workers;
      at : AreAt tree plan l.behind l.workers;
      passed : phases_passed l.left ≡ l.behind;
      left : phases_left l.left ≡ drop l.behind (phases tree plan.cut.marks);
      within : l.behind ≤ length (phases tree plan.cut.marks);
      lawful : ∥ (protocol tree plan).lawful l.memory (in_front tree plan l.behind) ∥₁;
    }

abbrev pub decreases-loop-phase : goal.decreases-loop-phase
decreases-loop-phase g l = length (phases_left l.left)
