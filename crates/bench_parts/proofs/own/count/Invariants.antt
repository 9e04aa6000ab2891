use Rattle.std.proofs.Common.{◌≡◌, List, ◌++◌, length}
use Rattle.nest_tree.specs.View.{tree_of}
use Rattle.nest_model.specs.Visits.{Visit, visits}
use Rattle.owner_partition.specs.Marks.{enters_outer}
use Rattle.owner_partition.specs.OwnLeft.{own_left}
use Rattle.owner_partition.specs.PhasesLeft.{phases_enters, phases_left, phases_passed, phases_tree}
use Rattle.bench_parts.proofs.own.count.Given as goal

abbrev pub invariant-phases : goal.invariant-phases
invariant-phases l = record {
  tree : phases_tree l.phases ≡ tree_of l.program;
  enters : phases_enters l.phases ≡ enters_outer l.cut.marks;
  taken : (before : List Visit) × (visits (tree_of l.program) (enters_outer l.cut.marks) ≡ before ++ phases_left l.phases) × (phases_passed l.phases ≡ length before);
}

abbrev pub decreases-phases : goal.decreases-phases
decreases-phases l = length (phases_left l.phases)

abbrev pub decreases-own : goal.decreases-own
decreases-own l = length (own_left l.own)
