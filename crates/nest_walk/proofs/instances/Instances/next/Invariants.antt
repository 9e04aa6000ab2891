use Rattle.std.proofs.Common.{◌≡◌, length}
use Rattle.nest_walk.specs.Cursors.{left_of}
use Rattle.nest_walk.specs.InstancesLeft.{instances_left, instances_tree}
use Rattle.nest_walk.proofs.instances.Instances.next.Given as goal

abbrev pub invariant-loop-stop : goal.invariant-loop-stop
invariant-loop-stop l = record {
  left : instances_left l.self ≡ instances_left l.initial.self;
  program : instances_tree l.self ≡ instances_tree l.initial.self;
}

abbrev pub decreases-loop-stop : goal.decreases-loop-stop
decreases-loop-stop l = length (left_of l.self.cursor)
