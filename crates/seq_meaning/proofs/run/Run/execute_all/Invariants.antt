use Rattle.std.proofs.Common.{◌≡◌, ◌++◌, IsTrue, length}
use Rattle.std.specs.List.{fold, list_all}
use Rattle.nest_tree.specs.View.{tree_of}
use Rattle.nest_model.specs.Memory.{memory_after, output_from}
use Rattle.nest_model.specs.Ranges.{is_instance_inside}
use Rattle.nest_walk.specs.InstancesLeft.{instances_left, instances_tree}
use Rattle.seq_meaning.specs.Executions.{IsReady}
use Rattle.seq_meaning.proofs.run.Run.execute_all.Given as goal

abbrev pub invariant-rest : goal.invariant-rest
invariant-rest l =
    let tree = tree_of l.fn.self.program.now in
    let left = instances_left l.left in
    let all = instances_left l.fn.instances in
    record {
      ready : IsReady l.self;
      program : l.self.program.now ≡ l.fn.self.program.now;
      walked : instances_tree l.left ≡ tree;
      inside : IsTrue (list_all (is_instance_inside tree) left);
      memory : fold (memory_after tree) l.self.memory.items left ≡ fold (memory_after tree) l.fn.self.memory.items all;
      output : l.self.output.bytes ++ output_from tree l.self.memory.items left ≡ l.fn.self.output.bytes ++ output_from tree l.fn.self.memory.items all;
    }

abbrev pub decreases-rest : goal.decreases-rest
decreases-rest l = length (instances_left l.left)
