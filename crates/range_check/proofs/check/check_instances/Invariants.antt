use Rattle.std.proofs.Common.{◌≡◌, IsTrue, length}
use Rattle.std.specs.List.{AllByRecursion, list_all}
use Rattle.nest_tree.specs.Tree.{param_values}
use Rattle.nest_tree.specs.View.{tree_of}
use Rattle.nest_walk.specs.InstancesLeft.{instances_left, instances_tree}
use Rattle.nest_rows.specs.Nested.{IsNestedInstance, nested_works}
use Rattle.range_check.specs.Outside.{instances_outside, is_small_instance}
use Rattle.range_check.proofs.check.check_instances.Given as goal

abbrev pub invariant-loop-stop : goal.invariant-loop-stop
invariant-loop-stop l =
    let tree = tree_of l.program in
    let left = instances_left l.left in
    record {
      walked : instances_tree l.left ≡ tree;
      small : IsTrue (list_all (is_small_instance (param_values tree)) left);
      nested : AllByRecursion (IsNestedInstance (param_values tree) (nested_works tree)) left;
      first : instances_outside tree left ≡ instances_outside tree (instances_left l.fn.instances);
    }

abbrev pub decreases-loop-stop : goal.decreases-loop-stop
decreases-loop-stop l = length (instances_left l.left)
