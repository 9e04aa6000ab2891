use Rattle.std.proofs.Common.{◌≡◌, IsTrue, length}
use Rattle.std.specs.List.{AllByRecursion, flat_map, list_all}
use Rattle.nest_tree.specs.Tree.{param_values}
use Rattle.nest_tree.specs.View.{tree_of}
use Rattle.nest_walk.specs.Cursors.{left_of, tree_in}
use Rattle.nest_walk.specs.InstancesLeft.{instances_tree}
use Rattle.nest_rows.specs.Nested.{IsNestedInstance, nested_works}
use Rattle.range_check.specs.Outside.{instances_outside, is_small_instance, outside_of}
use Rattle.range_check.specs.Stops.{visit_instances}
use Rattle.range_check.proofs.check.check_others.Given as goal

abbrev pub invariant-loop-stop : goal.invariant-loop-stop
invariant-loop-stop l =
    let tree = tree_of l.program in
    let left = flat_map (visit_instances (param_values tree)) (left_of l.stops) in
    record {
      walked : tree_in l.stops ≡ tree;
      small : IsTrue (list_all (is_small_instance (param_values tree)) left);
      nested : AllByRecursion (IsNestedInstance (param_values tree) (nested_works tree)) left;
      first : instances_outside tree left ≡ outside_of tree;
      own : instances_tree l.instances ≡ tree;
    }

abbrev pub decreases-loop-stop : goal.decreases-loop-stop
decreases-loop-stop l = length (left_of l.stops)
