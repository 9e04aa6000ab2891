-- The instances at the stops of a walk, whatever loops it enters, are those of the program.
use Rattle.std.proofs.Common.{◌≡◌, ℕ, Bool}
use Rattle.std.specs.List.{flat_map}
use Rattle.nest_tree.specs.Tree.{Tree, param_values}
use Rattle.nest_model.specs.Instances.{instances, no_values}
use Rattle.nest_model.specs.Visits.{visits}
use Rattle.nest_model.proofs.Visited.{all_visited}
use Rattle.range_check.specs.Stops.{visit_instances}

pub stops_same : (tree : Tree) (enters : ℕ → Bool) → flat_map (visit_instances (param_values tree)) (visits tree enters) ≡ instances tree
stops_same tree enters = all_visited (param_values tree) enters tree.items 1 1 (no_values tree)
