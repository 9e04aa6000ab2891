use Rattle.nest_tree.specs.Tree.{param_values}
use Rattle.nest_model.specs.Instances.{no_values}
use Rattle.nest_walk.proofs.InstanceLists.{all_same}
use Rattle.nest_walk.proofs.laws.instances_are_stops.Goals as goal

pub returns : goal.returns
returns c = λ tree. all_same (param_values tree) tree.items 1 1 (no_values tree)
