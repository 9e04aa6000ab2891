-- The instances that are left.
use Rattle.std.specs.Prelude.{List}
use Rattle.std.specs.List.{flat_map}
use Rattle.nest_tree.specs.Tree.{Tree, param_values}
use Rattle.nest_model.specs.Instances.{Instance}
use Rattle.nest_model.specs.Visits.{instances_at}
use Rattle.nest_walk.specs.Cursors.{left_of, rounds_in, tree_in}
use Rattle.nest_walk.specs.Paths.{Round}
use Rattle.nest_walk.specs.declared.instances.Instances.{Instances}

abbrev pub instances_tree : Instances → Tree
instances_tree c = tree_in c.cursor

abbrev pub instances_rounds : Instances → List Round
instances_rounds c = rounds_in c.cursor

abbrev pub instances_left : Instances → List Instance
instances_left c = flat_map (instances_at (param_values (instances_tree c))) (left_of c.cursor)
