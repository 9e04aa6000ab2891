-- The instances at the stops of a walk, whatever loops it enters.
use Rattle.std.specs.Prelude.{List}
use Rattle.nest_tree.specs.Tree.{Tree, param_values}
use Rattle.nest_tree.specs.View.{statement_of}
use Rattle.nest_model.specs.Instances.{Instance, instances_of}
pub use Rattle.nest_model.specs.Visits.{visit_instances}
use Rattle.nest_walk.specs.Cursors.{loops_in}
use Rattle.nest_walk.specs.Paths.{Round}
use Rattle.nest_walk.specs.declared.cursor.Stop.{Stop}

-- and of a stop with these loops round it
abbrev pub instances_there : Tree → List Round → Stop → List Instance
instances_there tree rounds s =
    instances_of (param_values tree) (statement_of s.item.now) s.first (loops_in tree rounds)
