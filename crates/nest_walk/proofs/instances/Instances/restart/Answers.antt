use Rattle.std.proofs.Common.{ap, ◌∙◌}
use Rattle.std.specs.List.{flat_map}
use Rattle.nest_tree.specs.Tree.{Tree, param_values}
use Rattle.nest_tree.specs.View.{statement_of, tree_of}
use Rattle.nest_model.specs.Visits.{instances_at}
use Rattle.nest_walk.specs.Cursors.{left_of, loops_in}
use Rattle.nest_walk.specs.RoundsOf.{rounds_of}
use Rattle.nest_walk.proofs.InstanceLists.{one_same}
use Rattle.nest_walk.proofs.instances.Instances.restart.Goals as goal

pub returns-clause-instances : goal.returns-clause-instances
returns-clause-instances c =
    let tree = tree_of c.args.self.now.cursor.program.now in
    let first = c.args.stop.first in
    ap (λ (t : Tree). flat_map (instances_at (param_values t)) (left_of c.restart.new.self)) c.restart.ensures.program
    ∙ ap (flat_map (instances_at (param_values tree))) c.restart.ensures.visits
    ∙ one_same (param_values tree) (statement_of c.args.stop.item.now) first first (loops_in tree (rounds_of c.args.path.now))
