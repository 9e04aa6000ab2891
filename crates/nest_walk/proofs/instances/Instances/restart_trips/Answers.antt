use Rattle.std.proofs.Common.{ap, ◌∙◌}
use Rattle.std.specs.List.{flat_map}
use Rattle.nest_tree.specs.Tree.{Tree, param_values}
use Rattle.nest_tree.specs.View.{statements_from, tree_of}
use Rattle.nest_model.specs.Visits.{instances_at}
use Rattle.nest_walk.specs.Cursors.{left_of, loops_in}
use Rattle.nest_walk.specs.RoundsOf.{rounds_of}
use Rattle.nest_walk.specs.TripsLeft.{trips_left}
use Rattle.nest_walk.proofs.InstanceLists.{all_same, trips_same}
use Rattle.nest_walk.proofs.instances.Instances.restart_trips.Goals as goal

pub returns-clause-instances : goal.returns-clause-instances
returns-clause-instances c =
    let tree = tree_of c.args.self.now.cursor.program.now in
    let params = param_values tree in
    let first = c.args.stop.first in
    let body = statements_from c.args.nest.now.items.items in
    ap (λ (t : Tree). flat_map (instances_at (param_values t)) (left_of c.restart_trips.new.self)) c.restart_trips.ensures.program
    ∙ ap (flat_map (instances_at params)) c.restart_trips.ensures.visits
    ∙ trips_same params body first first c.args.nest.now.number (loops_in tree (rounds_of c.args.path.now)) (λ l. all_same params body first first l) (trips_left c.args.trips)
