use Rattle.std.proofs.Common.{ap, ◌∙◌}
use Rattle.std.specs.List.{flat_map}
use Rattle.nest_tree.specs.Tree.{Tree, param_values}
use Rattle.nest_tree.specs.View.{tree_of}
use Rattle.nest_model.specs.Instances.{no_values}
use Rattle.nest_model.specs.Visits.{instances_at}
use Rattle.nest_walk.specs.Cursors.{left_of}
use Rattle.nest_walk.proofs.InstanceLists.{all_same}
use Rattle.nest_walk.proofs.instances.Instances.new.Goals as goal

pub returns-clause-instances : goal.returns-clause-instances
returns-clause-instances c =
    let tree = tree_of c.args.program.now in
    ap (λ (t : Tree). flat_map (instances_at (param_values t)) (left_of c.new.result)) c.new.ensures.program
    ∙ ap (flat_map (instances_at (param_values tree))) c.new.ensures.visits
    ∙ all_same (param_values tree) tree.items 1 1 (no_values tree)
