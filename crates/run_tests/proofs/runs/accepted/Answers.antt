use Rattle.nest_tree.specs.View.{tree_of}
use Rattle.run_tests.proofs.runs.accepted.Goals as goal

pub returns-clause-ordered : goal.returns-clause-ordered
returns-clause-ordered g c =
    c.accepted_plans_are_ordered.ensures (tree_of c.args.program.now) c.in-Ok.plan c.args.program.now.formed c.requires.ranges c.in-Ok-check.ensures.accepted
