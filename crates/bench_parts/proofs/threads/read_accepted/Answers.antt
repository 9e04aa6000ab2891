use Rattle.nest_tree.specs.View.{tree_of}
use Rattle.bench_parts.proofs.threads.read_accepted.Goals as goal

pub returns-clause-ordered : goal.returns-clause-ordered
returns-clause-ordered g c =
    c.accepted_plans_are_ordered.ensures (tree_of c.args.program.now) c.in_ok-plan.plan c.args.program.now.formed c.requires.ranges c.in_default.ensures.accepted
