use Rattle.std.proofs.Common.{sym, ◌∙◌}
use Rattle.nest_tree.specs.View.{tree_of}
use Rattle.plan_checker.proofs.Certified.{proved_where_none}
use Rattle.plan_checker.proofs.proven.prove.Goals as goal

pub returns-in-None-clause-proved : goal.returns-in-None-clause-proved
returns-in-None-clause-proved g c = proved_where_none (tree_of c.args.program.now) c.args.plan.now (sym c.in_ok-failure.ensures ∙ c.in-None.is)
