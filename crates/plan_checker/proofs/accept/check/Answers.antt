use Rattle.std.proofs.Common.{ap, sym, ◌∙◌}
use Rattle.nest_tree.specs.View.{tree_of}
use Rattle.plan_checker.specs.Failures.{failure_with}
use Rattle.plan_checker.proofs.Certified.{accepted_where_none}
use Rattle.plan_checker.proofs.accept.check.Goals as goal

pub returns-in-None-clause-accepted : goal.returns-in-None-clause-accepted
returns-in-None-clause-accepted g c =
    let tree = tree_of c.args.program.now in
    let plan = c.args.plan.now in
    let misfit = c.err-misfit.ensures.value ∙ c.check_shaped.ensures in
    accepted_where_none tree plan (sym (ap (λ found. failure_with found tree plan) misfit) ∙ sym c.in_ok-failure.ensures ∙ c.in-None.is)
