use Rattle.nest_tree.proofs.FirstLimits.{kept}
use Rattle.nest_model.proofs.laws.limits_bound_work_and_cells.Goals as goal

pub returns-clause-work : goal.returns-clause-work
returns-clause-work c = λ tree h. (kept tree h).most_worked

pub returns-clause-cells : goal.returns-clause-cells
returns-clause-cells c = λ tree h. (kept tree h).most_counted
