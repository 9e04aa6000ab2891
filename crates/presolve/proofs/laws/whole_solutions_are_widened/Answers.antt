use Rattle.presolve.proofs.Solutions.{solution_widened}
use Rattle.presolve.proofs.laws.whole_solutions_are_widened.Goals as goal

pub returns : goal.returns
returns c = solution_widened
