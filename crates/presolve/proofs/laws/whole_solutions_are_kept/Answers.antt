use Rattle.presolve.proofs.Solutions.{solution_kept}
use Rattle.presolve.proofs.laws.whole_solutions_are_kept.Goals as goal

pub returns : goal.returns
returns c = solution_kept
