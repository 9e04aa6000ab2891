use Rattle.presolve.proofs.Solutions.{rational_widened}
use Rattle.presolve.proofs.laws.rational_solutions_are_widened.Goals as goal

pub returns : goal.returns
returns c = rational_widened
