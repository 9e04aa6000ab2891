use Rattle.presolve.proofs.Rows.{fault_of_kept}
use Rattle.presolve.proofs.laws.faults_are_those_of_what_is_left.Goals as goal

pub returns : goal.returns
returns c = fault_of_kept
