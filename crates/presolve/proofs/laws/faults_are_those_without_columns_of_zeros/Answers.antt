use Rattle.presolve.proofs.Columns.{fault_with_columns}
use Rattle.presolve.proofs.laws.faults_are_those_without_columns_of_zeros.Goals as goal

pub returns : goal.returns
returns c = fault_with_columns
