use Rattle.presolve.proofs.Columns.{good_with_columns}
use Rattle.presolve.proofs.laws.good_certificates_are_those_without_columns_of_zeros.Goals as goal

pub returns : goal.returns
returns c = good_with_columns
