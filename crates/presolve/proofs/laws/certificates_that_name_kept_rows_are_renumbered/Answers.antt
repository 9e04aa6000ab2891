use Rattle.presolve.proofs.Rows.{certificate_back}
use Rattle.presolve.proofs.laws.certificates_that_name_kept_rows_are_renumbered.Goals as goal

pub returns : goal.returns
returns c = certificate_back
