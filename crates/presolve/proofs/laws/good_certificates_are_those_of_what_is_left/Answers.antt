use Rattle.presolve.proofs.Rows.{good_of_kept}
use Rattle.presolve.proofs.laws.good_certificates_are_those_of_what_is_left.Goals as goal

pub returns : goal.returns
returns c = good_of_kept
