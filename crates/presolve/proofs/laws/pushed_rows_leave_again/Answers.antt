use Rattle.presolve.proofs.Pushed.{first_of_pushed}
use Rattle.presolve.proofs.laws.pushed_rows_leave_again.Goals as goal

pub returns : goal.returns
returns c = first_of_pushed
