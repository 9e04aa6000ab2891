use Rattle.presolve.proofs.Pushed.{presolved_with_last}
use Rattle.presolve.proofs.laws.a_last_row_may_be_pushed_to_both.Goals as goal

pub returns : goal.returns
returns c = presolved_with_last
