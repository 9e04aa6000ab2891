use Rattle.f77_program.proofs.Passing.{passed-evaluated}
use Rattle.f77_program.proofs.laws.passed_is_behind.Goals as goal

pub returns : goal.returns
returns c = passed-evaluated
