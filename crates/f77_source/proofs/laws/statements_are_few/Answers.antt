use Rattle.f77_source.proofs.Whole.{few-statements}
use Rattle.f77_source.proofs.laws.statements_are_few.Goals as goal

pub returns : goal.returns
returns c = λ bytes settings program r. few-statements bytes settings program r
