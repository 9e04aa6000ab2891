use Rattle.f77_source.proofs.Whole.{good-variables}
use Rattle.f77_source.proofs.laws.variables_are_good.Goals as goal

pub returns : goal.returns
returns c = λ bytes settings program r. good-variables bytes settings program r
