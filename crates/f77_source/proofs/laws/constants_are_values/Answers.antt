use Rattle.f77_source.proofs.Whole.{good-constants}
use Rattle.f77_source.proofs.laws.constants_are_values.Goals as goal

pub returns : goal.returns
returns c = λ bytes settings program vs r. good-constants bytes settings program vs r
