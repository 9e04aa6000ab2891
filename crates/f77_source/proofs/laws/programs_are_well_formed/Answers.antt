use Rattle.f77_source.proofs.Whole.{well-formed}
use Rattle.f77_source.proofs.laws.programs_are_well_formed.Goals as goal

pub returns : goal.returns
returns c = λ bytes settings program vs r. well-formed bytes settings program vs r
