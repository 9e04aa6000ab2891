use Rattle.c_expressions.proofs.ReadBack.{reads_back}
use Rattle.c_expressions.proofs.laws.read_back.Goals as goal

pub returns : goal.returns
returns c text a r = reads_back text a r
