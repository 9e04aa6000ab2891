use Rattle.std.proofs.Common.{sym, ◌∙◌}
use Rattle.c_expressions.proofs.ReadBack.{reads_back}
use Rattle.c_expressions.proofs.laws.one_reading.Goals as goal

pub returns : goal.returns
returns c text a b r s = sym (reads_back text a r) ∙ reads_back text b s
