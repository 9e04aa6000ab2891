use Rattle.std.proofs.Common.{ap, ◌∙◌}
use Rattle.f77_forms.specs.View.{expression_of}
use Rattle.f77_forms.specs.Statements.{target_from}
use Rattle.f77_forms.proofs.Called.{expression_of-Call}
use Rattle.f77_forms.proofs.statement.target_from.Goals as goal

pub returns-in-Call : goal.returns-in-Call
returns-in-Call c = ap target_from (ap expression_of c.in-Call.is ∙ expression_of-Call c.in-Call.name c.in-Call.arguments)
