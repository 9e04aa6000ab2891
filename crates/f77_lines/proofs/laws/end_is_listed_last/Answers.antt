use Rattle.f77_lines.proofs.Ended.{listed-end}
use Rattle.f77_lines.proofs.laws.end_is_listed_last.Goals as goal

pub returns : goal.returns
returns c = listed-end
