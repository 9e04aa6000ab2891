use Rattle.nest_model.proofs.InEnds.{in_their_ends}
use Rattle.nest_model.proofs.laws.values_lie_in_intervals.Goals as goal

pub returns : goal.returns
returns c = in_their_ends
