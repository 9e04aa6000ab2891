use Rattle.nest_walk.proofs.TripNumbers.{trip_numbers_fit}
use Rattle.nest_walk.proofs.laws.trip_counts_fit.Goals as goal

pub returns : goal.returns
returns c = trip_numbers_fit
