use Rattle.spmd_model.proofs.Trips.{before_load, behind_trip}
use Rattle.spmd_model.proofs.laws.trips_keep_privates.Goals as goal

pub returns-clause-load : goal.returns-clause-load
returns-clause-load c o cell k p last js before after j slot private trip is among = before_load o cell k p slot private last js before j after trip is among

pub returns-clause-behind : goal.returns-clause-behind
returns-clause-behind c o cell k p last js slot private trip = behind_trip o cell k p slot private last js trip
