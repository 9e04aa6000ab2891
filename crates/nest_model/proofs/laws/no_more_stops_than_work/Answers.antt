use Rattle.nest_model.proofs.Stops.{stops-few, instances-most}
use Rattle.nest_model.proofs.laws.no_more_stops_than_work.Goals as goal

pub returns-clause-stops : goal.returns-clause-stops
returns-clause-stops c = stops-few

pub returns-clause-instances : goal.returns-clause-instances
returns-clause-instances c = instances-most
