use Rattle.nest_systems.specs.Growing.{whole_of}
use Rattle.comm_system.proofs.Growings.{left-few}
use Rattle.comm_system.proofs.in_place.PairSystems.presolved.Goals as goal

pub returns-clause-few : goal.returns-clause-few
returns-clause-few c = left-few (whole_of c.args.self.now.system) c.presolved.result.now 4294967295 c.presolved.ensures.left c.args.self.now.unknowns
