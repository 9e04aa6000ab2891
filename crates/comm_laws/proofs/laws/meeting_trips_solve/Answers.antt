use Rattle.comm_laws.proofs.Meets.{trips_meet}
use Rattle.comm_laws.proofs.laws.meeting_trips_solve.Goals as goal

pub returns : goal.returns
returns c = trips_meet
