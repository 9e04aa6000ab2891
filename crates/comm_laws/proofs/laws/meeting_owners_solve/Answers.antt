use Rattle.comm_laws.proofs.Meets.{owners_meet}
use Rattle.comm_laws.proofs.laws.meeting_owners_solve.Goals as goal

pub returns : goal.returns
returns c = owners_meet
