use Rattle.spmd_machine.proofs.Seen.{same_seen}
use Rattle.spmd_machine.proofs.machine.Machine.run_schedule.Goals as goal

pub returns-clause-same : goal.returns-clause-same
returns-clause-same c = same_seen c.self.inside.parts c.run_schedule.new.self c.args.self.now c.self.view_is c.run_schedule.ensures.same
