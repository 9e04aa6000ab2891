use Rattle.spmd_model.proofs.Quiet.{none_quiet_next, turns_are_runs}
use Rattle.spmd_model.proofs.laws.turns_are_runs.Goals as goal

pub returns-clause-runs : goal.returns-clause-runs
returns-clause-runs c m shared schedule all = let r = turns_are_runs m shared schedule all in (r.schedule, r.workers, r.is)

pub returns-clause-settled : goal.returns-clause-settled
returns-clause-settled c = none_quiet_next
