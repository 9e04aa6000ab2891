use Rattle.spmd_model.specs.Runs.{run_of}
use Rattle.spmd_model.proofs.Runs.{come_run}
use Rattle.spmd_model.proofs.Unstuck.{ended_or_goes}
use Rattle.spmd_model.proofs.laws.no_state_is_stuck.Goals as goal

pub returns : goal.returns
returns c m schedule sound all = ended_or_goes m (run_of m schedule) sound (come_run m schedule all)
