use Rattle.spmd_model.specs.Runs.{run_of}
use Rattle.spmd_model.proofs.Ends.{ended_memory, ended_output, output_front}
use Rattle.spmd_model.proofs.Runs.{sequential_run}
use Rattle.spmd_model.proofs.laws.runs_are_sequential.Goals as goal

pub returns-clause-front : goal.returns-clause-front
returns-clause-front c m schedule sound ordered all = output_front m (run_of m schedule) sound (sequential_run m schedule sound ordered all)

pub returns-clause-memory : goal.returns-clause-memory
returns-clause-memory c m schedule sound ordered all end = ended_memory m (run_of m schedule) sound (sequential_run m schedule sound ordered all) end

pub returns-clause-output : goal.returns-clause-output
returns-clause-output c m schedule some sound ordered all end = ended_output m (run_of m schedule) some sound (sequential_run m schedule sound ordered all) end
