use Rattle.spmd_model.specs.Reached.{positions_of}
use Rattle.spmd_model.specs.Runs.{run_of}
use Rattle.spmd_model.proofs.ActLaws.{gives}
use Rattle.spmd_model.proofs.Runs.{sequential_run}
use Rattle.spmd_model.proofs.laws.every_load_is_sequential.Goals as goal

pub returns : goal.returns
returns c m schedule p place cell sound ordered all lt next =
    let s = run_of m schedule in gives m s.memory (positions_of s) p place cell sound ordered (sequential_run m schedule sound ordered all).lawful next
