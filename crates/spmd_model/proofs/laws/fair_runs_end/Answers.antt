use Rattle.spmd_model.proofs.Fair.{blocks_end, fair_ends}
use Rattle.spmd_model.proofs.laws.fair_runs_end.Goals as goal

pub returns-clause-blocks : goal.returns-clause-blocks
returns-clause-blocks c = blocks_end

pub returns-clause-fair : goal.returns-clause-fair
returns-clause-fair c = fair_ends
