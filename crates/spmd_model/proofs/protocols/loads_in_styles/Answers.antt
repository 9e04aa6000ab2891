use Rattle.spmd_model.specs.PlanProtocols.{acts_by, loaded_by}
use Rattle.spmd_model.proofs.PlanCells.{load_there}
use Rattle.spmd_model.proofs.protocols.loads_in_styles.Goals as goal

pub returns : goal.returns
unfolding acts_by loaded_by
returns c = load_there
