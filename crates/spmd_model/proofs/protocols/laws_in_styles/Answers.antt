use Rattle.spmd_model.proofs.PlanHeld.{laws_by}
use Rattle.spmd_model.proofs.protocols.laws_in_styles.Goals as goal

pub returns : goal.returns
returns c = laws_by
