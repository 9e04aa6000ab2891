use Rattle.spmd_model.specs.PlanProtocols.{acts_by, loaded_by, stored_by}
use Rattle.spmd_model.proofs.OwnValues.{own_load}
use Rattle.spmd_model.proofs.protocols.own_cells_in_styles.Goals as goal

pub returns : goal.returns
unfolding acts_by loaded_by stored_by
returns c style tree plan p n place cell formed fits ranges past e = own_load style tree plan formed fits ranges p n place cell past e
