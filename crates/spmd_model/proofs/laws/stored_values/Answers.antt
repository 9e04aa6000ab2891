use Rattle.spmd_model.proofs.Registers.{added_is, stored_is}
use Rattle.spmd_model.proofs.laws.stored_values.Goals as goal

pub returns-clause-stored : goal.returns-clause-stored
returns-clause-stored c = stored_is

pub returns-clause-added : goal.returns-clause-added
returns-clause-added c = added_is
