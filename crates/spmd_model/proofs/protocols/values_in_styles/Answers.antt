use Rattle.spmd_model.specs.Machines.{machine_by}
use Rattle.spmd_model.proofs.MachineDeeds.{acts_do}
use Rattle.spmd_model.specs.PlanProtocols.{acts_by, printed_by, registers_by, stored_by}
use Rattle.spmd_model.proofs.Held.{act_of_deed, added_value, printed_line, stored_value}
use Rattle.spmd_model.proofs.protocols.values_in_styles.Goals as goal

pub returns-clause-stored : goal.returns-clause-stored
unfolding stored_by registers_by
returns-clause-stored c style tree plan p n cell value formed fits lt e = stored_value (machine_by style tree plan) p n _ (acts_do style tree plan p formed fits lt) cell value e

pub returns-clause-added : goal.returns-clause-added
unfolding stored_by registers_by
returns-clause-added c style tree plan p n cell value formed fits lt e = added_value (machine_by style tree plan) p n _ (acts_do style tree plan p formed fits lt) cell value e

pub returns-clause-printed : goal.returns-clause-printed
unfolding printed_by registers_by
returns-clause-printed c style tree plan p n line formed fits lt e = printed_line (machine_by style tree plan) p n _ (acts_do style tree plan p formed fits lt) line e

pub returns-clause-acts : goal.returns-clause-acts
unfolding acts_by
returns-clause-acts c style tree plan p n d formed fits lt e = act_of_deed (machine_by style tree plan) p n _ (acts_do style tree plan p formed fits lt) d e
