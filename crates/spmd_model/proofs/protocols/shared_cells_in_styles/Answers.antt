use Rattle.std.proofs.Common.{arith}
use Rattle.nest_tree.specs.Layout.{cell_count}
use Rattle.spmd_model.specs.Machines.{machine_by}
use Rattle.spmd_model.proofs.MachineOrder.{ordered_by, sound_by}
use Rattle.spmd_model.specs.PlanProtocols.{AreLawfulBy, acts_by, stored_by}
use Rattle.spmd_model.proofs.States.{first_of_state, lawful_of_state, passed_leaves, state_of_lawful, step_of_state}
use Rattle.spmd_model.proofs.protocols.shared_cells_in_styles.Goals as goal

pub returns-clause-lawful : goal.returns-clause-lawful
unfolding AreLawfulBy
returns-clause-lawful c style tree plan cells at s shows = lawful_of_state (machine_by style tree plan) (cell_count tree) cells at s shows

pub returns-clause-state : goal.returns-clause-state
unfolding AreLawfulBy
returns-clause-state c style tree plan cells at lawful = state_of_lawful (machine_by style tree plan) (cell_count tree) cells at lawful

pub returns-clause-first : goal.returns-clause-first
returns-clause-first c style tree plan formed fits = first_of_state (machine_by style tree plan) (cell_count tree) (sound_by style tree plan formed fits) (omega arith)

pub returns-clause-step : goal.returns-clause-step
unfolding acts_by stored_by
returns-clause-step c style tree plan cells at after p a s formed fits ranges ordered lt shows e possible moves = step_of_state (machine_by style tree plan) (cell_count tree) cells at after p a s (sound_by style tree plan formed fits) (ordered_by style tree plan formed fits ranges ordered) lt shows e possible moves

pub returns-clause-passed : goal.returns-clause-passed
returns-clause-passed c = passed_leaves
