use Rattle.spmd_model.specs.Machines.{machine_by}
use Rattle.spmd_model.proofs.Fair.{blocks_end, fair_ends}
use Rattle.spmd_model.proofs.MachineOrder.{sound_by}
use Rattle.accepted_runs.proofs.InStyles.{front_by, loads_by, memory_by_end, output_by_end, unstuck_by}
use Rattle.accepted_runs.proofs.laws.accepted_plans_run_in_styles.Goals as goal

pub returns-clause-loads : goal.returns-clause-loads
returns-clause-loads c style tree plan schedule p place j formed ranges accepted workers at counts owned = loads_by style tree plan schedule formed accepted workers ranges p place j at counts owned

pub returns-clause-front : goal.returns-clause-front
returns-clause-front c style tree plan schedule formed ranges accepted workers = front_by style tree plan schedule formed accepted workers ranges

pub returns-clause-memory : goal.returns-clause-memory
returns-clause-memory c style tree plan schedule formed ranges accepted workers ended = memory_by_end style tree plan schedule formed accepted workers ranges ended

pub returns-clause-output : goal.returns-clause-output
returns-clause-output c style tree plan schedule formed ranges accepted workers ended = output_by_end style tree plan schedule formed accepted workers ranges ended

pub returns-clause-unstuck : goal.returns-clause-unstuck
returns-clause-unstuck c style tree plan schedule formed accepted workers = unstuck_by style tree plan schedule formed accepted workers

pub returns-clause-ends : goal.returns-clause-ends
returns-clause-ends c style tree plan order formed accepted fair = fair_ends (machine_by style tree plan) order (sound_by style tree plan formed accepted.fits) fair

pub returns-clause-soon : goal.returns-clause-soon
returns-clause-soon c style tree plan blocks formed accepted all few = blocks_end (machine_by style tree plan) blocks (sound_by style tree plan formed accepted.fits) all few
