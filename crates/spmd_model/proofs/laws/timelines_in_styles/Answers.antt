use Rattle.spmd_model.proofs.NoOwnDeeds.{plain_deeds}
use Rattle.spmd_model.proofs.MachineDeeds.{acts_do}
use Rattle.spmd_model.proofs.MachineOrder.{all_signalled, ordered_by, sound_by}
use Rattle.spmd_model.proofs.MachineLoads.{instance_in}
use Rattle.spmd_model.proofs.MachineMemory.{shared_last}
use Rattle.spmd_model.proofs.MachineOutput.{output_by}
use Rattle.spmd_model.proofs.laws.timelines_in_styles.Goals as goal

pub returns-clause-sound : goal.returns-clause-sound
returns-clause-sound c = sound_by

pub returns-clause-ordered : goal.returns-clause-ordered
returns-clause-ordered c = ordered_by

pub returns-clause-deeds : goal.returns-clause-deeds
returns-clause-deeds c = acts_do

pub returns-clause-plain : goal.returns-clause-plain
returns-clause-plain c = plain_deeds

pub returns-clause-signals : goal.returns-clause-signals
returns-clause-signals c = all_signalled

pub returns-clause-last : goal.returns-clause-last
returns-clause-last c = shared_last

pub returns-clause-output : goal.returns-clause-output
returns-clause-output c = output_by

pub returns-clause-instance : goal.returns-clause-instance
returns-clause-instance c style tree plan place j formed fits ranges stored at counts = let x = instance_in style tree plan formed fits ranges stored place j at counts in (x.execution, x.is, x.at, x.gives)
