use Rattle.spmd_model.proofs.StateAt.{first_at, stays_lawful, steps_to}
use Rattle.spmd_model.proofs.laws.acts_are_steps.Goals as goal

pub returns-clause-first : goal.returns-clause-first
returns-clause-first c = first_at

pub returns-clause-step : goal.returns-clause-step
returns-clause-step c m memory at after p a sound ordered lt lawful e possible moves = steps_to m memory at after p lt moves sound ordered lawful a e possible

pub returns-clause-lawful : goal.returns-clause-lawful
returns-clause-lawful c m memory at after p a sound ordered lt lawful e possible moves = stays_lawful m memory at after p lt moves sound ordered lawful a e possible
