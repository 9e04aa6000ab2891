use Rattle.spmd_model.proofs.Deeds.{acted_is, possible_is}
use Rattle.spmd_model.proofs.laws.acts_by_their_deeds.Goals as goal

pub returns-clause-acted : goal.returns-clause-acted
returns-clause-acted c = acted_is

pub returns-clause-possible : goal.returns-clause-possible
returns-clause-possible c = possible_is
