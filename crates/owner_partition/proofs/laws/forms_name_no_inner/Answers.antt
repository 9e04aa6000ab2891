use Rattle.owner_partition.proofs.Outside.{no_inner_of_own, no_inner_of_round}
use Rattle.owner_partition.proofs.laws.forms_name_no_inner.Goals as goal

pub returns-clause-round : goal.returns-clause-round
returns-clause-round c = λ tree enters k s constants f formed at named. no_inner_of_round tree enters k s constants f formed at named

pub returns-clause-own : goal.returns-clause-own
returns-clause-own c = λ tree enters k head body around constants f formed at named. no_inner_of_own tree enters k head body around constants f formed at named
