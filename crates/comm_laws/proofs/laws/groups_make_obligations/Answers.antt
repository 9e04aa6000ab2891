use Rattle.comm_system.proofs.GroupLists.{groups_all, groups_first, groups_some}
use Rattle.comm_laws.proofs.laws.groups_make_obligations.Goals as goal

pub returns : goal.returns
returns c = record { first = groups_first; all = groups_all; some = groups_some }
