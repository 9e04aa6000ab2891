use Rattle.comm_laws.proofs.ObligationOrder.{ordered_by}
use Rattle.comm_laws.proofs.laws.obligations_order.Goals as goal

pub returns : goal.returns
returns c = ordered_by
