use Rattle.sync_plan.proofs.BarrierOrder.{barriers_order}
use Rattle.sync_plan.proofs.laws.barriers_order_phases.Goals as goal

pub returns : goal.returns
returns c = barriers_order
