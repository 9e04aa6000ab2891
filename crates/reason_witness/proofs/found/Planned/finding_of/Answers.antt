use Rattle.std.proofs.Common.{subst}
use Rattle.quick_elim.specs.Settled.{IsSettled}
use Rattle.reason_witness.proofs.found.Planned.finding_of.Goals as goal

pub returns-in-Ok-Refuted : goal.returns-in-Ok-Refuted
returns-in-Ok-Refuted c = (c.in-Ok-Refuted.field-0-0, subst (IsSettled c.args.obligation.now.system) c.in-Ok-Refuted.field-0-is c.in-Ok-Refuted.ensures)
