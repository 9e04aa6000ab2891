use Rattle.std.proofs.Common.{map}
use Rattle.comm_system.specs.GroupViews.{listed_seen}
use Rattle.comm_system.specs.Obligations.{slot_signature}
use Rattle.comm_system.specs.PhaseViews.{phase_seen}
use Rattle.comm_system.specs.SlotViews.{slot_seen}
use Rattle.comm_system.specs.Subjects.{slot_subjects}
use Rattle.comm_system.proofs.GroupSteps.{all_past}
use Rattle.comm_system.proofs.groups.Groups.add_slot.Goals as goal

pub returns-then-self-most : goal.returns-then-self-most
returns-then-self-most c =
    let plan = c.args.plan.now in
    let slot = slot_seen c.args.slot in
    all_past c.args.most (listed_seen c.args.self.now) (slot_subjects plan.cut slot (slot_signature plan.version plan.kinds (map phase_seen c.args.phases.now) slot)) c.if-self-most.true
