use Rattle.std.proofs.Common.{◌+◌, drop, map, List}
use Rattle.std.specs.List.{flat_map}
use Rattle.comm_system.specs.GroupViews.{listed_seen}
use Rattle.conflict_rules.specs.Slots.{Slot}
use Rattle.comm_system.specs.Obligations.{slot_signature}
use Rattle.comm_system.specs.PhaseViews.{phase_seen}
use Rattle.comm_system.specs.SlotViews.{slot_seen}
use Rattle.comm_system.specs.Subjects.{Subject, slot_subjects, with_subjects}
use Rattle.comm_system.proofs.GroupSteps.{flat_more, listed_more}
use Rattle.comm_system.proofs.groups.Groups.add_all_slots.Goals as goal

pub loop-slot-preserved : goal.loop-slot-preserved
loop-slot-preserved c =
    let slots = c.args.slots.now in
    let plan = c.args.plan.now in
    let phases = map phase_seen c.args.phases.now in
    let f : Slot → List Subject = λ slot. slot_subjects plan.cut slot (slot_signature plan.version plan.kinds phases slot) in
    let k = c.loop-slot.slot-index in
    let x = c.slot-item.result in
    listed_more c.args.most (listed_seen c.loop-slot.self) (listed_seen c.add_slot.new.self) (with_subjects c.args.most (listed_seen c.args.self.now) (flat_map f (map slot_seen slots))) (flat_map f (map slot_seen (drop k slots))) (f (slot_seen x)) (flat_map f (map slot_seen (drop (k + 1) slots)))
    c.loop-slot.invariant (flat_more slot_seen f slots k x c.loop-slot-test.true c.slot-item.is) c.in_ok-add_slot.ensures
