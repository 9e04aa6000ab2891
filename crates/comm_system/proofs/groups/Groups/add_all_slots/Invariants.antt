use Rattle.std.proofs.Common.{◌≡◌, drop, map}
use Rattle.std.specs.List.{flat_map}
use Rattle.comm_system.specs.GroupViews.{listed_seen}
use Rattle.comm_system.specs.Obligations.{slot_signature}
use Rattle.comm_system.specs.PhaseViews.{phase_seen}
use Rattle.comm_system.specs.SlotViews.{slot_seen}
use Rattle.comm_system.specs.Subjects.{slot_subjects, with_subjects}
use Rattle.comm_system.proofs.groups.Groups.add_all_slots.Given as goal

abbrev pub invariant-loop-slot : goal.invariant-loop-slot
invariant-loop-slot l =
    with_subjects l.most (listed_seen l.self) (flat_map (λ slot. slot_subjects l.plan.cut slot (slot_signature l.plan.version l.plan.kinds (map phase_seen l.phases) slot)) (map slot_seen (drop l.slot-index l.slots)))
    ≡ with_subjects l.most (listed_seen l.initial.self) (flat_map (λ slot. slot_subjects l.plan.cut slot (slot_signature l.plan.version l.plan.kinds (map phase_seen l.phases) slot)) (map slot_seen l.slots))
