use Rattle.std.proofs.Common.{◌≡◌, ◌+◌, ◌++◌, drop, map}
use Rattle.comm_system.specs.Obligations.{slots_from, slots_of}
use Rattle.comm_system.specs.PhaseViews.{phase_seen}
use Rattle.comm_system.specs.SlotViews.{slot_seen}
use Rattle.comm_system.proofs.slot_list.slots.Given as goal

abbrev pub invariant-loop-index : goal.invariant-loop-index
invariant-loop-index l = map slot_seen l.found.items ++ slots_from (map phase_seen l.phases) (l.index + 1) (map phase_seen (drop l.index l.phases)) ≡ slots_of (map phase_seen l.phases)
