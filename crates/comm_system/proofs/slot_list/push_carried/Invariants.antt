use Rattle.std.proofs.Common.{◌≡◌, ◌++◌, map}
use Rattle.std.specs.List.{range_with_len}
use Rattle.comm_system.specs.SlotViews.{at_level, slot_seen}
use Rattle.comm_system.proofs.slot_list.push_carried.Given as goal

abbrev pub invariant-loop-index : goal.invariant-loop-index
invariant-loop-index l = map slot_seen l.found.items ≡ map slot_seen l.initial.found.items ++ map (at_level (slot_seen l.slot)) (range_with_len 1 l.index)
