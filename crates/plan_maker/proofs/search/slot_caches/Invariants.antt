use Rattle.std.proofs.Common.{map, take}
use Rattle.comm_system.specs.PhaseViews.{phase_seen}
use Rattle.comm_system.specs.SlotViews.{slot_seen}
use Rattle.plan_maker.specs.Searches.{AreFresh}
use Rattle.plan_maker.proofs.search.slot_caches.Given as goal

abbrev pub invariant-loop-slot : goal.invariant-loop-slot
invariant-loop-slot l = AreFresh (map phase_seen l.phases) (map slot_seen (take l.slot-index l.slots)) l.found.items
