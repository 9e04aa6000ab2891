use Rattle.std.proofs.Common.{IsTrue, map, take}
use Rattle.nest_tree.specs.View.{tree_of}
use Rattle.comm_system.specs.SlotViews.{slot_seen}
use Rattle.reason_witness.proofs.Slots.{AreSlotsCertified}
use Rattle.reason_witness.proofs.weaker.Ground.found_once.Given as goal

abbrev pub invariant-loop-slot : goal.invariant-loop-slot
invariant-loop-slot l = IsTrue l.self.is_whole → AreSlotsCertified (tree_of l.self.program.now) l.self.plan.now l.kinds l.wanted (map slot_seen (take l.slot-index l.self.slots.now))
