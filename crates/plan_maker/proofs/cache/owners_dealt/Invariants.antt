use Rattle.std.proofs.Common.{◌≡◌, map, take}
use Rattle.comm_system.specs.SlotViews.{slot_seen}
use Rattle.comm_system.specs.SideViews.{producer_seen}
use Rattle.plan_maker.specs.Asked.{owners_dealt}
use Rattle.plan_maker.proofs.cache.owners_dealt.Given as goal

abbrev pub invariant-loop-producer : goal.invariant-loop-producer
invariant-loop-producer l = l.dists.items ≡ owners_dealt l.plan (slot_seen l.slot) (map producer_seen (take l.producer-index l.waits.producers.items))
