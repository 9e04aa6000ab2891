use Rattle.std.proofs.Common.{◌≡◌, map, take}
use Rattle.comm_system.specs.SideViews.{producer_seen}
use Rattle.plan_maker.specs.Caches.{pair_seen}
use Rattle.plan_maker.proofs.cache.Key.new.Given as goal

abbrev pub invariant-loop-producer : goal.invariant-loop-producer
invariant-loop-producer l = map pair_seen l.producers.items ≡ map producer_seen (take l.producer-index l.waits.producers.items)
