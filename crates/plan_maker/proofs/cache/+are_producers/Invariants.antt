use Rattle.std.proofs.Common.{length}
use Rattle.plan_maker.proofs.cache.+are_producers.Given as goal

abbrev pub decreases-are_producers : goal.decreases-are_producers
decreases-are_producers l = length l.these.now
