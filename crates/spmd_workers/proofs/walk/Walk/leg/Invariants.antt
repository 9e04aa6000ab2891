use Rattle.std.proofs.Common.{◌≡◌, ◌<◌}
use Rattle.shared_words.specs.Homes.{protocol_at}
use Rattle.spmd_workers.specs.Legs.{IsFurther}
use Rattle.spmd_workers.specs.Walks.{GoesTo, to_go}
use Rattle.spmd_workers.proofs.walk.Walk.leg.Given as goal

abbrev pub invariant-loop-leg : goal.invariant-loop-leg
invariant-loop-leg g l = record {
  goes : GoesTo l.fn.self l.self;
  further : IsFurther l.fn.self.seat l.self.seat;
  answered : 1 < (protocol_at l.fn.self.seat.home).workers → l.self.answered ≡ l.fn.self.answered;
}

abbrev pub decreases-loop-leg : goal.decreases-loop-leg
decreases-loop-leg g l = to_go l.self
