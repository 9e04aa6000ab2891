use Rattle.std.proofs.Common.{◌≡◌, true, length}
use Rattle.turns.specs.CountersLeft.{counters_left}
use Rattle.turns.specs.TurnsLeft.{AreSound, HasLooked, IsSameRun, turns_left}
use Rattle.turns.proofs.turns.Turns.peek_watched.Given as goal

abbrev pub invariant-loop-self : goal.invariant-loop-self
invariant-loop-self l =
    record {
      sound : AreSound l.self;
      looked : HasLooked l.self l.next;
      left : turns_left l.self ≡ turns_left l.fn.self;
      watched : l.self.is_watched ≡ true;
      same : IsSameRun l.fn.self l.self;
    }

abbrev pub decreases-loop-self : goal.decreases-loop-self
decreases-loop-self l = length (counters_left l.self.counters)
