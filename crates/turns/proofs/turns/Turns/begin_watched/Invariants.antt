use Rattle.std.proofs.Common.{◌≡◌, true, length}
use Rattle.spmd_model.specs.declared.style.Style.TheVariants.{Arrive}
use Rattle.turns.specs.CountersLeft.{counters_left}
use Rattle.turns.specs.TurnsLeft.{beginnings_left, AreSound, HasLooked, IsSameRun, turns_left, turns_style}
use Rattle.turns.proofs.turns.Turns.begin_watched.Given as goal

abbrev pub invariant-loop-self : goal.invariant-loop-self
invariant-loop-self l =
    record {
      sound : AreSound l.self;
      looked : HasLooked l.self l.next;
      left : turns_left l.self ≡ turns_left l.fn.self;
      begins : beginnings_left l.self ≡ beginnings_left l.fn.self;
      plain : turns_style l.fn.self ≡ Arrive → counters_left l.self.counters ≡ counters_left l.fn.self.counters;
      pending : turns_style l.fn.self ≡ Arrive → l.self.pending ≡ l.fn.self.pending;
      watched : l.self.is_watched ≡ true;
      same : IsSameRun l.fn.self l.self;
    }

abbrev pub decreases-loop-self : goal.decreases-loop-self
decreases-loop-self l = length (counters_left l.self.counters)
