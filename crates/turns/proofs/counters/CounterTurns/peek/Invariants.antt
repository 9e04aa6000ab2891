use Rattle.std.proofs.Common.{◌≡◌}
use Rattle.turns.specs.CountersLeft.{AreSoundCounters, to_go, counters_left, counters_plan, counters_processor, counters_tree}
use Rattle.turns.proofs.counters.CounterTurns.peek.Given as goal

abbrev pub invariant-loop-self : goal.invariant-loop-self
invariant-loop-self l =
    record {
      sound : AreSoundCounters l.self;
      left : counters_left l.self ≡ counters_left l.initial.self;
      program : counters_tree l.self ≡ counters_tree l.initial.self;
      plan : counters_plan l.self ≡ counters_plan l.initial.self;
      processor : counters_processor l.self ≡ counters_processor l.initial.self;
    }

abbrev pub decreases-loop-self : goal.decreases-loop-self
decreases-loop-self l = to_go l.self
