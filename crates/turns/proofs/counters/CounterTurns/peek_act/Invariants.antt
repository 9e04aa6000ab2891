use Rattle.std.proofs.Common.{◌≡◌, false, [], length}
use Rattle.turns.specs.CounterTurns.{without_beginnings}
use Rattle.turns.specs.CountersLeft.{AreSoundCounters, IsCounterNext, at_turn, counters_left, counters_plan, counters_processor, counters_tree}
use Rattle.turns.proofs.counters.CounterTurns.peek_act.Given as goal

abbrev pub invariant-loop-next : goal.invariant-loop-next
invariant-loop-next l =
    record {
      sound : AreSoundCounters l.self;
      left : without_beginnings (counters_left l.self) ≡ without_beginnings (counters_left l.initial.self);
      next : IsCounterNext l.self l.next;
      end : at_turn l.self ≡ false → counters_left l.self ≡ [];
      program : counters_tree l.self ≡ counters_tree l.initial.self;
      plan : counters_plan l.self ≡ counters_plan l.initial.self;
      processor : counters_processor l.self ≡ counters_processor l.initial.self;
    }

abbrev pub decreases-loop-next : goal.decreases-loop-next
decreases-loop-next l = length (counters_left l.self)
