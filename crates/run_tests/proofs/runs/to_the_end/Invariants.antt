use Rattle.std.proofs.Common.{◌≡◌}
use Rattle.run_tests.proofs.runs.to_the_end.Given as goal

abbrev pub invariant-loop : goal.invariant-loop
invariant-loop l = record {
  home : l.worker.seat.home ≡ l.initial.worker.seat.home;
  processor : l.worker.seat.processor ≡ l.initial.worker.seat.processor;
}
