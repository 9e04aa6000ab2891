use Rattle.std.proofs.Common.{◌≡◌, ◌<◌, ◌+◌, ◌-◌}
use Rattle.spmd_workers.proofs.polls.poll_signal_until.Given as goal

abbrev pub invariant-loop-seen : goal.invariant-loop-seen
invariant-loop-seen l = record {
  home : l.seat.home ≡ l.fn.seat.home;
  processor : l.seat.processor ≡ l.fn.seat.processor;
  position : l.seat.position ≡ l.fn.seat.position;
  missed : l.seat.misses ≡ l.fn.seat.misses + l.misses;
  few : l.misses < 100000;
}

abbrev pub decreases-loop-seen : goal.decreases-loop-seen
decreases-loop-seen l = 100000 - l.misses
