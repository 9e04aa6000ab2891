use Rattle.std.proofs.Common.{◌≡◌}
use Rattle.shared_words.specs.Calls.{GathersNext}
use Rattle.shared_words.specs.Homes.{gone, through}
use Rattle.house_tests.proofs.examples.words.meet.Given as goal

abbrev pub invariant-loop : goal.invariant-loop
invariant-loop l = record {
  own : l.seat.home ≡ l.cells;
  next : GathersNext l.seat 0;
  behind : through l.seat ≡ through (gone l.fn.seat);
}
