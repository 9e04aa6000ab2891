use Rattle.std.proofs.Common.{◌≡◌, ◌+◌, ◌*◌, ◌^◌, ◌<◌, ◌≤◌, drop, unsigned_abs}
use Rattle.nest_tree.specs.Intervals.{dot_ends, plus}
use Rattle.nest_tree.proofs.form.interval_sum.Given as goal

abbrev pub invariant-loop-number : goal.invariant-loop-number
invariant-loop-number l = record {
  sum : plus (l.low, l.high) (dot_ends (drop l.number-index l.pairs) l.ends) ≡ plus (l.fixed, l.fixed) (dot_ends l.pairs l.ends);
  few : l.number-index < 2 ^ 32;
  low : unsigned_abs l.low ≤ unsigned_abs l.fixed + l.number-index * 2 ^ 94;
  high : unsigned_abs l.high ≤ unsigned_abs l.fixed + l.number-index * 2 ^ 94;
}
