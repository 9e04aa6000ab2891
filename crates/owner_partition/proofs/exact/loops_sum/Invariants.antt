use Rattle.std.proofs.Common.{◌≡◌, ◌+◌, ◌*◌, ◌^◌, ◌<◌, ◌≤◌, ◌+ℤ◌, drop, unsigned_abs}
use Rattle.nest_walk.specs.Paths.{dot_among}
use Rattle.nest_walk.specs.RoundsOf.{rounds_of}
use Rattle.owner_partition.proofs.exact.loops_sum.Given as goal

abbrev pub invariant-loop-number : goal.invariant-loop-number
invariant-loop-number l = record {
  sum : l.sum +ℤ dot_among (drop l.number-index l.pairs) (rounds_of l.path) ≡ l.start +ℤ dot_among l.pairs (rounds_of l.path);
  few : l.number-index < 2 ^ 32;
  near : unsigned_abs l.sum ≤ unsigned_abs l.start + l.number-index * 2 ^ 94;
}
