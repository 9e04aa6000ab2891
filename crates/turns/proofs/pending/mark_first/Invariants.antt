use Rattle.std.proofs.Common.{◌≡◌, ◌++◌, drop, length, replicate, true}
use Rattle.turns.proofs.pending.mark_first.Given as goal

abbrev pub invariant-loop-place : goal.invariant-loop-place
invariant-loop-place l = record {
  marked : l.pending ≡ replicate l.place true ++ drop l.place l.fn.pending;
  long : length l.pending ≡ 32;
}
