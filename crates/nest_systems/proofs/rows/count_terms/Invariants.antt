use Rattle.std.proofs.Common.{◌≡◌, length}
use Rattle.nest_rows.proofs.Counting.{AreCounted, AreNear}
use Rattle.nest_systems.proofs.rows.count_terms.Given as goal

-- with the terms that are left each unknown is counted, and no sum is far from 0
abbrev pub invariant-loop-unknown : goal.invariant-loop-unknown
invariant-loop-unknown l = record {
  long : length l.sums ≡ length l.fn.sums;
  counted : AreCounted l.terms l.unknown-index l.sums;
  near : AreNear l.unknown-index l.sums;
}
