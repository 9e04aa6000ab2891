use Rattle.std.proofs.Common.{◌≡◌, ◌+◌, ◌≤◌, length}
use Rattle.f77_lines.specs.Columns.{lines_of}
use Rattle.f77_lines.proofs.behind.count_of_lines.Given as goal

-- the lines so far and those to come are all
abbrev pub invariant-loop-rest : goal.invariant-loop-rest
invariant-loop-rest l = record {
  count : l.count + length (lines_of l.rest) ≡ length (lines_of l.bytes);
  within : l.count + length l.rest ≤ length l.bytes;
}

abbrev pub decreases-loop-rest : goal.decreases-loop-rest
decreases-loop-rest l = length l.rest
