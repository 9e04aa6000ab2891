use Rattle.std.proofs.Common.{◌≡◌, ◌+◌, ◌≤◌, length}
use Rattle.f77_lines.specs.Columns.{lines_of}
use Rattle.f77_lines.specs.Listing.{first_kept}
use Rattle.f77_lines.proofs.behind.first_kept.Given as goal

-- the lines so far are comments
abbrev pub invariant-loop-rest : goal.invariant-loop-rest
invariant-loop-rest l = record {
  first : first_kept l.number (lines_of l.rest) ≡ first_kept l.first (lines_of l.bytes);
  within : l.number + length l.rest ≤ l.first + length l.bytes;
}

abbrev pub decreases-loop-rest : goal.decreases-loop-rest
decreases-loop-rest l = length l.rest
