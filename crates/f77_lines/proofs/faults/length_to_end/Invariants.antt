use Rattle.std.proofs.Common.{◌≡◌, ◌+◌, ◌-◌, ◌≤◌, length}
use Rattle.f77_lines.specs.Columns.{lines_of}
use Rattle.f77_lines.specs.Faults.{fault_from}
use Rattle.f77_lines.specs.Listing.{size_to_end, first_line_fault}
use Rattle.f77_lines.proofs.faults.length_to_end.Given as goal

-- the lines so far are neither at fault nor END
abbrev pub invariant-loop-rest : goal.invariant-loop-rest
invariant-loop-rest l = record {
  faults : fault_from l.room l.number (lines_of l.rest) ≡ first_line_fault l.bytes;
  size : length l.bytes - length l.rest + size_to_end (lines_of l.rest) ≡ size_to_end (lines_of l.bytes);
  shorter : length l.rest ≤ length l.bytes;
  within : l.number + length l.rest ≤ length l.bytes + 1;
}

abbrev pub decreases-loop-rest : goal.decreases-loop-rest
decreases-loop-rest l = length l.rest
