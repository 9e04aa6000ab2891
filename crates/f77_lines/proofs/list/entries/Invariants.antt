use Rattle.std.proofs.Common.{◌≡◌, ◌+◌, ◌++◌, ◌≤◌, length, map}
use Rattle.f77_lines.specs.Columns.{lines_of}
use Rattle.f77_lines.specs.Statements.{entries_from}
use Rattle.f77_lines.specs.Listing.{entry_of, entries_of}
use Rattle.f77_lines.proofs.list.entries.Given as goal

-- the entries so far and those of the lines to come are all
abbrev pub invariant-loop-rest : goal.invariant-loop-rest
invariant-loop-rest l = record {
  listed : map entry_of l.entries.items ++ entries_from l.number (lines_of l.rest) ≡ entries_of l.bytes;
  within : l.number + length l.rest ≤ length l.bytes + 1;
}

abbrev pub decreases-loop-rest : goal.decreases-loop-rest
decreases-loop-rest l = length l.rest
