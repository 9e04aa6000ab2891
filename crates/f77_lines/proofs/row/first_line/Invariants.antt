use Rattle.std.proofs.Common.{◌≡◌, ◌++◌, take, drop}
use Rattle.f77_lines.specs.Walk.{first_of, after_first}
use Rattle.f77_lines.proofs.row.first_line.Given as goal

-- no line end so far
abbrev pub invariant-loop-place : goal.invariant-loop-place
invariant-loop-place l = record {
  front : take l.place l.bytes ++ first_of (drop l.place l.bytes) ≡ first_of l.bytes;
  back : after_first (drop l.place l.bytes) ≡ after_first l.bytes;
}
