use Rattle.std.proofs.Common.{◌≡◌, length, take}
use Rattle.std.specs.List.{AllZip}
use Rattle.nest_walk.specs.RoundsOf.{rounds_of}
use Rattle.flat_code.specs.Lines.{IsLoadLine}
use Rattle.flat_code.proofs.lines.lay_lines.Given as goal

abbrev pub invariant-loop-k : goal.invariant-loop-k
invariant-loop-k l = record {
  laid : AllZip (λ load line. IsLoadLine load (rounds_of l.path) line) (take l.k l.loads) (take l.k l.lines);
  long : length l.lines ≡ length l.fn.lines;
}
