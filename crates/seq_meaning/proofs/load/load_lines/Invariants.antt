use Rattle.std.proofs.Common.{◌≡◌, length, map, take}
use Rattle.nest_model.specs.Memory.{cell_value}
use Rattle.flat_code.specs.Lines.{cell_on}
use Rattle.seq_meaning.proofs.load.load_lines.Given as goal

abbrev pub invariant-loop-k : goal.invariant-loop-k
invariant-loop-k l = record {
  loaded : take l.k l.registers ≡ map (λ line. cell_value l.memory (cell_on line l.value)) (take l.k l.lines);
  long : length l.registers ≡ length l.fn.registers;
}
