use Rattle.std.proofs.Common.{◌≡◌, length, map, take}
use Rattle.nest_model.specs.Memory.{cell_value}
use Rattle.flat_code.specs.Lines.{first_of_load}
use Rattle.seq_meaning.proofs.load.load_firsts.Given as goal

abbrev pub invariant-loop-k : goal.invariant-loop-k
invariant-loop-k l = record {
  loaded : take l.k l.registers ≡ map (λ c. cell_value l.memory (first_of_load l.values c)) (take l.k l.loads);
  long : length l.registers ≡ length l.fn.registers;
}
