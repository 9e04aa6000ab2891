use Rattle.std.proofs.Common.{◌≡◌, ◌+◌, ◌*◌, ◌≤◌, ◌++◌, length, take}
use Rattle.std.specs.List.{flat_map}
use Rattle.nest_model.specs.Memory.{number_text}
use Rattle.seq_meaning.proofs.output.Output.push_numbers.Given as goal

abbrev pub invariant-loop-value : goal.invariant-loop-value
invariant-loop-value l = record {
  text : l.self.bytes ≡ l.initial.self.bytes ++ flat_map number_text (take l.value-index l.values);
  grown : length l.self.bytes ≤ length l.initial.self.bytes + 21 * l.value-index;
  room : l.initial.self.room ≤ l.self.room;
}
