use Rattle.std.proofs.Common.{◌≡◌, ◌≤◌, drop}
use Rattle.bench_parts.specs.Numbers.{natural_of, digits_from}
use Rattle.bench_parts.proofs.number.natural_up_to.Given as goal

-- the number so far is within the limit, and the word's is what the digits left give behind it
abbrev pub invariant-loop-byte : goal.invariant-loop-byte
invariant-loop-byte l = record {
  small : l.number ≤ l.limit;
  rest : natural_of l.word ≡ digits_from l.number (drop l.byte-index l.word);
}
