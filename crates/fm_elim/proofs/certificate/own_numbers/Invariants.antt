use Rattle.std.proofs.Common.{◌≡◌, ℕ, ◌+◌, ◌<◌, length, slice_index}
use Rattle.fm_elim.proofs.certificate.own_numbers.Given as goal

-- the numbers so far
abbrev pub invariant-loop-index : goal.invariant-loop-index
invariant-loop-index l = record {
  count : length l.numbers.items ≡ l.index;
  own : (k : ℕ) → k < l.index → slice_index l.numbers.items k ≡ k + 1;
}
