use Rattle.std.proofs.Common.{◌≡◌, ◌<◌, ◌≤◌, ℕ, length, slice_index}
use Rattle.std.specs.Mem.Slots.{IsFull, slots_items, slots_len}
use Rattle.nest_model.specs.Memory.{cell_value}
use Rattle.shared_words.specs.Words.{word_value}
use Rattle.shared_words.proofs.closed.read_words.Given as goal

abbrev pub invariant-loop-cell : goal.invariant-loop-cell
invariant-loop-cell l = (length l.into.items ≡ l.count) × (l.count ≤ slots_len l.words.words) × IsFull l.words.words × ((cell : ℕ) → cell < l.cell → cell_value l.into.items cell ≡ word_value (slice_index (slots_items l.words.words) cell))
