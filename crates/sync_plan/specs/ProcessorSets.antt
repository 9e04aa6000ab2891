-- Words of 64 bits as sets of processors.
use Rattle.std.specs.Prelude.{ℕ, ◌==◌, Bool, List, filter}
use Rattle.std.specs.Int.{bit_at}
use Rattle.std.specs.List.{range_with_len}

-- bit q of the word is processor q
abbrev pub is_member : ℕ → ℕ → Bool
is_member word q = bit_at word q == 1

-- the processors of a word, rising
unfoldable pub members : ℕ → List ℕ
members word = filter (is_member word) (range_with_len 0 64)
