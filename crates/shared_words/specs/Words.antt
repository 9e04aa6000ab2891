-- Where cells, counters, signals and the arrival word lie, and what they show of a machine.
use Rattle.std.specs.Prelude.{ℕ, ◌+◌, ◌*◌, ◌≡◌, ◌≤◌, ◌<◌, ℤ, true, List, Some, length, map, take, slice_index}
use Rattle.std.specs.Int.{w64, cast_signed}
use Rattle.spmd_model.specs.Timelines.{Word, counter, signal}
use Rattle.spmd_model.specs.Acts.{await}
use Rattle.spmd_model.specs.Lawful.{IsPosted}
use Rattle.spmd_model.specs.Protocols.{Protocol, act_at, arrivals_at, shown_at}
use Rattle.shared_words.specs.Places.{passed_at, total}

-- the cells come first; each processor has a line of 8 words behind them, its counter first in it and then its signal, and so has the arrival word behind those
abbrev pub line_of : Protocol → ℕ → ℕ
line_of m p = m.cells + 8 * (p + 1)

abbrev pub place_in_line : Word → ℕ
place_in_line counter = 0
place_in_line signal = 1

abbrev pub word_of : Protocol → Word → ℕ → ℕ
word_of m w p = line_of m p + place_in_line w

abbrev pub arrival_word : Protocol → ℕ
arrival_word m = line_of m m.workers

abbrev pub word_count : Protocol → ℕ
word_count m = m.cells + 8 * (m.workers + 2)

-- the value that a cell's word stands for
abbrev pub word_value : ℕ → ℤ
word_value word = cast_signed w64 word

abbrev pub cells_in : Protocol → List ℕ → List ℤ
cells_in m words = map word_value (take m.cells words)

-- the arrival word is the sum of all arrivals, and nobody has passed a barrier at which another has still to arrive
pub record AreGathered (m : Protocol) (words : List ℕ) (at : ℕ → ℕ) : Type 0 where
  pub sum : slice_index words (arrival_word m) ≡ total (λ q. arrivals_at m q (at q)) m.workers
  pub passed : (p q : ℕ) → p < m.workers → q < m.workers
      → passed_at m p (at p) ≤ arrivals_at m q (at q)

-- whoever is awaited at a barrier behind these places has posted there
abbrev pub AreAwaited : Protocol → (ℕ → ℕ) → Type 0
AreAwaited m at = (p i q number : ℕ) → p < m.workers → i < at p
    → act_at m p i ≡ Some (await counter q number) → m.gathers number ≡ true
    → IsPosted (m.acts q) counter number (at q)

-- the words show the machine at these places
pub record AreShown (m : Protocol) (words : List ℕ) (at : ℕ → ℕ) : Type 0 where
  pub wide : length words ≡ word_count m
  pub cells : m.lawful (cells_in m words) at
  pub counters : (w : Word) (q : ℕ) → q < m.workers
      → slice_index words (word_of m w q) ≡ shown_at m w q (at q)
  pub gathered : AreGathered m words at
  pub awaited : AreAwaited m at
