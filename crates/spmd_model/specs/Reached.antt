-- What holds of every state that a run comes to, and the state that lawful memory is.
use Rattle.std.specs.Prelude.{ℕ, ◌≡◌, ◌≤◌, ◌<◌, ◌⊎◌, ℤ, true, List, map, Some, length, slice_index, slice_set}
use Rattle.std.specs.List.{range_with_len}
use Rattle.nest_model.specs.Memory.{cell_value}
use Rattle.spmd_model.specs.Cells.{plus}
use Rattle.spmd_model.specs.Timelines.{Machine, Word, counter, signal}
use Rattle.spmd_model.specs.Acts.{Act, post, await, load, store, add, print, acts_of}
use Rattle.spmd_model.specs.States.{State, is_possible, next_act, registers_of, words_of}
use Rattle.spmd_model.specs.Sequential.{registers_at}
use Rattle.spmd_model.specs.Lawful.{IsLawful, IsPosted, counter_at, printed_at}

-- how many acts each processor has done
abbrev pub positions_of : State → ℕ → ℕ
positions_of s p = slice_index s.positions p

-- no processor is past its end, and each word is the number that its processor posted last
pub record HasCome (m : Machine) (s : State) : Type 0 where
  pub count : length s.positions ≡ m.workers
  pub as_many : (w : Word) → length (words_of s w) ≡ m.workers
  pub within : (p : ℕ) → p < m.workers → slice_index s.positions p ≤ length (acts_of m p)
  pub counters : (w : Word) (p : ℕ) → p < m.workers
      → slice_index (words_of s w) p ≡ counter_at m w p (slice_index s.positions p)

-- cells are lawful, registers and output are those of the sequential program
pub record IsSequential (m : Machine) (s : State) : Type 0 where
  pub lawful : IsLawful m s.memory (positions_of s)
  pub as_many : length s.registers ≡ m.workers
  pub registers : (p : ℕ) → p < m.workers → registers_of s p
      ≡ registers_at m p (slice_index s.positions p)
  pub output : s.output ≡ printed_at m 0 (slice_index s.positions 0)

-- some processor's next act is possible
pub record CanGo (m : Machine) (s : State) : Type 0 where
  pub processor : ℕ
  pub below : processor < m.workers
  pub act : Act
  pub next : next_act m s processor ≡ Some act
  pub possible : is_possible s act ≡ true

-- ---- lawful memory as a state

-- the processors, by number
abbrev pub processors : Machine → List ℕ
processors m = range_with_len 0 m.workers

-- the state with this memory where each processor p has done its first `at p` acts, and each load gave the sequential value
abbrev pub state_at : Machine → List ℤ → (ℕ → ℕ) → State
state_at m memory at = record {
  positions = map at (processors m);
  registers = map (λ p. registers_at m p (at p)) (processors m);
  counters = map (λ p. counter_at m counter p (at p)) (processors m);
  signals = map (λ p. counter_at m signal p (at p)) (processors m);
  memory = memory;
  output = printed_at m 0 (at 0);
}

-- memory behind an act that stores this value, or adds it; other acts leave it
abbrev pub memory_by : List ℤ → ℤ → Act → List ℤ
memory_by memory v (post word number) = memory
memory_by memory v (await word on wanted) = memory
memory_by memory v (load place cell) = memory
memory_by memory v (store place cell) = slice_set memory cell v
memory_by memory v (add place cell) = slice_set memory cell (plus (cell_value memory cell) v)
memory_by memory v (print place) = memory

-- an act is possible where the processors have these acts and have come to these places: an await is of 0, or of a number whose post the awaited processor has done
abbrev pub IsPossibleAt : (ℕ → List Act) → (ℕ → ℕ) → Act → Type 0
IsPossibleAt acts at (post word number) = Unit {0}
IsPossibleAt acts at (await word on wanted) = (wanted ≡ 0) ⊎ IsPosted (acts on) word wanted (at on)
IsPossibleAt acts at (load place cell) = Unit {0}
IsPossibleAt acts at (store place cell) = Unit {0}
IsPossibleAt acts at (add place cell) = Unit {0}
IsPossibleAt acts at (print place) = Unit {0}
