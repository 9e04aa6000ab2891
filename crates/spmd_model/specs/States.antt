-- The states of a machine.
use Rattle.std.specs.Prelude.{ℕ, ◌+◌, ℤ, pos, Bool, true, nat_le, List, [], ◌∷◌, ◌++◌, Option, Some, None, replicate, slice_get, slice_index, slice_index_or, slice_set}
use Rattle.nest_model.specs.Memory.{cell_value}
use Rattle.spmd_model.specs.Cells.{plus}
use Rattle.spmd_model.specs.Timelines.{Machine, Moment, Word, counter, signal, boundary, job}
use Rattle.spmd_model.specs.Acts.{Act, post, await, load, store, add, print, act_at}

-- per processor how many of its acts are done, what its loads gave since its last store or PRINT, its counter and its signal; one memory; one output
pub record State : Type 0 where
  pub positions : List ℕ
  pub registers : List (List ℤ)
  pub counters : List ℕ
  pub signals : List ℕ
  pub memory : List ℤ
  pub output : List ℕ

-- nothing is done, and all is 0 or empty
abbrev pub first_state : Machine → State
first_state m = record {
  positions = replicate m.workers 0;
  registers = replicate m.workers [];
  counters = replicate m.workers 0;
  signals = replicate m.workers 0;
  memory = replicate m.cells (pos 0);
  output = [];
}

-- processor p's next act, where it has one
abbrev pub next_act : Machine → State → ℕ → Option Act
next_act m s p = act_at m p (slice_index s.positions p)

-- the words of one sort, by processor
abbrev pub words_of : State → Word → List ℕ
words_of s counter = s.counters
words_of s signal = s.signals

abbrev pub with_words : State → Word → List ℕ → State
with_words s counter words = record s { counters = words }
with_words s signal words = record s { signals = words }

-- an act is possible, but an await only where the awaited word is at least the number
abbrev pub is_possible : State → Act → Bool
is_possible s (post word number) = true
is_possible s (await word on wanted) = nat_le wanted (slice_index (words_of s word) on)
is_possible s (load place cell) = true
is_possible s (store place cell) = true
is_possible s (add place cell) = true
is_possible s (print place) = true

-- the value that the job at a place of the timeline computes, and the line that it prints, from what its loads gave
abbrev pub assigned_by : Option Moment → List ℤ → ℤ
assigned_by None given = pos 0
assigned_by (Some (boundary word number posts awaits)) given = pos 0
assigned_by (Some (job j)) given = j.assigned given

abbrev pub line_by : Option Moment → List ℤ → List ℕ
line_by None given = []
line_by (Some (boundary word number posts awaits)) given = []
line_by (Some (job j)) given = j.line given

-- what p's loads gave so far
abbrev pub registers_of : State → ℕ → List ℤ
registers_of s p = slice_index_or s.registers p []

-- p has done one more act
abbrev pub moved : State → ℕ → State
moved s p = record s { positions = slice_set s.positions p (slice_index s.positions p + 1) }

-- the state behind an act of p
abbrev pub acted : Machine → State → ℕ → Act → State
acted m s p (post word number) = with_words s word (slice_set (words_of s word) p number)
acted m s p (await word on wanted) = s
acted m s p (load place cell) = record s
    { registers = slice_set s.registers p (registers_of s p ++ cell_value s.memory cell ∷ []) }
acted m s p (store place cell) =
    record s {
      registers = slice_set s.registers p [];
      memory = slice_set s.memory cell (assigned_by (slice_get m.timeline place)
          (registers_of s p));
    }
acted m s p (add place cell) =
    record s {
      registers = slice_set s.registers p [];
      memory = slice_set s.memory cell (plus (cell_value s.memory cell)
          (assigned_by (slice_get m.timeline place) (registers_of s p)));
    }
acted m s p (print place) = record s {
  registers = slice_set s.registers p [];
  output = s.output ++ line_by (slice_get m.timeline place) (registers_of s p);
}
