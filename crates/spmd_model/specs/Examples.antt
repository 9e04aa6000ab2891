-- Worked rows: runs of two processors in two phases over an array of two elements, sums by own cells, and a barrier by signals among three.
use Rattle.std.specs.Prelude.{ℕ, ◌+◌, ◌≡◌, ◌==◌, ℤ, pos, Bool, true, false, List, [], ◌∷◌, ◌++◌, Some, if◌then◌else◌, refl, slice_index_or}
use Rattle.std.specs.Int.{int_wrap}
use Rattle.spmd_model.specs.Timelines.{Job, Machine, Moment, boundary, counter, job}
use Rattle.spmd_model.specs.Acts.{post, await, load, store, add, acts_of}
use Rattle.spmd_model.specs.Runs.{run_of}
use Rattle.spmd_model.specs.Sequential.{memory_at_end}
use Rattle.spmd_model.specs.Lawful.{counter_at, last_value}
use Rattle.spmd_model.specs.Rounds.{round_boundary}

-- ---- A(1) = 7 by processor 0 and A(2) = 8 by processor 1; and then A(1) = A(2) by processor 0, which waits for processor 1

abbrev pub fixed : ℤ → ℕ → ℕ → Job
fixed v owner cell = record {
  owner = owner;
  loads = [];
  store = Some cell;
  adds = false;
  assigned = λ given. v;
  line = λ given. [];
  counts = 1;
}

-- it changes a cell by what another one holds
abbrev pub from_cell : Bool → ℕ → ℕ → ℕ → Job
from_cell adds owner loaded cell = record {
  owner = owner;
  loads = loaded ∷ [];
  store = Some cell;
  adds = adds;
  assigned = λ given. slice_index_or given 0 (pos 0);
  line = λ given. [];
  counts = 1;
}

abbrev two_phases : (ℕ → List ℕ) → Machine
two_phases awaits = record {
  workers = 2;
  cells = 2;
  timeline = boundary counter 0 (λ q. false) (λ p. []) ∷ job (fixed (pos 7) 0 0)
      ∷ job (fixed (pos 8) 1 1) ∷ boundary counter 1 (λ q. q == 1) awaits
      ∷ job (from_cell false 0 1 0) ∷ [];
}

-- with that wait, and without any
abbrev pub waiting : Machine
waiting = two_phases (λ p. if p == 0 then 1 ∷ [] else [])

abbrev pub heedless : Machine
heedless = two_phases (λ p. [])

-- its acts: each job's are its owner's, a post stands at its boundary
pub acts_of-first : acts_of waiting 0 ≡ store 1 0 ∷ await counter 1 1 ∷ load 4 1 ∷ store 4 0 ∷ []
acts_of-first = refl

pub acts_of-second : acts_of waiting 1 ≡ store 2 1 ∷ post counter 1 ∷ []
acts_of-second = refl

-- the sequential memory, and runs that come to it
pub memory_at_end-example : memory_at_end waiting ≡ pos 8 ∷ pos 8 ∷ []
memory_at_end-example = refl

pub run_of-example : (run_of waiting (1 ∷ 1 ∷ 0 ∷ 0 ∷ 0 ∷ 0 ∷ [])).memory ≡ pos 8 ∷ pos 8 ∷ []
run_of-example = refl

-- processor 0 stays at its await until processor 1 has posted
pub run_of-stays : (run_of waiting (0 ∷ 0 ∷ 0 ∷ 1 ∷ [])).positions ≡ 1 ∷ 1 ∷ []
run_of-stays = refl

-- without the wait a run comes to another memory
pub run_of-heedless : (run_of heedless (0 ∷ 0 ∷ 0 ∷ 1 ∷ 1 ∷ [])).memory ≡ pos 0 ∷ pos 8 ∷ []
run_of-heedless = refl

-- what each cell holds where processor 0 has done its first store, and processor 1 nothing; and where it has stored too
pub last_value-first : last_value waiting (λ p. if p == 0 then 1 else 0) 0 ≡ pos 7
last_value-first = refl

pub last_value-other : last_value waiting (λ p. if p == 0 then 1 else 0) 1 ≡ pos 0
last_value-other = refl

pub last_value-both : last_value waiting (λ p. 1) 1 ≡ pos 8
last_value-both = refl

-- processor 1 shows the number that it posted
pub counter_at-example : counter_at waiting counter 1 2 ≡ 1
counter_at-example = refl

-- ---- sums: processor p has the own cell 1 + p, adds it to the shared cell 0, and sets it to 0

abbrev closings : Bool → Bool → ℕ → List Moment
closings adds clears p =
    job (from_cell adds p (p + 1) 0) ∷ (if clears then job (fixed (pos 0) p (p + 1)) ∷ [] else [])

-- two phases, of which only the first assigns: 3 by processor 0, 4 by processor 1
abbrev sums : Bool → Bool → Machine
sums adds clears = record {
  workers = 2;
  cells = 3;
  timeline = job (fixed (pos 3) 0 1) ∷ job (fixed (pos 4) 1 2)
      ∷ (closings adds clears 0 ++ closings adds clears 1 ++ closings adds clears 1);
}

pub acts_of-sums : acts_of (sums true true) 0 ≡ store 0 1 ∷ load 2 1 ∷ add 2 0 ∷ store 3 1 ∷ []
acts_of-sums = refl

pub memory_at_end-sums : memory_at_end (sums true true) ≡ pos 7 ∷ pos 0 ∷ pos 0 ∷ []
unfolding int_wrap
memory_at_end-sums = refl

-- in whatever order they add
pub run_of-sums : (run_of (sums true true) (1 ∷ 1 ∷ 0 ∷ 0 ∷ 0 ∷ 1 ∷ 1 ∷ 1 ∷ 1 ∷ 1 ∷ 0 ∷ [])).memory
    ≡ pos 7 ∷ pos 0 ∷ pos 0 ∷ []
unfolding int_wrap
run_of-sums = refl

-- a store in place of the addition loses what the other added, and an own cell that is kept is added again
pub memory_at_end-stored : memory_at_end (sums false true) ≡ pos 0 ∷ pos 0 ∷ pos 0 ∷ []
memory_at_end-stored = refl

pub memory_at_end-kept : memory_at_end (sums true false) ≡ pos 11 ∷ pos 3 ∷ pos 4 ∷ []
unfolding int_wrap
memory_at_end-kept = refl

-- ---- a barrier by signals, of so many rounds from this number on

abbrev by_signals : ℕ → ℕ → Machine
by_signals first rounds = record {
  workers = 3;
  cells = 0;
  timeline = round_boundary 3 first 0 ∷ (if rounds == 2 then round_boundary 3 first 1 ∷ []
      else []);
}

-- of two rounds, processor 1 passes the first by processor 0, and stays in the second, where it awaits processor 2
pub run_of-rounds : (run_of (by_signals 1 2) (0 ∷ 1 ∷ 1 ∷ 1 ∷ 1 ∷ [])).positions ≡ 1 ∷ 3 ∷ 0 ∷ []
run_of-rounds = refl

-- with one round fewer it is past all, and processor 2 has done nothing
pub run_of-fewer_rounds : (run_of (by_signals 1 1) (0 ∷ 1 ∷ 1 ∷ [])).positions ≡ 1 ∷ 2 ∷ 0 ∷ []
run_of-fewer_rounds = refl

-- with signals from 0 on, its first await waits for nobody
pub run_of-rounds_from_zero : (run_of (by_signals 0 2) (1 ∷ 1 ∷ [])).positions ≡ 0 ∷ 2 ∷ 0 ∷ []
run_of-rounds_from_zero = refl
