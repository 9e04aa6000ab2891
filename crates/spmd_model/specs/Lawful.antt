-- Lawful places: each cell holds the last value stored behind them, and whoever is awaited behind them has posted.
use Rattle.std.specs.Prelude.{ℕ, suc, ◌≡◌, ◌≢◌, ◌≤◌, ◌<◌, ◌⊎◌, ◌==◌, ◌&&◌, nat_le, ℤ, pos, Bool, true, false, List, [], ◌∷◌, Option, Some, None, fold, length, take, if◌then◌else◌}
use Rattle.std.specs.List.{flat_map}
use Rattle.nest_model.specs.Memory.{cell_value}
use Rattle.spmd_model.specs.Cells.{changed}
use Rattle.spmd_model.specs.Timelines.{Job, Machine, Moment, Word, counter, signal, boundary, job}
use Rattle.spmd_model.specs.Acts.{Act, post, await, load, store, add, print, act_at, acts_from, acts_of}
use Rattle.spmd_model.specs.Sequential.{given_at, value_at}
use Rattle.spmd_model.specs.States.{line_by}
use Rattle.std.specs.Prelude.{slice_get}

-- how many acts processor p has for moments in front of this place of the timeline
abbrev pub acts_in_front : Machine → ℕ → ℕ → ℕ
acts_in_front m p place = length (acts_from p 0 (take place m.timeline))

-- where each processor p has done its first `at p` acts, the job at this place is done
abbrev pub is_done : Machine → (ℕ → ℕ) → ℕ → Job → Bool
is_done m at place j = nat_le (acts_in_front m j.owner (suc place)) (at j.owner)

abbrev pub stores_to : Option ℕ → ℕ → Bool
stores_to None cell = false
stores_to (Some c) cell = c == cell

-- what a cell holds behind the jobs that are done, in their order, of moments of which the first has this place, where it held v
abbrev pub last_value_from : Machine → (ℕ → Job → Bool) → ℕ → ℕ → List Moment → ℤ → ℤ
last_value_from m done cell place [] v = v
last_value_from m done cell place (boundary word number posts awaits ∷ rest) v =
    last_value_from m done cell (suc place) rest v
last_value_from m done cell place (job j ∷ rest) v = last_value_from m done cell (suc place) rest
    (if stores_to j.store cell && done place j then changed j.adds v (value_at m place) else v)

abbrev pub last_value_where : Machine → (ℕ → Job → Bool) → ℕ → ℤ
last_value_where m done cell = last_value_from m done cell 0 m.timeline (pos 0)

abbrev pub last_value : Machine → (ℕ → ℕ) → ℕ → ℤ
last_value m at cell = last_value_where m (is_done m at) cell

-- the post of n on this word stands among the first k of these acts
abbrev pub IsPosted : List Act → Word → ℕ → ℕ → Type 0
IsPosted acts w n k = (i : ℕ) × (i < k) × (slice_get acts i ≡ Some (post w n))

pub record IsLawful (m : Machine) (cells : List ℤ) (at : ℕ → ℕ) : Type 0 where
  pub within : (p : ℕ) → p < m.workers → at p ≤ length (acts_of m p)
  pub size : length cells ≡ m.cells
  pub holds : (cell : ℕ) → cell < m.cells → cell_value cells cell ≡ last_value m at cell
  pub awaited : (w : Word) (p i q n : ℕ) → p < m.workers → i < at p
      → act_at m p i ≡ Some (await w q n) → (n ≡ 0) ⊎ IsPosted (acts_of m q) w n (at q)

-- places of which p's is another
abbrev pub put : (ℕ → ℕ) → ℕ → ℕ → ℕ → ℕ
put at p n q = if q == p then n else at q

-- processor p goes on to its act n, and the others stay
pub record Moves (before after : ℕ → ℕ) (p n : ℕ) : Type 0 where
  pub here : after p ≡ n
  pub others : (q : ℕ) → q ≢ p → after q ≡ before q

-- ---- counters and output

-- the number that was posted last on a word among acts, or else the one before them
abbrev pub is_same : Word → Word → Bool
is_same counter counter = true
is_same counter signal = false
is_same signal counter = false
is_same signal signal = true

abbrev pub counted : Word → ℕ → Act → ℕ
counted w n (post word number) = if is_same w word then number else n
counted w n (await word on wanted) = n
counted w n (load place cell) = n
counted w n (store place cell) = n
counted w n (add place cell) = n
counted w n (print place) = n

abbrev pub counter_at : Machine → Word → ℕ → ℕ → ℕ
counter_at m w p n = fold (counted w) 0 (take n (acts_of m p))

-- the lines that acts print where each load gives the sequential value
abbrev pub act_line : Machine → Act → List ℕ
act_line m (post word number) = []
act_line m (await word on wanted) = []
act_line m (load place cell) = []
act_line m (store place cell) = []
act_line m (add place cell) = []
act_line m (print place) = line_by (slice_get m.timeline place) (given_at m place)

abbrev pub printed_at : Machine → ℕ → ℕ → List ℕ
printed_at m p n = flat_map (act_line m) (take n (acts_of m p))
