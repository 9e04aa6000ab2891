-- What one processor alone would compute along the timeline: memory in front of each place, what each load gives, each value, and the output.
use Rattle.std.specs.Prelude.{ℕ, ℤ, pos, List, [], ◌∷◌, ◌++◌, Option, Some, None, fold, map, replicate, slice_get, take}
use Rattle.nest_model.specs.Memory.{cell_value}
use Rattle.spmd_model.specs.Cells.{with_change}
use Rattle.spmd_model.specs.Timelines.{Job, Machine, Moment, boundary, job}
use Rattle.spmd_model.specs.Acts.{Act, post, await, load, store, add, print, act_at, acts_of}
use Rattle.spmd_model.specs.States.{assigned_by}

-- memory behind a moment
abbrev pub memory_behind : List ℤ → Moment → List ℤ
memory_behind memory (boundary word number posts awaits) = memory
memory_behind memory (job j) =
    with_change memory j.store j.adds (j.assigned (map (cell_value memory) j.loads))

-- memory in front of the moment at this place of the timeline, from 0, and behind the last one
abbrev pub memory_at : Machine → ℕ → List ℤ
memory_at m place = fold memory_behind (replicate m.cells (pos 0)) (take place m.timeline)

abbrev pub memory_at_end : Machine → List ℤ
memory_at_end m = fold memory_behind (replicate m.cells (pos 0)) m.timeline

-- what the loads of the job at this place give
abbrev pub loads_by : Option Moment → List ℕ
loads_by None = []
loads_by (Some (boundary word number posts awaits)) = []
loads_by (Some (job j)) = j.loads

abbrev pub given_at : Machine → ℕ → List ℤ
given_at m place = map (cell_value (memory_at m place)) (loads_by (slice_get m.timeline place))

-- the value that it stores, and the line that it prints
abbrev pub value_at : Machine → ℕ → ℤ
value_at m place = assigned_by (slice_get m.timeline place) (given_at m place)

-- the lines of moments from a memory on; a job with a store prints none
abbrev pub printed_line : Job → Option ℕ → List ℤ → List ℕ
printed_line j None given = j.line given
printed_line j (Some cell) given = []

abbrev pub moment_line : List ℤ → Moment → List ℕ
moment_line memory (boundary word number posts awaits) = []
moment_line memory (job j) = printed_line j j.store (map (cell_value memory) j.loads)

abbrev pub output_along : List ℤ → List Moment → List ℕ
output_along memory [] = []
output_along memory (m ∷ rest) = moment_line memory m ++ output_along (memory_behind memory m) rest

abbrev pub whole_output : Machine → List ℕ
whole_output m = output_along (replicate m.cells (pos 0)) m.timeline

-- ---- by processor and place among its acts

-- what a processor's loads gave since its last store or PRINT, behind an act that gives the sequential value
abbrev pub registers_behind : Machine → List ℤ → Act → List ℤ
registers_behind m given (post word number) = given
registers_behind m given (await word on wanted) = given
registers_behind m given (load place cell) = given ++ cell_value (memory_at m place) cell ∷ []
registers_behind m given (store place cell) = []
registers_behind m given (add place cell) = []
registers_behind m given (print place) = []

-- in front of the act at this place
abbrev pub registers_at : Machine → ℕ → ℕ → List ℤ
registers_at m p n = fold (registers_behind m) [] (take n (acts_of m p))

-- what the load at this place gives, and what the store at this place stores, or the add adds
abbrev pub loaded_by : Machine → Option Act → ℤ
loaded_by m None = pos 0
loaded_by m (Some (post word number)) = pos 0
loaded_by m (Some (await word on wanted)) = pos 0
loaded_by m (Some (load place cell)) = cell_value (memory_at m place) cell
loaded_by m (Some (store place cell)) = pos 0
loaded_by m (Some (add place cell)) = pos 0
loaded_by m (Some (print place)) = pos 0

abbrev pub loaded_at : Machine → ℕ → ℕ → ℤ
loaded_at m p n = loaded_by m (act_at m p n)

abbrev pub stored_by : Machine → List ℤ → Option Act → ℤ
stored_by m given None = pos 0
stored_by m given (Some (post word number)) = pos 0
stored_by m given (Some (await word on wanted)) = pos 0
stored_by m given (Some (load place cell)) = pos 0
stored_by m given (Some (store place cell)) = assigned_by (slice_get m.timeline place) given
stored_by m given (Some (add place cell)) = assigned_by (slice_get m.timeline place) given
stored_by m given (Some (print place)) = pos 0

abbrev pub stored_at : Machine → ℕ → ℕ → ℤ
stored_at m p n = stored_by m (registers_at m p n) (act_at m p n)
