-- The acts of each processor along a timeline.
use Rattle.std.specs.Prelude.{ℕ, suc, ◌==◌, Bool, true, false, List, [], ◌∷◌, ◌++◌, map, Option, Some, None, slice_get, if◌then◌else◌}
use Rattle.spmd_model.specs.Timelines.{Job, Machine, Moment, Word, boundary, job}

-- one act: it sets one of its own words, awaits another's, loads a cell, stores a value, adds one, or prints a line, the last four for the job at this place of the timeline
pub data Act : Type 0 where
  post : (word : Word) (number : ℕ) → Act
  await : (word : Word) (on wanted : ℕ) → Act
  load : (place cell : ℕ) → Act
  store : (place cell : ℕ) → Act
  add : (place cell : ℕ) → Act
  print : (place : ℕ) → Act

-- at a boundary: a post, where others await the processor, and then an await of each that it waits for
abbrev pub boundary_acts : ℕ → Word → ℕ → Bool → List ℕ → List Act
boundary_acts p word number posts awaited =
    (if posts then post word number ∷ [] else []) ++ map (λ q. await word q number) awaited

-- a job's loads in their order, and then its store, its add or its PRINT
abbrev pub last_act : ℕ → Option ℕ → Bool → Act
last_act place (Some cell) false = store place cell
last_act place (Some cell) true = add place cell
last_act place None adds = print place

abbrev pub job_acts : ℕ → Job → List Act
job_acts place j = map (load place) j.loads ++ last_act place j.store j.adds ∷ []

abbrev pub moment_acts : ℕ → ℕ → Moment → List Act
moment_acts p place (boundary word number posts awaits) =
    boundary_acts p word number (posts p) (awaits p)
moment_acts p place (job j) = if j.owner == p then job_acts place j else []

-- the acts of processor p along moments of which the first has this place
abbrev pub acts_from : ℕ → ℕ → List Moment → List Act
acts_from p place [] = []
acts_from p place (m ∷ rest) = moment_acts p place m ++ acts_from p (suc place) rest

-- all acts of a processor, and the one at this place among them
abbrev pub acts_of : Machine → ℕ → List Act
acts_of m p = acts_from p 0 m.timeline

abbrev pub act_at : Machine → ℕ → ℕ → Option Act
act_at m p n = slice_get (acts_of m p) n
