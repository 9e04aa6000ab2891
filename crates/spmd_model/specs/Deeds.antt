-- What an act does, without its place on the timeline: what is left of a processor's acts is shown by what they do.
use Rattle.std.specs.Prelude.{ℕ, suc, ◌-◌, ◌==◌, ℤ, Bool, false, List, [], ◌∷◌, ◌++◌, map, Option, Some, None, slice_get, slice_index, slice_set, nat_le, true, if◌then◌else◌}
use Rattle.std.specs.List.{flat_map}
use Rattle.nest_tree.specs.Tree.{Tree, param_values}
use Rattle.nest_model.specs.Instances.{Instance}
use Rattle.nest_model.specs.Accesses.{loads_of, store_of}
use Rattle.nest_model.specs.Memory.{assigned_value, cell_value, line_of}
use Rattle.nest_model.specs.Visits.{Visit}
use Rattle.owner_partition.specs.declared.anchor.Anchor.{Anchor}
use Rattle.owner_partition.specs.Owners.{own_instances}
use Rattle.sync_plan.specs.declared.plan.Plan.{Plan}
use Rattle.sync_plan.specs.Waits.{posts_at, waits_for}
use Rattle.spmd_model.specs.Cells.{plus}
use Rattle.spmd_model.specs.Timelines.{Job, Machine, Moment, Word, boundary, counter, job}
use Rattle.spmd_model.specs.Acts.{Act, post, await, load, store, add, print}
use Rattle.spmd_model.specs.States.{State, assigned_by, line_by, registers_of, with_words, words_of}

-- the same six kinds, a store with what it stores, an addition with what it adds and a PRINT with its line, from what the loads gave
pub data Deed : Type 0 where
  posting : (word : Word) (number : ℕ) → Deed
  awaiting : (word : Word) (on wanted : ℕ) → Deed
  loading : (cell : ℕ) → Deed
  storing : (cell : ℕ) (value : List ℤ → ℤ) → Deed
  adding : (cell : ℕ) (value : List ℤ → ℤ) → Deed
  printing : (line : List ℤ → List ℕ) → Deed

abbrev pub deed_of : Machine → Act → Deed
deed_of m (post word number) = posting word number
deed_of m (await word on wanted) = awaiting word on wanted
deed_of m (load place cell) = loading cell
deed_of m (store place cell) = storing cell (assigned_by (slice_get m.timeline place))
deed_of m (add place cell) = adding cell (assigned_by (slice_get m.timeline place))
deed_of m (print place) = printing (line_by (slice_get m.timeline place))

-- the deeds of a boundary and of a job
abbrev pub boundary_deeds : Word → ℕ → Bool → List ℕ → List Deed
boundary_deeds word number posts awaited =
    (if posts then posting word number ∷ [] else []) ++ map (λ q. awaiting word q number) awaited

abbrev pub last_deed : Option ℕ → Bool → (List ℤ → ℤ) → (List ℤ → List ℕ) → Deed
last_deed (Some cell) false value line = storing cell value
last_deed (Some cell) true value line = adding cell value
last_deed None adds value line = printing line

abbrev pub job_deeds : Job → List Deed
job_deeds j = map loading j.loads ++ last_deed j.store j.adds j.assigned j.line ∷ []

abbrev pub moment_deeds : ℕ → Moment → List Deed
moment_deeds p (boundary word number posts awaits) = boundary_deeds word number (posts p) (awaits p)
moment_deeds p (job j) = if j.owner == p then job_deeds j else []

-- ---- the same of a program under a plan, phase by phase

abbrev pub instance_deeds : Tree → Instance → List Deed
instance_deeds tree i = map loading (loads_of tree i)
    ++ last_deed (store_of tree i) false (assigned_value tree i) (line_of tree i) ∷ []

-- the instances of a phase that a processor owns by an anchor; a phase without one is processor 0's
abbrev pub owned_by : Tree → Option Anchor → ℕ → ℕ → Visit → List Instance
owned_by tree None workers p v = []
owned_by tree (Some a) workers p v = own_instances (param_values tree) a workers p v

abbrev pub phase_deeds : Tree → Plan → ℕ → ℕ → Visit → List Deed
phase_deeds tree plan p e v =
    boundary_deeds counter (e - 1) (posts_at tree plan p v.place v.loops)
    (waits_for tree plan p v.place v.loops)
    ++ flat_map (instance_deeds tree) (owned_by tree (slice_get plan.anchors (v.place - 1))
    plan.workers p v)

-- of phases of which the first has this number
abbrev pub deeds_from : Tree → Plan → ℕ → ℕ → List Visit → List Deed
deeds_from tree plan p e [] = []
deeds_from tree plan p e (v ∷ rest) =
    phase_deeds tree plan p e v ++ deeds_from tree plan p (suc e) rest

-- ---- what a deed does to a state

abbrev pub can_do : State → Deed → Bool
can_do s (posting word number) = true
can_do s (awaiting word on wanted) = nat_le wanted (slice_index (words_of s word) on)
can_do s (loading cell) = true
can_do s (storing cell value) = true
can_do s (adding cell value) = true
can_do s (printing line) = true

abbrev pub did : State → ℕ → Deed → State
did s p (posting word number) = with_words s word (slice_set (words_of s word) p number)
did s p (awaiting word on wanted) = s
did s p (loading cell) = record s {
  registers = slice_set s.registers p
      (registers_of s p ++ cell_value s.memory cell ∷ []);
}
did s p (storing cell value) = record s {
  registers = slice_set s.registers p [];
  memory = slice_set s.memory cell (value (registers_of s p));
}
did s p (adding cell value) = record s {
  registers = slice_set s.registers p [];
  memory = slice_set s.memory cell (plus (cell_value s.memory cell) (value (registers_of s p)));
}
did s p (printing line) = record s {
  registers = slice_set s.registers p [];
  output = s.output ++ line (registers_of s p);
}
