-- What a processor would do by counters alone and without own cells, turn by turn: the posts and awaits of each boundary, the beginning of the phase, and the instances of it that it owns.
use Rattle.std.specs.Prelude.{ℕ, suc, ◌-◌, Bool, true, ◌&&◌, nat_lt, Option, List, [], ◌∷◌, ◌++◌, map, slice_get, if◌then◌else◌}
use Rattle.nest_tree.specs.Tree.{Tree}
use Rattle.nest_model.specs.Instances.{Instance}
use Rattle.nest_model.specs.Ranges.{is_instance_inside}
use Rattle.nest_model.specs.Visits.{Visit}
use Rattle.owner_partition.specs.Phases.{phases}
use Rattle.seq_meaning.specs.Room.{longest_line}
use Rattle.sync_plan.specs.Boundaries.{is_barrier, is_join, kind_before}
use Rattle.sync_plan.specs.declared.plan.Kind.{Kind}
use Rattle.sync_plan.specs.declared.plan.Plan.{Plan}
use Rattle.sync_plan.specs.Waits.{posts_at, waits_for}
use Rattle.turns.specs.declared.counters.Boundary.{Boundary}
use Rattle.turns.specs.declared.counters.Boundary.TheVariants.{Counters, Barrier, Join}
use Rattle.spmd_model.specs.Deeds.{Deed, posting, awaiting, instance_deeds, owned_by}
use Rattle.spmd_model.specs.Timelines.{counter}

pub data CounterTurn : Type 0 where
  posts : (number : ℕ) → CounterTurn
  awaits : (on wanted : ℕ) → CounterTurn
  begins : (phase : ℕ) → CounterTurn
  works : (i : Instance) → CounterTurn

abbrev pub counter_deeds : Tree → CounterTurn → List Deed
counter_deeds tree (posts number) = posting counter number ∷ []
counter_deeds tree (awaits on wanted) = awaiting counter on wanted ∷ []
counter_deeds tree (begins e) = []
counter_deeds tree (works i) = instance_deeds tree i

-- how many bytes a turn can print at most
abbrev pub counter_room : Tree → CounterTurn → ℕ
counter_room tree (posts number) = 0
counter_room tree (awaits on wanted) = 0
counter_room tree (begins e) = 0
counter_room tree (works i) = longest_line tree i.what

-- in front of a phase
abbrev pub boundary_turns : ℕ → Bool → List ℕ → List CounterTurn
boundary_turns number does awaited =
    (if does then posts number ∷ [] else []) ++ map (λ q. awaits q number) awaited

abbrev pub phase_turns : Tree → Plan → ℕ → ℕ → Visit → List CounterTurn
phase_turns tree plan p e v =
    boundary_turns (e - 1) (posts_at tree plan p v.place v.loops)
    (waits_for tree plan p v.place v.loops)
    ++ begins e ∷ map works (owned_by tree (slice_get plan.anchors (v.place - 1)) plan.workers p
    v)

-- in phases of which the first has this number
abbrev pub counter_turns : Tree → Plan → ℕ → ℕ → List Visit → List CounterTurn
counter_turns tree plan p e [] = []
counter_turns tree plan p e (v ∷ rest) =
    phase_turns tree plan p e v ++ counter_turns tree plan p (suc e) rest

-- each access of an instance is in range
abbrev pub is_counter_inside : Tree → CounterTurn → Bool
is_counter_inside tree (posts number) = true
is_counter_inside tree (awaits on wanted) = true
is_counter_inside tree (begins e) = true
is_counter_inside tree (works i) = is_instance_inside tree i

-- turns but for the beginnings of phases that stand first
abbrev pub without_beginnings : List CounterTurn → List CounterTurn
without_beginnings [] = []
without_beginnings (posts number ∷ rest) = posts number ∷ rest
without_beginnings (awaits on wanted ∷ rest) = awaits on wanted ∷ rest
without_beginnings (begins e ∷ rest) = without_beginnings rest
without_beginnings (works i ∷ rest) = works i ∷ rest

-- how so many processors pass a boundary of this kind, and the one with so many phases in front of it
abbrev pub boundary_by : Option Kind → ℕ → Boundary
boundary_by kind workers =
    if is_join kind then Join else if is_barrier kind && nat_lt 1 workers then Barrier else Counters

abbrev pub boundary_at : Tree → Plan → ℕ → Boundary
boundary_at tree plan number =
    boundary_by (kind_before plan (slice_get (phases tree plan.cut.marks) number)) plan.workers
