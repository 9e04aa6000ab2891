-- What a cursor of counter turns shows, and what it keeps.
use Rattle.std.specs.Prelude.{ℕ, suc, ◌+◌, ◌-◌, ◌<◌, ◌==◌, ◌||◌, ◌≡◌, ◌⊎◌, Bool, true, not, is_some, List, [], ◌∷◌, ◌++◌, drop, length, map, Option, Some, None, slice_get}
use Rattle.nest_tree.specs.Tree.{Tree, param_values}
use Rattle.nest_tree.specs.View.{tree_of}
use Rattle.nest_model.specs.Instances.{Instance}
use Rattle.nest_tree.specs.WellFormed.{IsWellFormed}
use Rattle.nest_model.specs.Visits.{Visit, instances_at}
use Rattle.nest_walk.specs.Cursors.{visit_at}
use Rattle.nest_walk.specs.InstancesLeft.{instances_left, instances_rounds, instances_tree}
use Rattle.nest_walk.specs.Paths.{Round}
use Rattle.nest_walk.specs.declared.cursor.Stop.{Stop}
use Rattle.nest_walk.specs.declared.path.Path.{Path}
use Rattle.owner_partition.specs.Marks.{enters_outer}
use Rattle.owner_partition.specs.Phases.{phases}
use Rattle.owner_partition.specs.PhasesLeft.{phases_enters, phases_left, phases_passed, phases_tree}
use Rattle.sync_plan.specs.Fit.{IsFit}
use Rattle.spmd_model.specs.Deeds.{owned_by}
use Rattle.sync_plan.specs.declared.plan.Plan.{Plan}
use Rattle.sync_plan.specs.ProcessorSets.{members}
use Rattle.turns.specs.declared.counters.Boundary.{Boundary}
use Rattle.turns.specs.declared.counters.CounterNext.{CounterNext}
use Rattle.turns.specs.declared.counters.CounterNext.TheVariants.{Post, Await, Phase, Work, End}
use Rattle.turns.specs.declared.counters.CounterTurns.{CounterTurns}
use Rattle.instance_runs.specs.Stops.{IsInstance}
use Rattle.turns.specs.CounterTurns.{CounterTurn, posts, awaits, begins, works, boundary_at, boundary_turns, counter_turns}

abbrev pub counters_tree : CounterTurns → Tree
counters_tree c = tree_of c.program.now

abbrev pub counters_plan : CounterTurns → Plan
counters_plan c = c.plan.now

abbrev pub counters_processor : CounterTurns → ℕ
counters_processor c = c.processor

-- the loops round the instance that comes next, with their values
abbrev pub counters_rounds : CounterTurns → List Round
counters_rounds c = instances_rounds c.own

abbrev pub counters_path : CounterTurns → Path
counters_path c = c.own.cursor.path

abbrev pub counters_boundary : CounterTurns → Boundary
counters_boundary c = c.boundary

-- the phase that begins
abbrev pub begun_by : Option ℕ → List CounterTurn
begun_by None = []
begun_by (Some e) = begins e ∷ []

-- the instance that has come
abbrev pub come_of : Tree → List Round → Option Stop → List Instance
come_of tree rounds None = []
come_of tree rounds (Some stop) = instances_at (param_values tree) (visit_at tree rounds stop)

-- what is left
abbrev pub counters_left : CounterTurns → List CounterTurn
counters_left c =
    boundary_turns c.number c.posts (members c.awaits)
    ++ (begun_by c.begins
    ++ (map works (come_of (counters_tree c) (counters_rounds c) c.come)
    ++ (map works (instances_left c.own) ++ counter_turns (counters_tree c) (counters_plan c)
    c.processor (suc (phases_passed c.phases)) (phases_left c.phases))))

-- what comes next, and at a boundary how it is passed
abbrev pub IsCounterNext : CounterTurns → CounterNext → Type 0
IsCounterNext c (Post number) = (rest : List CounterTurn) × (counters_left c ≡ posts number ∷ rest)
    × (counters_boundary c ≡ boundary_at (counters_tree c) (counters_plan c) number)
IsCounterNext c (Await on wanted) = (rest : List CounterTurn)
    × (counters_left c ≡ awaits on wanted ∷ rest)
    × (counters_boundary c ≡ boundary_at (counters_tree c) (counters_plan c) wanted)
IsCounterNext c (Phase e) = (rest : List CounterTurn) × (counters_left c ≡ begins e ∷ rest)
IsCounterNext c (Work stop) = (at : IsInstance (counters_tree c) (counters_rounds c) stop)
    × (rest : List CounterTurn) × (counters_left c ≡ works at.instance ∷ rest)
IsCounterNext c End = counters_left c ≡ []

-- a post of this number comes next, or an await
abbrev pub StandsAt : CounterTurns → ℕ → Type 0
StandsAt c number = IsCounterNext c (Post number) ⊎ ((on : ℕ) × IsCounterNext c (Await on number))

-- it isn't that a phase begins
abbrev pub IsAct : CounterNext → Type 0
IsAct (Post number) = Unit {0}
IsAct (Await on wanted) = Unit {0}
IsAct (Phase e) = ⊥
IsAct (Work stop) = Unit {0}
IsAct End = Unit {0}

-- something comes next without a look at what is behind
abbrev pub at_turn : CounterTurns → Bool
at_turn c = c.posts || not (c.awaits == 0) || is_some c.begins || is_some c.come

-- how far it is to the end: instances of this phase, later phases, and their instances
abbrev pub phases_to_go : Tree → Plan → ℕ → List Visit → ℕ
phases_to_go tree plan p [] = 0
phases_to_go tree plan p (v ∷ rest) = suc
    (length (owned_by tree (slice_get plan.anchors (v.place - 1)) plan.workers p v))
    + phases_to_go tree plan p rest

abbrev pub to_go : CounterTurns → ℕ
to_go c = length (instances_left c.own) + phases_to_go (counters_tree c) (counters_plan c)
    c.processor (phases_left c.phases)

-- the instance that has come is one
abbrev pub IsOne : Tree → List Round → Option Stop → Type 0
IsOne tree rounds None = Unit {0}
IsOne tree rounds (Some stop) = IsInstance tree rounds stop

-- the phase that begins is of the static phase with this place
abbrev pub IsBegun : Tree → Plan → ℕ → Option ℕ → Type 0
IsBegun tree plan place None = Unit {0}
IsBegun tree plan place (Some e) =
    (v : Visit) × (slice_get (phases tree plan.cut.marks) (e - 1) ≡ Some v) × (place ≡ v.place)

-- at a boundary it is known how it is passed, and the phase behind it has still to begin
pub record IsInFront (c : CounterTurns) : Type 0 where
  pub passed : counters_boundary c ≡ boundary_at (counters_tree c) (counters_plan c) c.number
  pub phase : c.begins ≡ Some (suc c.number)

-- the cursor's phases and instances are those of its program under its plan, which fits it
pub record AreSoundCounters (c : CounterTurns) : Type 0 where
  pub formed : IsWellFormed (counters_tree c)
  pub fits : IsFit (counters_tree c) (counters_plan c)
  pub worker : c.processor < (counters_plan c).workers
  pub walked : phases_tree c.phases ≡ counters_tree c
  pub owned : instances_tree c.own ≡ counters_tree c
  pub entered : phases_enters c.phases ≡ enters_outer (counters_plan c).cut.marks
  pub behind : phases_left c.phases ≡ drop (phases_passed c.phases)
      (phases (counters_tree c) (counters_plan c).cut.marks)
  pub boundary : (c.posts || not (c.awaits == 0)) ≡ true → IsInFront c
  pub begun : IsBegun (counters_tree c) (counters_plan c) c.place c.begins
  pub one : IsOne (counters_tree c) (counters_rounds c) c.come
