-- What a cursor of turns shows, and what it keeps.
use Rattle.std.specs.Prelude.{ℕ, ◌+◌, ◌-◌, ◌*◌, ◌≡◌, ◌≤◌, ◌<◌, ◌⊎◌, ℤ, Bool, true, false, List, [], ◌∷◌, ◌++◌, Option, Some, None, length, map, slice_get, slice_index_or, slice_set}
use Rattle.std.specs.List.{range_with_len}
use Rattle.std.specs.Option.{MatchOption}
use Rattle.std.specs.Borrow.{Bor}
use Rattle.nest_tree.specs.Limits.{most_work}
use Rattle.nest_tree.specs.Tree.{Tree, param_values}
use Rattle.nest_tree.specs.Layout.{cell_count}
use Rattle.nest_tree.specs.View.{loop_of, tree_of}
use Rattle.nest_tree.specs.WellFormed.{IsWellFormed}
use Rattle.nest_tree.specs.declared.tree.Nest.{Nest}
use Rattle.nest_walk.specs.Paths.{Round}
use Rattle.nest_walk.specs.Texts.{Placed}
use Rattle.nest_walk.specs.declared.path.Path.{Path}
use Rattle.sync_plan.specs.Fit.{IsFit}
use Rattle.sync_plan.specs.Own.{OwnLoop, own_loop}
use Rattle.sync_plan.specs.Shape.{static_phases}
use Rattle.sync_plan.specs.declared.plan.Plan.{Plan}
use Rattle.own_cells.specs.OwnCells.{AreFew, AreOwnCells}
use Rattle.own_cells.specs.declared.cells.OwnCells.{OwnCells}
use Rattle.spmd_model.specs.Rounds.{rounds_of}
use Rattle.spmd_model.specs.Timelines.{counter, signal}
use Rattle.spmd_model.specs.declared.style.Style.{Style}
use Rattle.spmd_model.specs.declared.style.Style.TheVariants.{Arrive}
use Rattle.turns.specs.CounterTurns.{CounterTurn, posts, awaits, begins, works}
use Rattle.turns.specs.CountersLeft.{AreSoundCounters, IsCounterNext, at_turn, counters_left, counters_path, counters_plan, counters_processor, counters_rounds, counters_tree}
use Rattle.instance_runs.specs.Stops.{IsInstance}
use Rattle.turns.specs.declared.counters.CounterNext.{CounterNext}
use Rattle.turns.specs.Turns.{Turn, sets, waits, runs, closes, Standing, beginnings, ends_phase, has_own, is_signalled, is_watched, mark_first, no_phase, none_pending, places_pending, round_turn, turns_by}
use Rattle.turns.specs.declared.turns.Next.{Next}
use Rattle.turns.specs.declared.turns.Next.TheVariants.{Post, Await, Signal, AwaitSignal, Work, Close, End}
use Rattle.turns.specs.declared.turns.NextOrPhase.{NextOrPhase}
use Rattle.turns.specs.declared.turns.Turns.{Turns}
use Rattle.turns.specs.declared.counters.CounterNext.TheVariants as Plain
use Rattle.turns.specs.declared.turns.NextOrPhase.TheVariants as Coming

abbrev pub turns_tree : Turns → Tree
turns_tree c = tree_of c.program.now

abbrev pub turns_plan : Turns → Plan
turns_plan c = c.plan.now

abbrev pub turns_processor : Turns → ℕ
turns_processor c = c.processor

abbrev pub turns_style : Turns → Style
turns_style c = c.style

abbrev pub turns_rounds : Turns → List Round
turns_rounds c = counters_rounds c.counters

abbrev pub turns_path : Turns → Path
turns_path c = counters_path c.counters

abbrev pub turns_own : Turns → OwnCells
turns_own c = c.own

abbrev pub turns_place : Turns → ℕ
turns_place c = c.place

abbrev pub standing : Turns → Standing
standing c = record { place = c.place; pending = c.pending; barriers = c.barriers }

-- the rounds that are left of a barrier of so many processors, whose first round has this number, behind so many half rounds of them all
abbrev pub rounds_left : ℕ → ℕ → ℕ → ℕ → ℕ → List Turn
rounds_left workers p first step steps =
    map (round_turn workers p first) (range_with_len step (steps - step))

-- what is left
abbrev pub turns_left : Turns → List Turn
turns_left c = rounds_left (turns_plan c).workers (turns_processor c) c.first c.step c.steps
    ++ turns_by c.style (turns_tree c) (turns_plan c) (turns_processor c) (standing c)
    (counters_left c.counters)

-- the phases that have still to begin
abbrev pub beginnings_left : Turns → List ℕ
beginnings_left c = beginnings (counters_left c.counters)

-- the static phase with a place is this loop
abbrev pub IsPlaced : Option Placed → Nest → Type 0
IsPlaced None nest = ⊥
IsPlaced (Some s) nest = s.what ≡ loop_of nest

-- a place is that of an own scalar
abbrev pub IsOwnPlace : OwnLoop → ℕ → Type 0
IsOwnPlace own k = (k < length own.privates) ⊎ ((16 ≤ k) × (k - 16 < length own.sums))

-- these are the own scalars of the static phase with this place, and its loop, where it has private ones; those that pend are among them
pub record KnowsOwn (tree : Tree) (plan : Plan) (place : ℕ) (own : OwnCells)
    (nest : Option (Bor Nest)) (pending : List Bool) : Type 0 where
  pub few : AreFew tree (own_loop tree plan place)
  pub cells : AreOwnCells tree (own_loop tree plan place) own
  pub loop : MatchOption nest ((own_loop tree plan place).privates ≡ [])
      (λ n. IsPlaced (slice_get (static_phases tree plan.cut.marks) (place - 1)) n.now)
  pub among : (k : ℕ) → slice_index_or pending k false ≡ true
      → IsOwnPlace (own_loop tree plan place) k

-- where phases aren't watched nothing pends
pub record WatchesNone (place : ℕ) (pending : List Bool) (step steps : ℕ) : Type 0 where
  pub no_place : place ≡ no_phase
  pub none : pending ≡ none_pending
  pub no_round : step ≡ steps

pub record AreSound (c : Turns) : Type 0 where
  pub formed : IsWellFormed (turns_tree c)
  pub fits : IsFit (turns_tree c) (turns_plan c)
  pub worker : turns_processor c < (turns_plan c).workers
  pub few_cells : cell_count (turns_tree c) ≤ 1048576
  pub sound : AreSoundCounters c.counters
  pub same_tree : counters_tree c.counters ≡ turns_tree c
  pub same_plan : counters_plan c.counters ≡ turns_plan c
  pub same_processor : counters_processor c.counters ≡ turns_processor c
  pub has : c.has_own ≡ has_own (turns_plan c)
  pub watched : c.is_watched ≡ is_watched c.style (turns_plan c)
  pub own : KnowsOwn (turns_tree c) (turns_plan c) c.place c.own c.nest c.pending
  pub all_steps : c.steps ≡ rounds_of (turns_plan c).workers * 2
  pub within : c.step ≤ c.steps
  pub first_low : c.first ≤ most_work * 6 + 1
  -- no more barriers by signals than phases have begun
  pub few_barriers : c.is_watched ≡ true → c.barriers + length (beginnings_left c) ≤ most_work
  pub unwatched : c.is_watched ≡ false → WatchesNone c.place c.pending c.step c.steps
  -- by counters there are no rounds
  pub arrives : c.style ≡ Arrive → c.step ≡ c.steps

-- of the same run
pub record IsSameRun (old new : Turns) : Type 0 where
  pub program : turns_tree new ≡ turns_tree old
  pub plan : turns_plan new ≡ turns_plan old
  pub processor : turns_processor new ≡ turns_processor old
  pub style : turns_style new ≡ turns_style old

-- this is the first of what is left
abbrev pub ComesFirst : Turns → Turn → Type 0
ComesFirst c t = (rest : List Turn) × (turns_left c ≡ t ∷ rest)

-- this comes next of the counter turns, where no round is left
pub record ShowsPlain (c : Turns) (shown : CounterNext) : Type 0 where
  pub next : IsCounterNext c.counters shown
  pub end : at_turn c.counters ≡ false → counters_left c.counters ≡ []
  pub rounds : c.step ≡ c.steps

-- the same where nothing pends, and what is set or awaited are counters
pub record ShowsCounter (c : Turns) (shown : CounterNext) (number : ℕ) : Type 0 where
  pub shows : ShowsPlain c shown
  pub none : places_pending c.pending ≡ []
  pub by_counters : is_signalled c.style (turns_tree c) (turns_plan c) number ≡ false

-- no instance comes next
abbrev pub IsBehindInstances : List CounterTurn → Type 0
IsBehindInstances [] = Unit {0}
IsBehindInstances (posts number ∷ rest) = Unit {0}
IsBehindInstances (awaits on wanted ∷ rest) = Unit {0}
IsBehindInstances (begins e ∷ rest) = Unit {0}
IsBehindInstances (works i ∷ rest) = ⊥

-- the own scalar with this place is closed next
pub record ShowsClosing (c : Turns) (k : ℕ) : Type 0 where
  pub rounds : c.step ≡ c.steps
  pub behind : IsBehindInstances (counters_left c.counters)
  pub small : k < 32
  pub pending : places_pending c.pending ≡ k ∷ places_pending (slice_set c.pending k false)

-- what comes next
abbrev pub IsNext : Turns → Next → Type 0
IsNext c (Post number) =
    ComesFirst c (sets counter number) × ShowsCounter c (Plain.Post number) number
IsNext c (Await on wanted) =
    ComesFirst c (waits counter on wanted) × ShowsCounter c (Plain.Await on wanted) wanted
IsNext c (Signal number) = ComesFirst c (sets signal number) × (c.step < c.steps)
IsNext c (AwaitSignal on wanted) = ComesFirst c (waits signal on wanted) × (c.step < c.steps)
IsNext c (Work stop) = (at : IsInstance (counters_tree c.counters) (turns_rounds c) stop)
    × ComesFirst c (runs c.place at.instance) × ShowsPlain c (Plain.Work stop)
IsNext c (Close k) = ComesFirst c (closes c.place k) × ShowsClosing c k
IsNext c End = turns_left c ≡ []

-- a post or an await of a counter with this number comes next
abbrev pub IsAtCounter : Turns → ℕ → Type 0
IsAtCounter c number = IsNext c (Post number) ⊎ ((on : ℕ) × IsNext c (Await on number))

-- the phase with this number begins next
pub record BeginsNext (c : Turns) (e : ℕ) : Type 0 where
  pub rounds : c.step ≡ c.steps
  pub none : places_pending c.pending ≡ []
  pub rest : List CounterTurn
  pub is : counters_left c.counters ≡ begins e ∷ rest

-- the next phase has begun, or none has and what comes next is known
abbrev pub IsNextOrPhase : Turns → Turns → NextOrPhase → Type 0
IsNextOrPhase old new (Coming.Phase e) = beginnings_left old ≡ e ∷ beginnings_left new
IsNextOrPhase old new (Coming.Turn next) =
    IsNext new next × (beginnings_left new ≡ beginnings_left old)

-- at the end no counter turn is left either
abbrev pub EndsPlainly : Turns → Next → Type 0
EndsPlainly c (Post number) = Unit {0}
EndsPlainly c (Await on wanted) = Unit {0}
EndsPlainly c (Signal number) = Unit {0}
EndsPlainly c (AwaitSignal on wanted) = Unit {0}
EndsPlainly c (Work stop) = Unit {0}
EndsPlainly c (Close k) = Unit {0}
EndsPlainly c End = counters_left c.counters ≡ []

-- by counters: of the counter turns a phase that has begun goes, in front of which nothing pends, and none behind a look at what comes next
abbrev pub LooksPlainly : Turns → Turns → NextOrPhase → Type 0
LooksPlainly old new (Coming.Phase e) = (places_pending old.pending ≡ [])
    × (counters_left old.counters ≡ begins e ∷ counters_left new.counters)
LooksPlainly old new (Coming.Turn next) =
    (counters_left new.counters ≡ counters_left old.counters) × EndsPlainly new next

-- behind what came next the first counter turn has gone: a closing and half a round are none
abbrev pub PassesPlainly : Turns → Turns → Next → Type 0
PassesPlainly old new (Post number) =
    (t : CounterTurn) × (counters_left old.counters ≡ t ∷ counters_left new.counters)
PassesPlainly old new (Await on wanted) =
    (t : CounterTurn) × (counters_left old.counters ≡ t ∷ counters_left new.counters)
PassesPlainly old new (Signal number) = counters_left new.counters ≡ counters_left old.counters
PassesPlainly old new (AwaitSignal on wanted) =
    counters_left new.counters ≡ counters_left old.counters
PassesPlainly old new (Work stop) =
    (t : CounterTurn) × (counters_left old.counters ≡ t ∷ counters_left new.counters)
PassesPlainly old new (Close k) = counters_left new.counters ≡ counters_left old.counters
PassesPlainly old new End = counters_left new.counters ≡ counters_left old.counters

-- the end is not what comes next
abbrev pub IsTurn : Next → Type 0
IsTurn (Post number) = Unit {0}
IsTurn (Await on wanted) = Unit {0}
IsTurn (Signal number) = Unit {0}
IsTurn (AwaitSignal on wanted) = Unit {0}
IsTurn (Work stop) = Unit {0}
IsTurn (Close k) = Unit {0}
IsTurn End = ⊥

-- a counter turn that comes next is nothing here: a phase begins, or it is of the counters of a barrier that is passed by signals
abbrev pub IsSilentTurn : Turns → CounterNext → Type 0
IsSilentTurn c (Plain.Post number) =
    is_signalled c.style (turns_tree c) (turns_plan c) number ≡ true
IsSilentTurn c (Plain.Await on wanted) =
    is_signalled c.style (turns_tree c) (turns_plan c) wanted ≡ true
IsSilentTurn c (Plain.Phase e) = Unit {0}
IsSilentTurn c (Plain.Work stop) = ⊥
IsSilentTurn c Plain.End = ⊥

pub record IsSilent (c : Turns) (next : CounterNext) : Type 0 where
  pub rounds : c.step ≡ c.steps
  pub none : places_pending c.pending ≡ []
  pub turn : IsSilentTurn c next

-- it is something, where no round is left and nothing pends
abbrev pub IsSomeTurn : Turns → CounterNext → Type 0
IsSomeTurn c (Plain.Post number) = is_signalled c.style (turns_tree c) (turns_plan c) number ≡ false
IsSomeTurn c (Plain.Await on wanted) =
    is_signalled c.style (turns_tree c) (turns_plan c) wanted ≡ false
IsSomeTurn c (Plain.Phase e) = ⊥
IsSomeTurn c (Plain.Work stop) = Unit {0}
IsSomeTurn c Plain.End = Unit {0}

-- a round is left, or something pends, or it is something
pub data IsOpen (c : Turns) (next : CounterNext) : Type 0 where
  in_rounds : c.step < c.steps → IsOpen c next
  pends : c.step ≡ c.steps → (k : ℕ) → (later : List ℕ) → places_pending c.pending ≡ k ∷ later
      → IsOpen c next
  turns : c.step ≡ c.steps → IsSomeTurn c next → IsOpen c next

-- what a look at the counter turns found
pub record HasLooked (c : Turns) (found : CounterNext) : Type 0 where
  pub next : IsCounterNext c.counters found
  pub end : at_turn c.counters ≡ false → counters_left c.counters ≡ []

-- a counter with this number is set or awaited next
abbrev pub IsCounterOf : List CounterTurn → ℕ → Type 0
IsCounterOf [] k = ⊥
IsCounterOf (posts number ∷ rest) k = number ≡ k
IsCounterOf (awaits on wanted ∷ rest) k = wanted ≡ k
IsCounterOf (begins e ∷ rest) k = ⊥
IsCounterOf (works i ∷ rest) k = ⊥

-- the same where nothing else is left in front of it
pub record IsBeforeCounter (c : Turns) : Type 0 where
  pub rounds : c.step ≡ c.steps
  pub none : places_pending c.pending ≡ []
  pub end : at_turn c.counters ≡ false → counters_left c.counters ≡ []
  pub number : ℕ
  pub counter : IsCounterOf (counters_left c.counters) number

-- and where a phase begins next
pub record IsBeforeBeginning (c : Turns) : Type 0 where
  pub rounds : c.step ≡ c.steps
  pub none : places_pending c.pending ≡ []
  pub end : at_turn c.counters ≡ false → counters_left c.counters ≡ []
  pub phase : ℕ
  pub rest : List CounterTurn
  pub begins_next : counters_left c.counters ≡ begins phase ∷ rest

-- the private scalars of the phase are to be closed where the loops have these values exactly as this says
abbrev pub EndsAlike : Turns → List Bool → Bool → List ℤ → Type 0
EndsAlike c pending ends loops =
    mark_first pending (length (own_loop (turns_tree c) (turns_plan c) c.place).privates) ends
    ≡ mark_first pending (length (own_loop (turns_tree c) (turns_plan c) c.place).privates)
    (ends_phase (param_values (turns_tree c))
    (slice_get (static_phases (turns_tree c) (turns_plan c).cut.marks) (c.place - 1)) loops)
