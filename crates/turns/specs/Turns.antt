-- What a processor does, turn by turn, where it has cells of its own for the own scalars of phases, and passes barriers in one of two styles.
use Rattle.std.specs.Prelude.{ℕ, suc, ◌+◌, ◌-◌, ◌*◌, ◌/◌, ◌%◌, ◌==◌, ℤ, Bool, true, false, not, ◌||◌, nat_lt, List, [], ◌∷◌, ◌++◌, Option, Some, None, drop, length, map, replicate, slice_get, slice_index, slice_index_or, slice_set, if◌then◌else◌}
use Rattle.std.specs.List.{filter, list_any, range_with_len}
use Rattle.nest_tree.specs.Layout.{first_cell}
use Rattle.nest_tree.specs.Tree.{Statement, do_loop, work, continue, Tree, param_values}
use Rattle.nest_model.specs.Instances.{Instance}
use Rattle.nest_model.specs.Visits.{Visit}
use Rattle.nest_walk.specs.Texts.{Placed}
use Rattle.owner_partition.specs.Marks.{is_sum_mark}
use Rattle.owner_partition.specs.Phases.{phases}
use Rattle.sync_plan.specs.Boundaries.{gathers, is_barrier}
use Rattle.sync_plan.specs.Own.{OwnLoop, own_loop, own_of}
use Rattle.sync_plan.specs.Shape.{static_phases}
use Rattle.sync_plan.specs.declared.plan.Plan.{Plan}
use Rattle.own_cells.specs.FinalTrips.{is_final}
use Rattle.own_cells.specs.OwnCells.{assigned_place}
use Rattle.spmd_model.specs.Deeds.{Deed, posting, awaiting}
use Rattle.spmd_model.specs.Rounds.{awaited_in_round, rounds_of}
use Rattle.spmd_model.specs.Machines.{is_by_signals}
use Rattle.spmd_model.specs.MachineDeeds.{keeping_deeds, own_deeds, totalling_deeds}
use Rattle.spmd_model.specs.Timelines.{Word, counter, signal}
use Rattle.spmd_model.specs.declared.style.Style.{Style}
use Rattle.spmd_model.specs.declared.style.Style.TheVariants.{Arrive, Dissemination}
use Rattle.turns.specs.CounterTurns.{counter_room, CounterTurn, posts, awaits, begins, works}
use Rattle.turns.specs.declared.counters.Boundary.{Boundary}
use Rattle.turns.specs.declared.counters.Boundary.TheVariants.{Counters, Barrier, Join}

-- it sets one of its words, awaits another's, runs an instance of the phase with this static place, or closes the own scalar with a place there
pub data Turn : Type 0 where
  sets : (word : Word) (number : ℕ) → Turn
  waits : (word : Word) (on wanted : ℕ) → Turn
  runs : (place : ℕ) (i : Instance) → Turn
  closes : (place k : ℕ) → Turn

-- ---- what turns do

-- the number of the own scalar with a place
abbrev pub scalar_at : OwnLoop → ℕ → ℕ
scalar_at own k = if nat_lt k 16 then slice_index own.privates k else slice_index own.sums (k - 16)

abbrev pub close_deeds : Tree → Plan → ℕ → ℕ → ℕ → List Deed
close_deeds tree plan p place k =
    if nat_lt k 16
    then keeping_deeds ((own_of tree plan place).cell p k)
    (first_cell tree (scalar_at (own_loop tree plan place) k))
    else totalling_deeds ((own_of tree plan place).cell p k)
    (first_cell tree (scalar_at (own_loop tree plan place) k))

-- of processor p
abbrev pub turn_deeds : Tree → Plan → ℕ → Turn → List Deed
turn_deeds tree plan p (sets word number) = posting word number ∷ []
turn_deeds tree plan p (waits word on wanted) = awaiting word on wanted ∷ []
turn_deeds tree plan p (runs place i) = own_deeds tree (own_of tree plan place) p i
turn_deeds tree plan p (closes place k) = close_deeds tree plan p place k

-- ---- what turns print and run

-- the output that a turn may write
abbrev pub turn_room : Tree → Turn → ℕ
turn_room tree (sets word number) = 0
turn_room tree (waits word on wanted) = 0
turn_room tree (runs place i) = counter_room tree (works i)
turn_room tree (closes place k) = 0

-- an instance that a turn runs passes a test
abbrev pub runs_only : (Instance → Bool) → Turn → Bool
runs_only test (sets word number) = true
runs_only test (waits word on wanted) = true
runs_only test (runs place i) = test i
runs_only test (closes place k) = true

-- ---- from the counter turns to these

-- some phase of a plan has own scalars; phases have to be watched: some may have, or signals pass barriers
abbrev pub has_own : Plan → Bool
has_own plan = list_any is_sum_mark plan.cut.marks
    || list_any (λ (l : List ℕ). not (length l == 0)) plan.cut.privates

abbrev pub is_watched : Style → Plan → Bool
is_watched Arrive plan = has_own plan
is_watched Dissemination plan = true

-- signals pass the boundary that has so many phases in front of it, of two processors or more
abbrev pub is_signalled : Style → Tree → Plan → ℕ → Bool
is_signalled Arrive tree plan number = false
is_signalled Dissemination tree plan number = gathers tree plan number

-- signals stand in front of a phase
abbrev pub has_signals : Style → Plan → Option Visit → Bool
has_signals style plan None = false
has_signals style plan (Some v) = is_by_signals style plan v

-- no static phase has this place
abbrev pub no_phase : ℕ
no_phase = 4294967295

-- in front of the phases of the static phase with this place
abbrev pub has_signals_at : Style → Plan → ℕ → Bool
has_signals_at Arrive plan place = false
has_signals_at Dissemination plan place = is_barrier (slice_get plan.kinds (place - 1))

-- all processors of two or more wait for all
abbrev pub gathered : Boundary → Bool
gathered Counters = false
gathered Barrier = true
gathered Join = false

-- the static phase of a phase
abbrev pub place_of : Option Visit → ℕ
place_of None = no_phase
place_of (Some v) = v.place

-- where a processor has come to: the place of the static phase that it is in, which own scalars it is to close behind the instances, by their places, and how many barriers by signals it has begun
pub record Standing : Type 0 where
  pub place : ℕ
  pub pending : List Bool
  pub barriers : ℕ

abbrev pub none_pending : List Bool
none_pending = replicate 32 false

abbrev pub first_standing : Standing
first_standing = record { place = no_phase; pending = none_pending; barriers = 0 }

-- the places that are marked
abbrev pub places_pending : List Bool → List ℕ
places_pending pending = filter (λ k. slice_index_or pending k false) (range_with_len 0 32)

abbrev pub closings : Standing → List Turn
closings s = map (closes s.place) (places_pending s.pending)

abbrev pub closed : Standing → Standing
closed s = record s { pending = none_pending }

-- one half of a round of a barrier by signals, whose first round has this number: its signal, or its await
abbrev pub round_turn : ℕ → ℕ → ℕ → ℕ → Turn
round_turn workers p first step = if step % 2 == 0
    then sets signal (first + step / 2)
    else waits signal (awaited_in_round workers (step / 2) p) (first + step / 2)

-- of a barrier with so many such barriers in front of it
abbrev pub first_round : ℕ → ℕ → ℕ
first_round workers barriers = barriers * rounds_of workers + 1

abbrev pub all_rounds : ℕ → ℕ → ℕ → List Turn
all_rounds workers p barriers = map (round_turn workers p (first_round workers barriers))
    (range_with_len 0 (rounds_of workers * 2))

abbrev pub rounds_before : Style → Tree → Plan → ℕ → Standing → ℕ → List Turn
rounds_before style tree plan p s e = if has_signals style plan
    (slice_get (phases tree plan.cut.marks) (e - 1)) then all_rounds plan.workers p s.barriers
    else []

-- where the phase with a number has begun
abbrev pub begun : Style → Tree → Plan → Standing → ℕ → Standing
begun style tree plan s e = record {
  place = if is_watched style plan
      then place_of (slice_get (phases tree plan.cut.marks) (e - 1))
      else no_phase;
  pending = none_pending;
  barriers = if has_signals style plan (slice_get (phases tree plan.cut.marks) (e - 1))
      then suc s.barriers
      else s.barriers;
}

-- no trip of a static phase's loop is left behind these values
abbrev pub ends_loop : List ℤ → Statement → List ℤ → Bool
ends_loop params (do_loop head body) loops = is_final params head loops
ends_loop params (work w) loops = false
ends_loop params (continue line) loops = false

abbrev pub ends_phase : List ℤ → Option Placed → List ℤ → Bool
ends_phase params None loops = false
ends_phase params (Some s) loops = ends_loop params s.what loops

-- marks of places, with one more, or the first so many
abbrev pub mark_place : List Bool → Option ℕ → List Bool
mark_place pending None = pending
mark_place pending (Some k) = slice_set pending k true

abbrev pub mark_first : List Bool → ℕ → Bool → List Bool
mark_first pending n false = pending
mark_first pending n true = replicate n true ++ drop n pending

-- behind an instance: the sum scalar that it assigns is to be closed, and in the last trip the private ones
abbrev pub behind : Tree → Plan → Standing → Instance → Standing
behind tree plan s i = record s {
  pending = mark_first (mark_place s.pending
      (assigned_place (own_loop tree plan s.place).sums (work i.what)))
      (length (own_loop tree plan s.place).privates)
      (ends_phase (param_values tree) (slice_get (static_phases tree plan.cut.marks) (s.place - 1))
      i.loops);
}

-- the turns that these counter turns are: behind a phase's instances its closings, and in place of counters at a barrier the rounds of its signals
abbrev pub turns_by : Style → Tree → Plan → ℕ → Standing → List CounterTurn → List Turn
turns_by style tree plan p s [] = closings s
turns_by style tree plan p s (posts number ∷ rest) = closings s
    ++ ((if is_signalled style tree plan number then [] else sets counter number ∷ [])
    ++ turns_by style tree plan p (closed s) rest)
turns_by style tree plan p s (awaits on wanted ∷ rest) = closings s
    ++ ((if is_signalled style tree plan wanted then [] else waits counter on wanted ∷ [])
    ++ turns_by style tree plan p (closed s) rest)
turns_by style tree plan p s (begins e ∷ rest) = closings s
    ++ (rounds_before style tree plan p s e
    ++ turns_by style tree plan p (begun style tree plan s e) rest)
turns_by style tree plan p s (works i ∷ rest) =
    runs s.place i ∷ turns_by style tree plan p (behind tree plan s i) rest

-- the phases that begin among counter turns, by their numbers
abbrev pub beginnings : List CounterTurn → List ℕ
beginnings [] = []
beginnings (posts number ∷ rest) = beginnings rest
beginnings (awaits on wanted ∷ rest) = beginnings rest
beginnings (begins e ∷ rest) = e ∷ beginnings rest
beginnings (works i ∷ rest) = beginnings rest
