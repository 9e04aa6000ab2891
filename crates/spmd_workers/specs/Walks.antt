-- What a walk over a processor's turns keeps, and what a turn of it does.
use Rattle.std.specs.Prelude.{ℕ, ◌+◌, ◌≡◌, ◌≤◌, ◌<◌, ◌&&◌, nat_lt, Bool, true, IsTrue, List, [], ◌++◌, length, sum_by, MatchOption, Option}
use Rattle.std.specs.List.{list_all, range_with_len}
use Rattle.nest_tree.specs.Layout.{cell_count}
use Rattle.nest_tree.specs.Tree.{Tree}
use Rattle.nest_model.specs.Accesses.{cells_of}
use Rattle.nest_model.specs.Instances.{Instance}
use Rattle.nest_model.specs.Ranges.{is_instance_inside}
use Rattle.owner_partition.specs.Phases.{phases}
use Rattle.instance_runs.specs.Executors.{CanExecute, executor_output, executor_room, executor_tree}
use Rattle.turns.specs.Turns.{Turn, runs_only, turn_room}
use Rattle.turns.specs.TurnsLeft.{AreSound, IsNext, beginnings_left, turns_left, turns_plan, turns_processor, turns_style, turns_tree}
use Rattle.turns.specs.declared.turns.Next.{Next}
use Rattle.shared_words.specs.Places.{settled_at}
use Rattle.shared_words.specs.Calls.{IsEndedSeat}
use Rattle.shared_words.specs.Homes.{protocol_at}
use Rattle.spmd_workers.specs.Legs.{AreAnswered, IsFurther, IsJoined, IsSameSeat, IsWaiting, answered_last}
use Rattle.spmd_workers.specs.Places.{held_cells, place_of, plan_at, printed_behind, registers_behind, style_at, tree_at, turns_at}
use Rattle.spmd_workers.specs.declared.walk.Walk.{Walk}
use Rattle.spmd_workers.specs.declared.worker.Leg.{Leg}
use Rattle.spmd_workers.specs.declared.worker.Leg.TheVariants.{Ended, Joined, Waiting}

-- each access of an instance is in range, and each of its cells is the program's
abbrev pub is_instance_there : Tree → Instance → Bool
is_instance_there tree i =
    is_instance_inside tree i && list_all (λ c. nat_lt c (cell_count tree)) (cells_of tree i)

-- of one that a turn runs
abbrev pub is_turn_there : Tree → Turn → Bool
is_turn_there tree = runs_only (is_instance_there tree)

abbrev pub walk_place : Walk → ℕ
walk_place x = place_of x.seat x.turns

-- all its turns are done, and its seat stands behind all acts, with nothing left to print
pub record IsAtEnd (x : Walk) : Type 0 where
  pub none : turns_left x.turns ≡ []
  pub seat : IsEndedSeat x.seat
  pub placed : walk_place x ≡ x.seat.position

-- its turns are those that its seat's processor has left, and what it executes instances with has come as far
pub record IsWalk (x : Walk) : Type 0 where
  pub front : List Turn
  pub behind : turns_at x.seat.home x.seat.processor ≡ front ++ turns_left x.turns
  pub begun : List ℕ
  pub begins : range_with_len 1 (length (phases (tree_at x.seat.home)
      (plan_at x.seat.home).cut.marks)) ≡ begun ++ beginnings_left x.turns
  pub sound : AreSound x.turns
  pub tree : turns_tree x.turns ≡ tree_at x.seat.home
  pub plan : turns_plan x.turns ≡ plan_at x.seat.home
  pub processor : turns_processor x.turns ≡ x.seat.processor
  pub style : turns_style x.turns ≡ style_at x.seat.home
  pub settled : settled_at (protocol_at x.seat.home) x.seat.processor (walk_place x)
      ≡ x.seat.position
  pub idle : registers_behind x.seat (walk_place x) ≡ []
  pub own : x.own ≡ held_cells x.seat.home x.seat.processor (walk_place x)
  pub can : CanExecute x.executor
  pub executes : executor_tree x.executor ≡ tree_at x.seat.home
  pub output : executor_output x.executor ≡ printed_behind x.seat (walk_place x)
  pub room : length (executor_output x.executor)
      + sum_by (turn_room (tree_at x.seat.home)) (turns_left x.turns) ≤ executor_room x.executor
  pub there : IsTrue (list_all (is_turn_there (tree_at x.seat.home)) (turns_left x.turns))
  pub answered : AreAnswered x.seat x.answered
  pub over : x.ended ≡ true → IsAtEnd x

-- a turn of a leg leads on
pub record GoesTo (old new : Walk) : Type 0 where
  pub ready : IsWalk new
  pub seat : IsSameSeat old.seat new.seat
  pub answered : old.answered ≤ new.answered
  pub legs : new.patience.legs ≡ old.patience.legs

-- what a leg answers where a turn ends it
abbrev pub Answers : Walk → Walk → Leg → Type 0
Answers old new Ended = IsFurther old.seat new.seat × (new.ended ≡ true)
Answers old new (Joined e) = IsFurther old.seat new.seat × IsJoined old.answered new.seat e
Answers old new (Waiting on wanted seen) =
    (old.seat.position ≤ new.seat.position) × IsWaiting old.seat new.seat on wanted seen

-- how much is left: turns, and phases that have still to begin
abbrev pub to_go : Walk → ℕ
to_go x = length (turns_left x.turns) + length (beginnings_left x.turns)

-- a turn or more are done, or a phase has begun, and nothing ends the leg; among several processors no join was answered
pub record LeadsOn (old new : Walk) : Type 0 where
  pub further : IsFurther old.seat new.seat
  pub answered : 1 < (protocol_at old.seat.home).workers → new.answered ≡ old.answered
  pub less : to_go new < to_go old

-- a leg ends there, with nothing left to print in front of its next act
pub record EndsLeg (old new : Walk) (leg : Leg) : Type 0 where
  pub answers : Answers old new leg
  pub answered : 1 < (protocol_at old.seat.home).workers
      → new.answered ≡ answered_last old.answered leg
  pub placed : walk_place new ≡ new.seat.position

-- what a turn tells
abbrev pub TurnTells : Walk → Walk → Option Leg → Type 0
TurnTells old new result = MatchOption result (LeadsOn old new) (EndsLeg old new)

-- this comes next of a walk
abbrev pub ComesNext : Walk → Next → Type 0
ComesNext x next = IsNext x.turns next
