-- What a processor of the machine shows, and what it keeps.
use Rattle.std.specs.Prelude.{ℕ, ◌-◌, ◌≡◌, ◌≤◌, ◌<◌, ◌⊎◌, ℤ, pos, true, List, [], ◌∷◌, ◌++◌, drop, length, map, replicate, IfSome, None, Option, Some, slice_get, slice_index_or, sum_by, vec_capacity}
use Rattle.std.specs.List.{flat_map, list_all}
use Rattle.nest_tree.specs.Tree.{Tree}
use Rattle.nest_model.specs.Ranges.{is_instance_inside}
use Rattle.nest_walk.specs.declared.cursor.Stop.{Stop}
use Rattle.nest_walk.specs.declared.table.WorkCells.{WorkCells}
use Rattle.owner_partition.specs.Phases.{phases}
use Rattle.sync_plan.specs.declared.plan.Plan.{Plan}
use Rattle.spmd_model.specs.Deeds.{Deed}
use Rattle.spmd_model.specs.MachineDeeds.{deeds_by}
use Rattle.spmd_model.specs.States.{State}
use Rattle.spmd_model.specs.declared.style.Style.{Style}
use Rattle.instance_runs.specs.Loads.{IsLoading, widths}
use Rattle.turns.specs.CounterTurns.{counter_turns}
use Rattle.turns.specs.Turns.{Turn, sets, waits, runs, closes, first_standing, runs_only, turns_by, turn_deeds, turn_room}
use Rattle.turns.specs.TurnsLeft.{AreSound, IsSameRun, IsNext, turns_left, turns_plan, turns_processor, turns_style, turns_tree}
use Rattle.turns.specs.declared.turns.Next.TheVariants.{Work}
use Rattle.turns.specs.declared.turns.Turns.{Turns}
use Rattle.spmd_machine.specs.declared.processor.Processor.{Processor}
use Rattle.std.specs.Prelude.{Bool}

-- all that a processor does, and what it has left
unfoldable pub all_of : Style → Tree → Plan → ℕ → List Deed
all_of style tree plan p = deeds_by style tree plan p 1 0 (phases tree plan.cut.marks)

abbrev pub deeds_left : Turns → List Deed
deeds_left c =
    flat_map (turn_deeds (turns_tree c) (turns_plan c) (turns_processor c)) (turns_left c)

unfoldable pub left_of : Processor → List Deed
left_of x = drop x.done (deeds_left x.turns)

-- how much of it is done
unfoldable pub position_of : Style → Tree → Plan → Processor → ℕ
position_of style tree plan x =
    length (all_of style tree plan (turns_processor x.turns)) - length (left_of x)

-- the cells that all share, and behind them each processor's own
abbrev pub memory_of : List Processor → List ℤ → List ℤ
memory_of processors shared = shared ++ flat_map (λ (x : Processor). x.own) processors

-- the state of these parts
abbrev pub state_of : Style → Tree → Plan → List Processor → List ℤ → List ℕ → State
state_of style tree plan processors shared output = record {
  positions = map (position_of style tree plan) processors;
  registers = map (λ (x : Processor). x.registers.items) processors;
  counters = map (λ (x : Processor). x.counter) processors;
  signals = map (λ (x : Processor). x.signal) processors;
  memory = memory_of processors shared;
  output = output;
}

-- nothing is done of what comes next
pub record IsIdle (x : Processor) : Type 0 where
  pub none_done : x.done ≡ 0
  pub empty : x.registers.items ≡ []
  pub first_load : x.place.load ≡ 0
  pub first_element : x.place.element ≡ 0

-- of the instance that comes next so many loads are done
pub record IsRunning (cells : WorkCells) (x : Processor) : Type 0 where
  pub loading : IsLoading cells.loads.items x.done x.place.load x.place.element
  pub count : length x.registers.items ≡ x.done

-- of a closing that comes next nothing is done, or its load, or all but the last act
pub record IsClosing (k : ℕ) (x : Processor) : Type 0 where
  pub first_load : x.place.load ≡ 0
  pub first_element : x.place.element ≡ 0
  pub stage : (x.done ≡ 0) × (x.registers.items ≡ [])
      ⊎ ((x.done ≡ 1) × (length x.registers.items ≡ 1))
      ⊎ ((16 ≤ k) × (x.done ≡ 2) × (x.registers.items ≡ []))

-- only of what comes next something may be done
abbrev pub IsBegun : List WorkCells → List Turn → Processor → Type 0
IsBegun entries [] x = IsIdle x
IsBegun entries (sets word number ∷ rest) x = IsIdle x
IsBegun entries (waits word on wanted ∷ rest) x = IsIdle x
IsBegun entries (runs place i ∷ rest) x =
    (cells : WorkCells) → slice_get entries (i.statement - 1) ≡ Some cells → IsRunning cells x
IsBegun entries (closes place k ∷ rest) x = IsClosing k x

-- each access of an instance that a turn runs is in range
abbrev pub is_turn_inside : Tree → Turn → Bool
is_turn_inside tree = runs_only (is_instance_inside tree)

unfoldable pub room_of : Tree → Processor → ℕ
room_of tree x = sum_by (turn_room tree) (turns_left x.turns)

-- an instance that was found to come next does so
abbrev pub IsFoundNext : Turns → Option Stop → Type 0
IsFoundNext turns instance = IfSome instance (λ stop. IsNext turns (Work stop))

-- a list ends with another
pub record Suffix {X : Type 0} (all left : List X) : Type 0 where
  pub front : List X
  pub is : all ≡ front ++ left

-- what processor p keeps: its turns are the plan's, what is left ends what it does, its registers are those of what has begun, and there is room for the registers of any
pub record IsKept (style : Style) (tree : Tree) (plan : Plan) (entries : List WorkCells) (p : ℕ)
    (x : Processor) : Type 0 where
  pub sound : AreSound x.turns
  pub program : turns_tree x.turns ≡ tree
  pub plan_is : turns_plan x.turns ≡ plan
  pub processor : turns_processor x.turns ≡ p
  pub style_is : turns_style x.turns ≡ style
  pub behind : Suffix (all_of style tree plan p) (left_of x)
  pub instance : IsFoundNext x.turns x.found
  pub begun : IsBegun entries (turns_left x.turns) x
  pub inside : list_all (is_turn_inside tree) (turns_left x.turns) ≡ true
  pub own_cells : length x.own ≡ 32
  pub room : (n : ℕ) (cells : WorkCells) → slice_get entries n ≡ Some cells
      → widths cells.loads.items ≤ vec_capacity x.registers
  pub room_to_close : 1 ≤ vec_capacity x.registers

-- behind a look at what comes next: the same is left, and all else is as it was
pub record LooksFrom (x y : Processor) : Type 0 where
  pub sound : AreSound y.turns
  pub instance : IsFoundNext y.turns y.found
  pub left : turns_left y.turns ≡ turns_left x.turns
  pub same : IsSameRun x.turns y.turns
  pub others : y ≡ record x { turns = y.turns; found = y.found }

-- past a turn to the next, with nothing of that done
pub record PassesTurn (x y : Processor) (t : Turn) : Type 0 where
  pub sound : AreSound y.turns
  pub program : turns_tree y.turns ≡ turns_tree x.turns
  pub plan_is : turns_plan y.turns ≡ turns_plan x.turns
  pub processor : turns_processor y.turns ≡ turns_processor x.turns
  pub style_is : turns_style y.turns ≡ turns_style x.turns
  pub turns : turns_left x.turns ≡ t ∷ turns_left y.turns
  pub none_found : y.found ≡ None
  pub idle : IsIdle y
  pub room : vec_capacity x.registers ≤ vec_capacity y.registers

-- a processor at its first turn, with room for so many registers
pub record IsFresh (style : Style) (tree : Tree) (plan : Plan) (size p : ℕ) (x : Processor) :
    Type 0 where
  pub sound : AreSound x.turns
  pub program : turns_tree x.turns ≡ tree
  pub plan_is : turns_plan x.turns ≡ plan
  pub processor : turns_processor x.turns ≡ p
  pub style_is : turns_style x.turns ≡ style
  pub turns : turns_left x.turns ≡ turns_by style tree plan p first_standing
      (counter_turns tree plan p 1 (phases tree plan.cut.marks))
  pub none_found : x.found ≡ None
  pub idle : IsIdle x
  pub counter : x.counter ≡ 0
  pub signal : x.signal ≡ 0
  pub own_cells : x.own ≡ replicate 32 (pos 0)
  pub room : size ≤ vec_capacity x.registers

abbrev pub AreFresh : Style → Tree → Plan → ℕ → List Processor → Type 0
AreFresh style tree plan size processors = (p : ℕ) (d : Processor) → p < length processors
    → IsFresh style tree plan size p (slice_index_or processors p d)
