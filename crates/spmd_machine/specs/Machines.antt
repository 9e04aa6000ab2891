-- What a machine shows, what it keeps, and what a step of it is.
use Rattle.std.specs.Prelude.{ℕ, ◌+◌, ◌≡◌, ◌≤◌, ◌<◌, All, Bool, true, false, List, length, Option, Some, None, nat_le, slice_get, slice_index, slice_index_or, sum_by, if◌then◌else◌}
use Rattle.nest_tree.specs.Layout.{cell_count}
use Rattle.nest_tree.specs.Tree.{Tree, param_values}
use Rattle.nest_tree.specs.View.{tree_of}
use Rattle.nest_tree.specs.WellFormed.{IsWellFormed, loops_of}
use Rattle.nest_model.specs.Accesses.{loads_of, store_of}
use Rattle.nest_model.specs.Ranges.{IsInRange}
use Rattle.nest_walk.specs.Tables.{IsCellTable, entries}
use Rattle.nest_walk.specs.declared.cursor.Stop.{Stop}
use Rattle.nest_walk.specs.declared.table.LoadCells.{LoadCells}
use Rattle.nest_walk.specs.declared.table.WorkCells.{WorkCells}
use Rattle.flat_code.specs.CodeTables.{IsCodeTable, most_registers}
use Rattle.sync_plan.specs.Fit.{IsFit}
use Rattle.sync_plan.specs.Own.{own_of}
use Rattle.sync_plan.specs.declared.plan.Plan.{Plan}
use Rattle.spmd_model.specs.Quiet.{quiet_next}
use Rattle.spmd_model.specs.States.{State, next_act, words_of}
use Rattle.spmd_model.specs.Runs.{run_of, stepped}
use Rattle.spmd_model.specs.Machines.{machine_by}
use Rattle.spmd_model.specs.Timelines as Timelines
use Rattle.spmd_model.specs.Acts.{Act, post, await, load, store, add, print}
use Rattle.spmd_model.specs.declared.style.Style.{Style}
use Rattle.spmd_machine.specs.Processors.{IsKept, room_of, state_of}
use Rattle.spmd_machine.specs.Views.{MachineView}
use Rattle.instance_runs.specs.Loads.{width}
use Rattle.turns.specs.CountersLeft.{counters_tree}
use Rattle.instance_runs.specs.Stops.{IsInstance}
use Rattle.turns.specs.TurnsLeft.{IsNext, turns_rounds}
use Rattle.turns.specs.declared.turns.Next.{Next}
use Rattle.spmd_machine.specs.declared.answer.StepAnswer.{StepAnswer}
use Rattle.spmd_machine.specs.declared.answer.StepAnswer.TheVariants.{Stepped, Blocked, Ended}
use Rattle.spmd_machine.specs.declared.parts.Parts.{Parts}
use Rattle.spmd_machine.specs.declared.processor.Processor.{Processor}
use Rattle.spmd_machine.specs.declared.processor.Spot.{Spot}

abbrev pub tree_in : Parts → Tree
tree_in m = tree_of m.program.now

abbrev pub plan_in : Parts → Plan
plan_in m = m.plan.now

abbrev pub style_in : Parts → Style
style_in m = m.style

-- the definition's machine of the program under the plan in the style, and how many cells all share
abbrev pub model_of : Parts → Timelines.Machine
model_of m = machine_by (style_in m) (tree_in m) (plan_in m)

abbrev pub shared_in : Parts → ℕ
shared_in m = cell_count (tree_in m)

-- the state that a machine shows
unfoldable pub shown : Parts → State
shown m =
    state_of (style_in m) (tree_in m) (plan_in m) m.processors.items m.memory.items m.output.bytes

-- what contracts see of a machine
abbrev pub view_of : Parts → MachineView
view_of m = record { program = m.program.now; plan = m.plan.now; style = m.style; state = shown m }

-- what a step answers where this is the processor's next act
abbrev pub answer_at : State → Option Act → StepAnswer
answer_at s None = Ended
answer_at s (Some (post word number)) = Stepped
answer_at s (Some (await word on wanted)) = if nat_le wanted (slice_index (words_of s word) on)
    then Stepped
    else Blocked on wanted (slice_index (words_of s word) on)
answer_at s (Some (load place cell)) = Stepped
answer_at s (Some (store place cell)) = Stepped
answer_at s (Some (add place cell)) = Stepped
answer_at s (Some (print place)) = Stepped

abbrev pub step_answer : Timelines.Machine → State → ℕ → StepAnswer
step_answer m s p = answer_at s (next_act m s p)

-- some schedule of single acts leads to a state
pub record IsReached (m : Timelines.Machine) (s : State) : Type 0 where
  pub schedule : List ℕ
  pub workers : All (λ p. p < m.workers) schedule
  pub run : s ≡ run_of m schedule

-- a machine is in a state that some schedule leads to, and its parts are those of its program and its plan, which fits it
pub record IsMachine (m : Parts) : Type 0 where
  pub formed : IsWellFormed (tree_in m)
  pub ranges : IsInRange (tree_in m)
  pub fits : IsFit (tree_in m) (plan_in m)
  pub table : IsCellTable (tree_in m) m.table
  pub wide : (n k : ℕ) (cells : WorkCells) (l : LoadCells)
      → slice_get (entries m.table) n ≡ Some cells → slice_get cells.loads.items k ≡ Some l
      → 0 < width l
  pub codes : IsCodeTable (tree_in m) m.codes
  pub params : m.params.items ≡ param_values (tree_in m)
  pub loops : loops_of (tree_in m).items ≤ length m.loops.items
  pub code_room : most_registers m.codes ≤ length m.code_registers.items
  pub cells : length m.memory.items ≡ cell_count (tree_in m)
  pub count : length m.processors.items ≡ (plan_in m).workers
  pub kept : (p : ℕ) (d : Processor) → p < length m.processors.items
      → IsKept (style_in m) (tree_in m) (plan_in m) (entries m.table) p
      (slice_index_or m.processors.items p d)
  pub room : length m.output.bytes + sum_by (room_of (tree_in m)) m.processors.items ≤ m.output.room
  pub reached : IsReached (model_of m) (shown m)

-- this comes next of processor p
abbrev pub ComesNext : Parts → ℕ → Next → Type 0
ComesNext m p next = (d : Processor) → IsNext (slice_index_or m.processors.items p d).turns next

-- so many acts are done of what comes next of processor p
abbrev pub HasDone : Parts → ℕ → ℕ → Type 0
HasDone m p n = (d : Processor) → (slice_index_or m.processors.items p d).done ≡ n

-- the instance at a stop that comes next of a processor loads this of the cells that all share next, or nothing more
abbrev pub LoadsIn : Processor → Stop → Option ℕ → Type 0
LoadsIn x stop cell = (comes : IsInstance (counters_tree x.turns.counters) (turns_rounds x.turns)
    stop) → slice_get (loads_of (counters_tree x.turns.counters) comes.instance) x.done ≡ cell

abbrev pub LoadsNext : Parts → ℕ → Stop → Option ℕ → Type 0
LoadsNext m p stop cell =
    (d : Processor) → LoadsIn (slice_index_or m.processors.items p d) stop cell

-- the instance at a stop that comes next of processor p stores to this of the cells that all share
abbrev pub StoresIn : Tree → Processor → Stop → ℕ → Type 0
StoresIn tree x stop cell = (comes : IsInstance (counters_tree x.turns.counters)
    (turns_rounds x.turns) stop) → store_of tree comes.instance ≡ Some cell

abbrev pub StoresNext : Parts → ℕ → Stop → ℕ → Type 0
StoresNext m p stop cell =
    (d : Processor) → StoresIn (tree_in m) (slice_index_or m.processors.items p d) stop cell

-- an access of a cell by processor p goes to this spot: to its own cell where it is that of an own scalar of its phase
abbrev pub IsSpot : Parts → ℕ → Spot → Type 0
IsSpot m p spot = (d : Processor) → (own_of (tree_in m) (plan_in m)
    (slice_index_or m.processors.items p d).turns.place).slot spot.cell ≡ spot.own

-- of the same program and plan, in the same style
pub record IsSameMachine (old new : Parts) : Type 0 where
  pub program : tree_in new ≡ tree_in old
  pub plan : plan_in new ≡ plan_in old
  pub style : style_in new ≡ style_in old
  pub count : length new.processors.items ≡ length old.processors.items

-- a machine behind an act of processor p, with what it answers
pub record StepsTo (old new : Parts) (p : ℕ) (said : StepAnswer) : Type 0 where
  pub ready : IsMachine new
  pub same : IsSameMachine old new
  pub state : shown new ≡ stepped (model_of old) (shown old) p
  pub answer : said ≡ step_answer (model_of old) (shown old) p

-- the act of processor p that comes next is done where this says so, else nothing is
abbrev pub GoesQuietly : Parts → Parts → ℕ → Bool → Type 0
GoesQuietly old new p true = (said : StepAnswer) × StepsTo old new p said
GoesQuietly old new p false = shown new ≡ shown old

-- no act on its own cells stands next of a processor
abbrev pub IsSettled : Parts → ℕ → Type 0
IsSettled m p = quiet_next (model_of m) (shared_in m) (shown m) p ≡ 0
