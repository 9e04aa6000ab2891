-- Where a worker stands.
use Rattle.std.specs.Prelude.{ℕ, suc, ◌+◌, ◌-◌, ◌≡◌, ◌≤◌, ◌<◌, true, ℤ, List, [], ◌∷◌, ◌++◌, drop, length, map, slice_get, slice_index_or, sum_by}
use Rattle.std.specs.List.{All, flat_map, list_all}
use Rattle.nest_tree.specs.Layout.{cell_count}
use Rattle.nest_tree.specs.Tree.{Tree}
use Rattle.nest_tree.specs.View.{tree_of}
use Rattle.nest_model.specs.Accesses.{cells_of as cells_in}
use Rattle.nest_model.specs.Instances.{Instance}
use Rattle.nest_model.specs.Visits.{Visit}
use Rattle.owner_partition.specs.Phases.{phases}
use Rattle.sync_plan.specs.declared.plan.Plan.{Plan}
use Rattle.spmd_model.specs.Deeds.{owned_by}
use Rattle.spmd_model.specs.declared.style.Style.TheVariants.{Arrive}
use Rattle.spmd_model.specs.PlanProtocols.{printed_by, registers_by}
use Rattle.spmd_model.specs.Lawful.{put}
use Rattle.instance_runs.specs.Executors.{CanExecute, executor_output, executor_room, executor_tree}
use Rattle.turns.specs.CounterTurns.{counter_room, CounterTurn, posts, awaits, begins, is_counter_inside, counter_deeds, counter_turns, works}
use Rattle.instance_runs.specs.declared.execute.Executor.{Executor}
use Rattle.turns.specs.Turns.{Turn, turn_deeds}
use Rattle.crossbeam_utils.specs.declared.cache_padded.CachePadded.{CachePadded}
use Rattle.crossbeam_utils.specs.Padded.{padded_value}
use Rattle.fork_join.specs.Cursors.{IsCursor, IsShut, cursor_left, cursor_plan, cursor_processor, cursor_tree, cursor_turns}
use Rattle.fork_join.specs.Joins.{Goes, HoldsOwn, all_deeds, begun, deeds_begun, joined, protocol}
use Rattle.fork_join.specs.StoreLists.{AreKept, cells_of, entries_of}
use Rattle.fork_join.specs.declared.cursor.Cursor.{Cursor}
use Rattle.fork_join.specs.declared.overlay.Overlay.{Overlay}
use Rattle.fork_join.specs.declared.worker.Worker.{Worker}

-- the turns in phases behind so many
abbrev pub turns_behind : Tree → Plan → ℕ → ℕ → List CounterTurn
turns_behind tree plan n p = counter_turns tree plan p (suc n) (drop n (phases tree plan.cut.marks))

-- the same from the first phase's first instance on
abbrev pub turns_begun_from : Tree → Plan → ℕ → ℕ → List Visit → List CounterTurn
turns_begun_from tree plan p e [] = []
turns_begun_from tree plan p e (v ∷ rest) = map works
    (owned_by tree (slice_get plan.anchors (v.place - 1)) plan.workers p v)
    ++ counter_turns tree plan p (suc e) rest

abbrev pub turns_begun : Tree → Plan → ℕ → ℕ → List CounterTurn
turns_begun tree plan n p =
    turns_begun_from tree plan p (suc n) (drop n (phases tree plan.cut.marks))

-- a post or an await
abbrev pub IsBoundaryTurn : CounterTurn → Type 0
IsBoundaryTurn (posts number) = Unit {0}
IsBoundaryTurn (awaits on wanted) = Unit {0}
IsBoundaryTurn (begins e) = ⊥
IsBoundaryTurn (works i) = ⊥

abbrev pub AreBoundaryTurns : List CounterTurn → Type 0
AreBoundaryTurns [] = Unit {0}
AreBoundaryTurns (t ∷ ts) = IsBoundaryTurn t × AreBoundaryTurns ts

-- each cell of an instance is one of those that all share
abbrev pub IsCounterThere : Tree → CounterTurn → Type 0
IsCounterThere tree (posts number) = Unit {0}
IsCounterThere tree (awaits on wanted) = Unit {0}
IsCounterThere tree (begins e) = Unit {0}
IsCounterThere tree (works i) = All (λ c. c < cell_count tree) (cells_in tree i)

-- a cursor of processor p of a program under a plan has these turns left, behind so many deeds, and an executor has printed what they print; the one that prints has room for the rest
pub record Runs (tree : Tree) (plan : Plan) (p : ℕ) (left : List CounterTurn) (done : ℕ)
    (c : Cursor) (x : Executor) : Type 0 where
  pub sound : IsCursor c
  pub program : cursor_tree c ≡ tree
  pub plan_is : cursor_plan c ≡ plan
  pub processor : cursor_processor c ≡ p
  pub turns : cursor_left c ≡ left
  pub inside : list_all (is_counter_inside tree) left ≡ true
  pub there : All (IsCounterThere tree) left
  pub deeds : drop done (all_deeds tree plan p) ≡ flat_map (turn_deeds tree plan p) (cursor_turns c)
  pub within : done ≤ length (all_deeds tree plan p)
  pub idle : registers_by Arrive tree plan p done ≡ []
  pub can : CanExecute x
  pub executor : executor_tree x ≡ tree
  pub output : executor_output x ≡ printed_by Arrive tree plan p done
  pub fits : length (executor_output x) ≤ executor_room x
  pub room : p ≡ 0 → length (executor_output x) + sum_by (counter_room tree) left ≤ executor_room x

-- a worker is that processor, keeps its stores to the program's cells, and its own cells hold what it stored there
pub record Stands (tree : Tree) (plan : Plan) (p : ℕ) (left : List CounterTurn) (w : Worker) :
    Type 0 where
  pub program : tree_of w.program.now ≡ tree
  pub plan_is : w.plan.now ≡ plan
  pub processor : w.processor ≡ p
  pub runs : Runs tree plan p left w.done.done w.turns w.executor
  pub kept : AreKept w.stores
  pub cells : cells_of w.stores ≡ cell_count tree
  pub holds : HoldsOwn tree plan p w.own w.done.done

-- the program and the plan of a worker's record
abbrev pub tree_in : CachePadded Worker → Tree
tree_in w = tree_of (padded_value w).program.now

abbrev pub plan_in : CachePadded Worker → Plan
plan_in w = (padded_value w).plan.now

-- so many phases are behind it, and its stores are laid in
pub record IsAt (tree : Tree) (plan : Plan) (n p : ℕ) (w : Worker) : Type 0 where
  pub stands : Stands tree plan p (turns_behind tree plan n p) w
  pub none : entries_of w.stores ≡ []
  pub shut : IsShut w.turns

-- some of the posts and awaits of the boundary behind so many phases are left
pub record IsBeginning (tree : Tree) (plan : Plan) (n p : ℕ) (w : Worker) : Type 0 where
  pub ahead : List CounterTurn
  pub waits : AreBoundaryTurns ahead
  pub stands : Stands tree plan p (ahead ++ begins (suc n) ∷ turns_begun tree plan n p) w
  pub none : entries_of w.stores ≡ []
  pub shut : IsShut w.turns
  pub left : flat_map (turn_deeds tree plan p) (cursor_turns w.turns)
      ≡ flat_map (counter_deeds tree) ahead ++ deeds_begun tree plan n p

-- it is past the boundary behind so many phases
pub record HasBegun (tree : Tree) (plan : Plan) (n p : ℕ) (w : Worker) : Type 0 where
  pub stands : Stands tree plan p (turns_begun tree plan n p) w
  pub none : entries_of w.stores ≡ []
  pub place : w.done.done ≡ begun tree plan n p

-- it is through its instances of the phase behind so many, with the stores that it did there
pub record HasWorked (tree : Tree) (plan : Plan) (n p : ℕ) (w : Worker) : Type 0 where
  pub stands : Stands tree plan p (turns_behind tree plan (suc n) p) w
  pub goes : ∥ Goes (protocol tree plan) p (begun tree plan n p) (entries_of w.stores) w.done.done
      ∥₁

-- its stores are laid in too, in lawful memory, where all before it are through the phase, and all behind it have begun it
pub record IsClosing (tree : Tree) (plan : Plan) (n p : ℕ) (memory : List ℤ) (w : Worker) :
    Type 0 where
  pub stands : Stands tree plan p (turns_behind tree plan (suc n) p) w
  pub none : entries_of w.stores ≡ []
  pub lawful : ∥ (protocol tree plan).lawful memory (put (joined tree plan n p) p w.done.done) ∥₁

-- an overlay is that processor's, behind so many phases, over this memory
pub record IsOverlay (tree : Tree) (plan : Plan) (n p : ℕ) (memory : List ℤ) (o : Overlay) :
    Type 0 where
  pub program : tree_of o.program.now ≡ tree
  pub plan_is : o.plan.now ≡ plan
  pub processor : o.processor ≡ p
  pub behind : o.behind ≡ n
  pub memory_is : o.memory.now ≡ memory

-- of the phase behind so many these instances are left, and then the phases behind it
pub record IsWalking (tree : Tree) (plan : Plan) (n p done : ℕ) (c : Cursor) (x : Executor) :
    Type 0 where
  pub left : List Instance
  pub runs : Runs tree plan p (map works left ++ turns_behind tree plan (suc n) p) done c x

-- an executor has done the first of what a cursor has left, behind so many deeds
pub record HasExecuted (tree : Tree) (plan : Plan) (p done after : ℕ) (c : Cursor)
    (x y : Executor) : Type 0 where
  pub first : (t : Turn) (rest : List Turn) → cursor_turns c ≡ t ∷ rest
      → drop after (all_deeds tree plan p) ≡ flat_map (turn_deeds tree plan p) rest
  pub within : after ≤ length (all_deeds tree plan p)
  pub idle : registers_by Arrive tree plan p after ≡ []
  pub can : CanExecute y
  pub executor : executor_tree y ≡ tree
  pub output : executor_output y ≡ printed_by Arrive tree plan p after
  pub wider : executor_room x ≤ executor_room y
  pub fits : length (executor_output y) ≤ executor_room y
  pub grown : (t : CounterTurn) (rest : List CounterTurn) → cursor_left c ≡ t ∷ rest
      → length (executor_output y) ≤ length (executor_output x) + counter_room tree t

-- of all workers
abbrev pub AreAt : Tree → Plan → ℕ → List (CachePadded Worker) → Type 0
AreAt tree plan n workers = (p : ℕ) (d : CachePadded Worker) → p < length workers
    → IsAt tree plan n p (padded_value (slice_index_or workers p d))

abbrev pub HaveWorked : Tree → Plan → ℕ → List (CachePadded Worker) → Type 0
HaveWorked tree plan n workers = (p : ℕ) (d : CachePadded Worker) → p < length workers
    → HasWorked tree plan n p (padded_value (slice_index_or workers p d))

-- the first ones' stores are laid in
abbrev pub AreLaid : Tree → Plan → ℕ → ℕ → List (CachePadded Worker) → Type 0
AreLaid tree plan n j workers = (p : ℕ) (d : CachePadded Worker) → p < j
    → IsAt tree plan (suc n) p (padded_value (slice_index_or workers p d))
