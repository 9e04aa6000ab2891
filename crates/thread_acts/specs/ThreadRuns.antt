-- Runs of threads: each processor goes through its deeds, in whatever order they come to a step.
use Rattle.std.specs.Prelude.{ℕ, ◌≡◌, ◌<◌, true, List, Option, Some, None, fold, length, slice_get, slice_index, if◌then◌else◌}
use Rattle.nest_tree.specs.Tree.{Tree}
use Rattle.sync_plan.specs.declared.plan.Plan.{Plan}
use Rattle.spmd_model.specs.Deeds.{Deed, can_do, did}
use Rattle.spmd_model.specs.States.{State, first_state, moved}
use Rattle.spmd_model.specs.Machines.{machine_by}
use Rattle.spmd_model.specs.declared.style.Style.TheVariants.{Arrive}
use Rattle.thread_code.specs.Code.{Nodes}
use Rattle.thread_acts.specs.ThreadDeeds.{code_deeds}

-- what each processor has to do
abbrev pub Threads : Type 0
Threads = ℕ → List Deed

-- by the code of a program under a plan
abbrev pub threads_of : Tree → Plan → Nodes → Threads
threads_of tree plan code p = code_deeds tree plan p code

-- the state behind a step of p: its next deed, where it has one that is possible
abbrev pub went_by : State → ℕ → Option Deed → State
went_by s p None = s
went_by s p (Some d) = if can_do s d then moved (did s p d) p else s

-- its next deed, where it has one
abbrev pub next_deed : Threads → State → ℕ → Option Deed
next_deed threads s p = slice_get (threads p) (slice_index s.positions p)

abbrev pub went : Threads → State → ℕ → State
went threads s p = went_by s p (next_deed threads s p)

-- the state behind a schedule, a list of processor numbers, from cells, counters and output that are 0 and empty
abbrev pub threads_run : Tree → Plan → Nodes → List ℕ → State
threads_run tree plan code schedule =
    fold (went (threads_of tree plan code)) (first_state (machine_by Arrive tree plan)) schedule

-- each processor has gone through all that it has to do
abbrev pub AreDone : Tree → Plan → Nodes → State → Type 0
AreDone tree plan code s =
    (p : ℕ) → p < plan.workers → slice_index s.positions p ≡ length (code_deeds tree plan p code)

-- some processor's next deed is possible
pub record CanGoOn (tree : Tree) (plan : Plan) (code : Nodes) (s : State) : Type 0 where
  pub processor : ℕ
  pub below : processor < plan.workers
  pub deed : Deed
  pub next : next_deed (threads_of tree plan code) s processor ≡ Some deed
  pub possible : can_do s deed ≡ true
