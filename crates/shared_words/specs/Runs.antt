-- What each kind of step is in the machine's run.
use Rattle.std.specs.Prelude.{ℕ, zero, suc, ◌+◌, ◌*◌, ◌≡◌, ◌≤◌, ◌<◌, true, false, List, Some, slice_index, slice_set}
use Rattle.nest_tree.specs.Limits.{IsWithinLimits}
use Rattle.nest_tree.specs.Tree.{Tree}
use Rattle.nest_tree.specs.WellFormed.{IsWellFormed}
use Rattle.nest_model.specs.Ranges.{IsInRange}
use Rattle.sync_plan.specs.Fit.{IsFit}
use Rattle.sync_plan.specs.Ordered.{IsOrdered}
use Rattle.sync_plan.specs.declared.plan.Plan.{Plan}
use Rattle.spmd_model.specs.Cells.{plus}
use Rattle.spmd_model.specs.Lawful.{Moves}
use Rattle.spmd_model.specs.States.{State}
use Rattle.spmd_model.specs.Runs.{stepped}
use Rattle.spmd_model.specs.Machines.{machine_by}
use Rattle.spmd_model.specs.Timelines.{Machine, Word, counter}
use Rattle.spmd_model.specs.Acts.{post, await, load, store, add}
use Rattle.spmd_model.specs.declared.style.Style.{Style}
use Rattle.spmd_model.specs.Protocols.{act_at, arrivals_at, is_arrival}
use Rattle.spmd_model.specs.PlanProtocols.{AreOfStateBy, protocol_by}
use Rattle.shared_words.specs.Places.{behind, behind_row}
use Rattle.shared_words.specs.Words.{AreShown, arrival_word, cells_in, word_of, word_value}

-- a plan that fits a well-formed program within its limits and in range, and is ordered
pub record IsRunnable (tree : Tree) (plan : Plan) : Type 0 where
  pub formed : IsWellFormed tree
  pub limits : IsWithinLimits tree
  pub ranges : IsInRange tree
  pub fits : IsFit tree plan
  pub ordered : IsOrdered tree plan

-- the state behind so many steps of processor p
abbrev pub behind_steps : Machine → State → ℕ → ℕ → State
behind_steps m s p zero = s
behind_steps m s p (suc k) = stepped m (behind_steps m s p k) p

-- these words show this state of the machine, with its processors at these places
abbrev pub AreWordsOf : Style → Tree → Plan → List ℕ → (ℕ → ℕ) → State → Type 0
AreWordsOf style tree plan words at s =
    AreOfStateBy style tree plan (cells_in (protocol_by style tree plan) words) at s

-- of whatever state the words show at these places, the words after show the state behind some steps of p, as many as lead it to its place n
abbrev pub AreStepsOf : Style → Tree → Plan → List ℕ → List ℕ → (ℕ → ℕ) → ℕ → ℕ → Type 0
AreStepsOf style tree plan words after at p n =
    (s : State) → AreWordsOf style tree plan words at s
    → (k : ℕ) × (at p + k ≡ n) × ((to : ℕ → ℕ) → Moves at to p n
    → AreWordsOf style tree plan after to (behind_steps (machine_by style tree plan) s p k))

-- ---- where the words show the machine, and p is a processor

abbrev pub AreLoadsSteps : Style → Tree → Plan → Type 0
AreLoadsSteps style tree plan = let m = protocol_by style tree plan in
    (words : List ℕ) (at : ℕ → ℕ) (p place cell : ℕ) → p < m.workers → AreShown m words at
    → act_at m p (at p) ≡ Some (load place cell)
    → AreStepsOf style tree plan words words at p (behind m p (at p))

abbrev pub AreStoresSteps : Style → Tree → Plan → Type 0
AreStoresSteps style tree plan = let m = protocol_by style tree plan in
    (words : List ℕ) (at : ℕ → ℕ) (p place cell word : ℕ) → p < m.workers → AreShown m words at
    → act_at m p (at p) ≡ Some (store place cell) → cell < m.cells
    → word_value word ≡ m.stored_at p (at p)
    → AreStepsOf style tree plan words (slice_set words cell word) at p (behind m p (at p))

abbrev pub AreAddsSteps : Style → Tree → Plan → Type 0
AreAddsSteps style tree plan = let m = protocol_by style tree plan in
    (words : List ℕ) (at : ℕ → ℕ) (p place cell word : ℕ) → p < m.workers → AreShown m words at
    → act_at m p (at p) ≡ Some (add place cell) → cell < m.cells
    → word_value word ≡ plus (word_value (slice_index words cell)) (m.stored_at p (at p))
    → AreStepsOf style tree plan words (slice_set words cell word) at p (behind m p (at p))

abbrev pub ArePostsSteps : Style → Tree → Plan → Type 0
ArePostsSteps style tree plan = let m = protocol_by style tree plan in
    (words : List ℕ) (at : ℕ → ℕ) (w : Word) (p number : ℕ) → p < m.workers → AreShown m words at
    → act_at m p (at p) ≡ Some (post w number) → is_arrival m.gathers w number ≡ false
    → AreStepsOf style tree plan words (slice_set words (word_of m w p) number) at p
    (behind m p (at p))

abbrev pub ArePollsSteps : Style → Tree → Plan → Type 0
ArePollsSteps style tree plan = let m = protocol_by style tree plan in
    (words : List ℕ) (at : ℕ → ℕ) (w : Word) (p on wanted : ℕ) → p < m.workers → AreShown m words at
    → act_at m p (at p) ≡ Some (await w on wanted) → is_arrival m.gathers w wanted ≡ false
    → wanted ≤ slice_index words (word_of m w on)
    → AreStepsOf style tree plan words words at p (behind m p (at p))

abbrev pub AreArrivalsSteps : Style → Tree → Plan → Type 0
AreArrivalsSteps style tree plan = let m = protocol_by style tree plan in
    (words : List ℕ) (at : ℕ → ℕ) (p number : ℕ) → p < m.workers → AreShown m words at
    → act_at m p (at p) ≡ Some (post counter number) → m.gathers number ≡ true
    → AreStepsOf style tree plan words (slice_set words (arrival_word m)
    (slice_index words (arrival_word m) + 1)) at p (behind m p (at p))

-- all awaits at the barrier, each a step
abbrev pub AreRowsSteps : Style → Tree → Plan → Type 0
AreRowsSteps style tree plan = let m = protocol_by style tree plan in
    (words : List ℕ) (at : ℕ → ℕ) (p : ℕ) → p < m.workers → AreShown m words at
    → m.workers * arrivals_at m p (at p) ≤ slice_index words (arrival_word m)
    → AreStepsOf style tree plan words words at p (behind_row m p (at p))
