-- Ordered plans: conflicting instances of different owners have a chain of waits between them, and what is private is stored before it is loaded.
use Rattle.std.specs.Prelude.{ℕ, ◌-◌, ◌<◌, ◌≤◌, ◌≡◌, ◌≢◌, Contains, List, [], ◌∷◌, Option, Some, None, slice_get}
use Rattle.nest_tree.specs.Tree.{Tree}
use Rattle.nest_model.specs.Visits.{Visit}
use Rattle.owner_partition.specs.Phases.{Execution, executions, phases}
use Rattle.sync_plan.specs.declared.plan.Plan.{Plan}
use Rattle.sync_plan.specs.Conflicts.{ConflictUnder}
pub use Rattle.sync_plan.specs.Conflicts.{owner_under}
use Rattle.sync_plan.specs.Stored.{AreStoredFirst}
use Rattle.sync_plan.specs.Waits.{waits_for}

-- whom p waits for in front of the phase with this number, from 1; nobody where there is none
abbrev pub awaited_in : Tree → Plan → ℕ → Option Visit → List ℕ
awaited_in tree plan p None = []
awaited_in tree plan p (Some v) = waits_for tree plan p v.place v.loops

abbrev pub awaited_in_front : Tree → Plan → ℕ → ℕ → List ℕ
awaited_in_front tree plan p e =
    awaited_in tree plan p (slice_get (phases tree plan.cut.marks) (e - 1))

-- a hop of a chain: in front of this phase this processor waits for the one before
pub record Hop : Type 0 where
  pub phase : ℕ
  pub processor : ℕ

-- a chain from processor q behind the phase number e to processor p at or before the phase number t: each hop's phase is behind that of the one before
abbrev pub IsChain : Tree → Plan → ℕ → ℕ → List Hop → ℕ → ℕ → Type 0
IsChain tree plan q e [] p t = (q ≡ p) × (e ≤ t)
IsChain tree plan q e (h ∷ hops) p t = (e < h.phase)
    × Contains (awaited_in_front tree plan h.processor h.phase) q
    × IsChain tree plan h.processor h.phase hops p t

-- instances j < k that conflict and have different owners: a chain leads from the owner of j, behind j's phase, to the owner of k, at or before k's
abbrev pub AreChained : Tree → Plan → Type 0
AreChained tree plan =
    (j k : ℕ) (x y : Execution) → j < k → slice_get (executions tree plan.cut.marks) j ≡ Some x
    → slice_get (executions tree plan.cut.marks) k ≡ Some y →
    ConflictUnder tree plan x y → owner_under tree plan x ≢ owner_under tree plan y →
    (hops : List Hop) × IsChain tree plan (owner_under tree plan x) x.phase hops
    (owner_under tree plan y) y.phase

-- so it is in an ordered plan, and each private scalar is stored first in each trip of its loop
pub record IsOrdered (tree : Tree) (plan : Plan) : Type 0 where
  pub chained : AreChained tree plan
  pub stored : AreStoredFirst tree plan
