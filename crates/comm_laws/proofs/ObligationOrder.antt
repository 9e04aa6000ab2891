-- The obligations of a plan, and their tasks.
use Rattle.std.proofs.Common.{◌≡◌, ℕ, suc, List, [], ◌∷◌, ap, subst, inl, inr}
use Rattle.std.specs.List.{Contains}
use Rattle.nest_tree.specs.Tree.{Tree}
use Rattle.nest_tree.specs.WellFormed.{IsWellFormed}
use Rattle.nest_model.specs.Ranges.{IsInRange}
use Rattle.farkas_cert.specs.Inequalities.{HasNoWholeSolution}
use Rattle.sync_plan.specs.declared.plan.Plan.{Plan}
use Rattle.sync_plan.specs.Fit.{IsFit}
use Rattle.sync_plan.specs.Ordered.{IsOrdered}
use Rattle.sync_plan.specs.Stored.{AreStoredFirst}
use Rattle.comm_system.specs.Obligations.{Task, numbered_from, obligations_of, tasks_of}
use Rattle.comm_system.specs.declared.obligation.Obligation.{Obligation}
use Rattle.comm_system.proofs.Lists.{contains_cases, contains_here, contains_later, contains_nothing}
use Rattle.comm_laws.proofs.PathRuns.{obligations_store_first}
use Rattle.comm_laws.proofs.SamePhase.{obligations_chain}

-- an obligation with the system of a task
numbered_there : (n : ℕ) (tasks : List Task) (k : Task) → Contains tasks k → (o : Obligation) × Contains (numbered_from n tasks) o × (o.system ≡ k.system)
numbered_there n [] k c = elim (contains_nothing k c) [ ]
numbered_there n (t ∷ tasks) k c = elim (contains_cases t k tasks c) [
  | inl same ↦
      let o : Obligation = record { number = n; system = t.system; lines = t.lines; variable = t.variable; level = t.level; piece = t.piece; range = t.range } in
      let is : t.system ≡ k.system = ap (λ (x : Task). x.system) same in
      (o, contains_here o (numbered_from (suc n) tasks), is)
  | inr later ↦
      let o : Obligation = record { number = n; system = t.system; lines = t.lines; variable = t.variable; level = t.level; piece = t.piece; range = t.range } in
      let rest = numbered_there (suc n) tasks k later in
      (rest.0, contains_later o rest.0 (numbered_from (suc n) tasks) rest.1, rest.2)
]

-- where no obligation has a whole solution, no task has
none_of_tasks : (tree : Tree) (plan : Plan) → ((o : Obligation) → Contains (obligations_of tree plan) o → HasNoWholeSolution o.system) → (task : Task) → Contains (tasks_of tree plan) task → HasNoWholeSolution task.system
none_of_tasks tree plan none task c = let found = numbered_there 1 (tasks_of tree plan) task c in subst HasNoWholeSolution found.2 (none found.0 found.1)

-- so what is private is stored first, whatever the subscripts
pub stored_by : (tree : Tree) (plan : Plan) → IsWellFormed tree → IsFit tree plan → ((o : Obligation) → Contains (obligations_of tree plan) o → HasNoWholeSolution o.system) → AreStoredFirst tree plan
stored_by tree plan formed fits none = obligations_store_first tree plan formed fits (none_of_tasks tree plan none)

pub ordered_by : (tree : Tree) (plan : Plan) → IsWellFormed tree → IsInRange tree → IsFit tree plan → ((o : Obligation) → Contains (obligations_of tree plan) o → HasNoWholeSolution o.system) → IsOrdered tree plan
ordered_by tree plan formed ranged fits none = record {
  chained = obligations_chain tree plan formed ranged fits (none_of_tasks tree plan none);
  stored = stored_by tree plan formed fits none;
}
