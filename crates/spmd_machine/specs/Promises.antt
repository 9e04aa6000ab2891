-- What is promised of runs: rounds, and what an ordered plan gives.
use Rattle.std.specs.Prelude.{ℕ, ◌≡◌, ◌≤◌, ◌<◌, Bool, true, false, Contains, List, Some, fold, slice_get}
use Rattle.std.specs.List.{flat_map, range_with_len}
use Rattle.nest_tree.specs.Tree.{Tree}
use Rattle.nest_model.specs.Accesses.{loads_of}
use Rattle.nest_model.specs.Instances.{instances}
use Rattle.nest_model.specs.Memory.{cell_value, memory_before}
use Rattle.owner_partition.specs.Phases.{Execution}
use Rattle.sync_plan.specs.Own.{own_cell, own_of}
use Rattle.sync_plan.specs.declared.plan.Plan.{Plan}
use Rattle.spmd_model.specs.Fair.{acts_to_go, can_step}
use Rattle.spmd_model.specs.Quiet.{turned}
use Rattle.spmd_model.specs.States.{State, next_act}
use Rattle.spmd_model.specs.Machines.{instances_in_front, job_under, machine_by}
use Rattle.spmd_model.specs.Timelines.{Job, Machine}
use Rattle.spmd_model.specs.Acts.{load}
use Rattle.spmd_model.specs.declared.style.Style.{Style}

-- a round, one step of each processor, and so many rounds
abbrev pub one_round : Machine → List ℕ
one_round m = range_with_len 0 m.workers

abbrev pub rounds : Machine → ℕ → List ℕ
rounds m count = flat_map (λ n. one_round m) (range_with_len 0 count)

-- how far a round has come, where so many cells are shared: the state behind its first p steps, and whether one of them was possible
pub record RoundTo (m : Machine) (shared : ℕ) (from now : State) (p : ℕ) (any : Bool) : Type 0 where
  pub run : now ≡ fold (turned m shared) from (range_with_len 0 p)
  pub nearer : acts_to_go m now ≤ acts_to_go m from
  pub goes : any ≡ true → acts_to_go m now < acts_to_go m from
  pub still : any ≡ false → (now ≡ from) × ((q : ℕ) → q < p → can_step m from q ≡ false)

-- a job of the timeline is that of the instance which as many stand in front of, and each of that instance's loads, but of a sum scalar of its phase, finds in the cell of processor p, where it comes next, what the sequential program's memory has there in front of the instance
abbrev pub FindsSequential : Style → Tree → Plan → State → ℕ → ℕ → Job → Type 0
FindsSequential style tree plan s p place j =
    (x : Execution) × (j ≡ job_under tree plan x)
    × (slice_get (instances tree) (instances_in_front style tree plan place) ≡ Some x.instance)
    × ((c : ℕ) → Contains (loads_of tree x.instance) c
    → (own_of tree plan x.place).is_sum c ≡ false
    → next_act (machine_by style tree plan) s p
    ≡ Some (load place (own_cell (own_of tree plan x.place) p c))
    → cell_value s.memory (own_cell (own_of tree plan x.place) p c)
    ≡ cell_value (memory_before tree (instances_in_front style tree plan place)) c)
