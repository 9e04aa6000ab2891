-- A run of a schedule under an accepted plan, in either style.
use Rattle.std.proofs.Common.{◌≡◌, ℕ, ◌<◌, ◌++◌, List, Some, ◌∙◌, ap, arith, subst}
use Rattle.std.specs.Prelude.{All, Contains, false, slice_get, take, ◌⊎◌}
use Rattle.nest_tree.specs.Layout.{cell_count}
use Rattle.nest_tree.specs.Tree.{Tree}
use Rattle.nest_tree.specs.WellFormed.{IsWellFormed}
use Rattle.nest_model.specs.Accesses.{loads_of}
use Rattle.nest_model.specs.Instances.{instances}
use Rattle.nest_model.specs.Memory as Model
use Rattle.nest_model.specs.Memory.{cell_value, memory_before, output_of}
use Rattle.nest_model.specs.Ranges.{IsInRange}
use Rattle.owner_partition.specs.Phases.{Execution}
use Rattle.sync_plan.specs.Stored.{AreStoredFirst}
use Rattle.sync_plan.specs.Own.{own_cell, own_of}
use Rattle.sync_plan.specs.declared.plan.Plan.{Plan}
use Rattle.sync_plan.proofs.Fits.{fit_parts}
use Rattle.plan_checker.specs.Accepted.{IsAccepted}
use Rattle.plan_checker.proofs.AcceptedOrder.{accepted_ordered}
use Rattle.spmd_model.specs.Ordered.{IsOrderedMachine, IsSound}
use Rattle.spmd_model.specs.Reached.{CanGo, IsSequential, positions_of}
use Rattle.spmd_model.specs.States.{State, next_act}
use Rattle.spmd_model.specs.Runs.{IsEnded, run_of}
use Rattle.spmd_model.specs.Machines.{instances_in_front, job_under, machine_by, timeline_by}
use Rattle.spmd_model.specs.Timelines.{Job, job}
use Rattle.spmd_model.specs.Acts.{load}
use Rattle.spmd_model.specs.declared.style.Style.{Style}
use Rattle.spmd_model.proofs.ActLaws.{gives}
use Rattle.spmd_model.proofs.Ends.{ended_memory, ended_output, output_front}
use Rattle.spmd_model.proofs.Runs.{come_run, sequential_run}
use Rattle.spmd_model.proofs.MachineLoads.{instance_in}
use Rattle.spmd_model.proofs.MachineMemory.{shared_last}
use Rattle.spmd_model.proofs.MachineOrder.{ordered_by, sound_by}
use Rattle.spmd_model.proofs.MachineOutput.{output_by}
use Rattle.spmd_model.proofs.Unstuck.{ended_or_goes}

module _ (style : Style) (tree : Tree) (plan : Plan) (schedule : List ℕ) (formed : IsWellFormed tree) (accepted : IsAccepted tree plan) (workers : All (λ q. q < plan.workers) schedule) where
  abbrev pub come_by : State
  come_by = run_of (machine_by style tree plan) schedule

  sound : IsSound (machine_by style tree plan)
  sound = sound_by style tree plan formed accepted.fits

  pub unstuck_by : IsEnded (machine_by style tree plan) come_by ⊎ CanGo (machine_by style tree plan) come_by
  unstuck_by = ended_or_goes (machine_by style tree plan) come_by sound (come_run (machine_by style tree plan) schedule workers)

  module _ (ranges : IsInRange tree) where
    ordered : IsOrderedMachine (machine_by style tree plan)
    ordered = ordered_by style tree plan formed accepted.fits ranges (accepted_ordered tree plan formed ranges accepted)

    stored : AreStoredFirst tree plan
    stored = (accepted_ordered tree plan formed ranges accepted).stored

    sequential : IsSequential (machine_by style tree plan) come_by
    sequential = sequential_run (machine_by style tree plan) schedule sound ordered workers

    -- a load that stands next gives what the program has in front of its instance
    abbrev pub gives_before : ℕ → ℕ → Execution → Type 0
    gives_before p place x =
        (c : ℕ) → Contains (loads_of tree x.instance) c → (own_of tree plan x.place).is_sum c ≡ false
        → next_act (machine_by style tree plan) come_by p ≡ Some (load place (own_cell (own_of tree plan x.place) p c))
        → cell_value come_by.memory (own_cell (own_of tree plan x.place) p c) ≡ cell_value (memory_before tree (instances_in_front style tree plan place)) c

    -- what is said of an instance at a place, whose owner is this
    abbrev pub IsInFront : ℕ → Job → ℕ → Type 0
    IsInFront place j p = (x : Execution) × (j ≡ job_under tree plan x) × (slice_get (instances tree) (instances_in_front style tree plan place) ≡ Some x.instance) × gives_before p place x

    owner_loads : (place : ℕ) (j : Job) → slice_get (timeline_by style tree plan) place ≡ Some (job j) → j.counts ≡ 1 → IsInFront place j j.owner
    owner_loads place j at counts =
        let x = instance_in style tree plan formed accepted.fits ranges stored place j at counts in
        (x.execution, x.is, x.at, λ c among plain next. gives (machine_by style tree plan) come_by.memory (positions_of come_by) j.owner place (own_cell (own_of tree plan x.execution.place) j.owner c) sound ordered sequential.lawful next ∙ x.gives c among plain)

    pub loads_by : (p place : ℕ) (j : Job) → slice_get (timeline_by style tree plan) place ≡ Some (job j) → j.counts ≡ 1 → j.owner ≡ p → IsInFront place j p
    loads_by p place j at counts owned = subst (IsInFront place j) owned (owner_loads place j at counts)

    pub front_by : (rest : List ℕ) × (come_by.output ++ rest ≡ output_of tree)
    front_by = let (rest, is) = output_front (machine_by style tree plan) come_by sound sequential in (rest, is ∙ output_by style tree plan formed accepted.fits ranges stored)

    pub memory_by_end : IsEnded (machine_by style tree plan) come_by → take (cell_count tree) come_by.memory ≡ Model.last_memory tree
    memory_by_end ended = ap (take (cell_count tree)) (ended_memory (machine_by style tree plan) come_by sound sequential ended) ∙ shared_last style tree plan formed accepted.fits ranges stored

    pub output_by_end : IsEnded (machine_by style tree plan) come_by → come_by.output ≡ output_of tree
    output_by_end ended =
        let some : 0 < plan.workers = omega (arith, (fit_parts tree plan accepted.fits).some) in
        ended_output (machine_by style tree plan) come_by some sound sequential ended ∙ output_by style tree plan formed accepted.fits ranges stored
