-- What an ordered plan gives in a state that some schedule leads to.
use Rattle.std.proofs.Common.{◌≡◌, ℕ, ◌<◌, ◌++◌, List, Some, sym, ◌∙◌, ap, subst, slice_get, take, arith}
use Rattle.nest_tree.specs.Layout.{cell_count}
use Rattle.nest_tree.specs.Tree.{Tree}
use Rattle.nest_tree.specs.WellFormed.{IsWellFormed}
use Rattle.nest_model.specs.Memory as Model
use Rattle.nest_model.specs.Memory.{cell_value, memory_before, output_of}
use Rattle.nest_model.specs.Ranges.{IsInRange}
use Rattle.sync_plan.specs.Fit.{IsFit}
use Rattle.sync_plan.specs.Ordered.{IsOrdered}
use Rattle.sync_plan.specs.Own.{own_cell, own_of}
use Rattle.sync_plan.specs.declared.plan.Plan.{Plan}
use Rattle.sync_plan.proofs.Fits.{fit_parts}
use Rattle.spmd_model.specs.Reached.{HasCome, IsSequential, positions_of}
use Rattle.spmd_model.specs.Sequential.{memory_at}
use Rattle.spmd_model.specs.States.{State, next_act}
use Rattle.spmd_model.specs.Runs.{IsEnded}
use Rattle.spmd_model.specs.Machines.{instances_in_front, machine_by, timeline_by}
use Rattle.spmd_model.specs.Timelines.{Job, job}
use Rattle.spmd_model.specs.Acts.{load}
use Rattle.spmd_model.specs.declared.style.Style.{Style}
use Rattle.spmd_model.proofs.ActLaws.{gives}
use Rattle.spmd_model.proofs.Ends.{ended_memory, ended_output, output_front}
use Rattle.spmd_model.proofs.Runs.{come_run, sequential_run}
use Rattle.spmd_model.proofs.MachineLoads.{instance_in}
use Rattle.spmd_model.proofs.MachineMemory.{shared_last}
use Rattle.spmd_model.proofs.MachineOrder.{ordered_by, sound_by}
use Rattle.spmd_model.proofs.MachineOutput.{output_by}
use Rattle.spmd_machine.specs.Machines.{IsReached}
use Rattle.spmd_machine.specs.Promises.{FindsSequential}

module _ (style : Style) (tree : Tree) (plan : Plan) (formed : IsWellFormed tree) (fits : IsFit tree plan) (s : State) (r : IsReached (machine_by style tree plan) s) where
  pub has_come : HasCome (machine_by style tree plan) s
  has_come = subst (HasCome (machine_by style tree plan)) (sym r.run) (come_run (machine_by style tree plan) r.schedule r.workers)

  module _ (ranges : IsInRange tree) (ordered : IsOrdered tree plan) where
    sequential : IsSequential (machine_by style tree plan) s
    sequential = subst (IsSequential (machine_by style tree plan)) (sym r.run) (sequential_run (machine_by style tree plan) r.schedule (sound_by style tree plan formed fits) (ordered_by style tree plan formed fits ranges ordered) r.workers)

    pub load_is : (p place cell : ℕ) → next_act (machine_by style tree plan) s p ≡ Some (load place cell) → cell_value s.memory cell ≡ cell_value (memory_at (machine_by style tree plan) place) cell
    load_is p place cell next = gives (machine_by style tree plan) s.memory (positions_of s) p place cell (sound_by style tree plan formed fits) (ordered_by style tree plan formed fits ranges ordered) sequential.lawful next

    pub finds : (p place : ℕ) (j : Job) → slice_get (timeline_by style tree plan) place ≡ Some (job j) → j.counts ≡ 1 → j.owner ≡ p → FindsSequential style tree plan s p place j
    finds p place j at counts owner =
        let m = machine_by style tree plan in
        let x = instance_in style tree plan formed fits ranges ordered.stored place j at counts in
        let own = own_of tree plan x.execution.place in
        let front = memory_before tree (instances_in_front style tree plan place) in (
          x.execution,
          x.is,
          x.at,
          λ c among none next. load_is p place (own_cell own p c) next ∙ subst (λ q. cell_value (memory_at m place) (own_cell own q c) ≡ cell_value front c) owner (x.gives c among none),
        )

    pub memory_at_end : IsEnded (machine_by style tree plan) s → take (cell_count tree) s.memory ≡ Model.last_memory tree
    memory_at_end ended = ap (take (cell_count tree)) (ended_memory (machine_by style tree plan) s (sound_by style tree plan formed fits) sequential ended) ∙ shared_last style tree plan formed fits ranges ordered.stored

    pub front_of_output : (rest : List ℕ) × (s.output ++ rest ≡ output_of tree)
    front_of_output = let (rest, is) = output_front (machine_by style tree plan) s (sound_by style tree plan formed fits) sequential in (rest, is ∙ output_by style tree plan formed fits ranges ordered.stored)

    pub output_at_end : IsEnded (machine_by style tree plan) s → s.output ≡ output_of tree
    output_at_end ended =
        let some : 0 < plan.workers = omega (arith, (fit_parts tree plan fits).some) in
        ended_output (machine_by style tree plan) s some (sound_by style tree plan formed fits) sequential ended ∙ output_by style tree plan formed fits ranges ordered.stored
