-- The laws of the machine of an ordered plan in a style.
use Rattle.std.proofs.Common.{◌^◌, arith}
use Rattle.nest_tree.specs.Layout.{cell_count}
use Rattle.nest_tree.specs.Limits.{IsWithinLimits}
use Rattle.nest_tree.specs.Tree.{Tree}
use Rattle.nest_tree.specs.WellFormed.{IsWellFormed}
use Rattle.nest_model.specs.Memory.{last_memory, output_of}
use Rattle.nest_model.specs.Ranges.{IsInRange}
use Rattle.sync_plan.specs.Boundaries.{gathers}
use Rattle.sync_plan.specs.declared.plan.Plan.{Plan}
use Rattle.sync_plan.specs.Fit.{IsFit}
use Rattle.sync_plan.specs.Ordered.{IsOrdered}
use Rattle.sync_plan.proofs.Fits.{fit_parts}
use Rattle.spmd_model.specs.Machines.{machine_by}
use Rattle.spmd_model.specs.declared.style.Style.{Style}
use Rattle.spmd_model.proofs.MachineMemory.{shared_last}
use Rattle.spmd_model.proofs.MachineOrder.{ordered_by, sound_by}
use Rattle.spmd_model.proofs.MachineOutput.{output_by}
use Rattle.spmd_model.specs.Laws.{Laws}
use Rattle.spmd_model.specs.PlanProtocols.{AreLawfulBy, acts_by, loaded_by, printed_by, protocol_by, registers_by, stored_by}
use Rattle.spmd_model.proofs.Gathered.{arrive_few, phases_few}
use Rattle.spmd_model.proofs.Held.{held}
use Rattle.spmd_model.proofs.PlanBarriers.{all_by, timeline_few}
use Rattle.spmd_model.proofs.PlanCells.{add_there}

pub laws_by : (style : Style) (tree : Tree) (plan : Plan) → IsWellFormed tree → IsWithinLimits tree → IsInRange tree → IsFit tree plan → IsOrdered tree plan → Laws (protocol_by style tree plan)
unfolding acts_by registers_by loaded_by stored_by printed_by AreLawfulBy
laws_by style tree plan formed limits ranges fits ordered =
    held (machine_by style tree plan) (cell_count tree) (gathers tree plan) (last_memory tree) (output_of tree) (record {
      sound = sound_by style tree plan formed fits;
      ordered = ordered_by style tree plan formed fits ranges ordered;
      some = omega arith;
      few = (fit_parts tree plan fits).few;
      added = λ p n place cell e. add_there style tree plan p n place cell formed fits e;
      all = all_by style tree plan;
      arrive = arrive_few (machine_by style tree plan) (gathers tree plan) (2 ^ 40) (let few = timeline_few style tree plan in let all = phases_few tree plan formed limits in omega (arith, few, all));
      ends = shared_last style tree plan formed fits ranges ordered.stored;
      prints = output_by style tree plan formed fits ranges ordered.stored;
    })
