use Rattle.std.proofs.Common.{◌≡◌, sym, ◌∙◌, ap, subst, take}
use Rattle.nest_tree.specs.View.{tree_of}
use Rattle.nest_tree.specs.declared.program.Program.{Program}
use Rattle.sync_plan.specs.declared.plan.Plan.{Plan}
use Rattle.spmd_model.specs.States.{State}
use Rattle.spmd_model.specs.Runs.{IsEnded}
use Rattle.spmd_machine.specs.Ends.{HasRun}
use Rattle.nest_model.specs.Memory.{last_memory}
use Rattle.sync_plan.specs.Ordered.{IsOrdered}
use Rattle.spmd_machine.specs.Machines.{IsMachine, model_of, plan_in, shared_in, shown, style_in, tree_in, view_of}
use Rattle.spmd_machine.specs.Views.{MachineView, model_at, shared_at, tree_at}
use Rattle.spmd_machine.specs.declared.parts.Parts.{Parts}
use Rattle.spmd_machine.proofs.Seen.{memory_seen, output_seen}
use Rattle.spmd_machine.proofs.Sequential.{memory_at_end}
use Rattle.spmd_machine.proofs.receipt.Receipt.of.Goals as goal

has_run : (m : Parts) (program : Program) (plan : Plan) → IsMachine m → IsEnded (model_of m) (shown m) → program ≡ m.program.now → plan ≡ m.plan.now → HasRun (record { program = program; plan = plan; style = m.style; memory = m.memory.items })
has_run m program plan ready ended p q =
    let run : HasRun (record { program = m.program.now; plan = m.plan.now; style = m.style; memory = m.memory.items }) = record {
      schedule = ready.reached.schedule;
      workers = ready.reached.workers;
      ended = subst (IsEnded (model_of m)) ready.reached.run ended;
      memory = memory_seen m ready ∙ ap (λ (s : State). take (shared_in m) s.memory) ready.reached.run;
    } in
    subst (λ (x : Program). HasRun (record { program = x; plan = plan; style = m.style; memory = m.memory.items })) (sym p) (subst (λ (x : Plan). HasRun (record { program = m.program.now; plan = x; style = m.style; memory = m.memory.items })) (sym q) run)

-- the parts of the machine show what it shows, so their processors have ended
parts_ended : (m : Parts) (v : MachineView) → view_of m ≡ v → IsEnded (model_at v) v.state → IsEnded (model_of m) (shown m)
parts_ended m v seen ended = subst (λ (w : MachineView). IsEnded (model_at w) w.state) (sym seen) ended

pub invariant_of-receipt : goal.invariant_of-receipt
invariant_of-receipt c = has_run c.machine.inside.parts c.of-program.result.value c.of-plan.result.value c.machine.invariant (parts_ended c.machine.inside.parts c.args.machine c.machine.view_is c.requires.ended) c.of-program.ensures c.of-plan.ensures

pub returns-clause-run : goal.returns-clause-run
returns-clause-run c = has_run c.machine.inside.parts c.of-program.result.value c.of-plan.result.value c.machine.invariant (parts_ended c.machine.inside.parts c.args.machine c.machine.view_is c.requires.ended) c.of-program.ensures c.of-plan.ensures

pub returns-clause-program : goal.returns-clause-program
returns-clause-program c = ap tree_of c.of-program.ensures ∙ ap tree_at c.machine.view_is

pub returns-clause-memory : goal.returns-clause-memory
returns-clause-memory c =
    memory_seen c.machine.inside.parts c.machine.invariant ∙ ap (λ (v : MachineView). take (shared_at v) v.state.memory) c.machine.view_is

pub returns-clause-last : goal.returns-clause-last
returns-clause-last c =
    let m = c.machine.inside.parts in
    let ready = c.machine.invariant in
    let ended = parts_ended m c.args.machine c.machine.view_is c.requires.ended in
    let last : IsOrdered (tree_in m) (plan_in m) → m.memory.items ≡ last_memory (tree_in m) = λ ordered. memory_seen m ready ∙ memory_at_end (style_in m) (tree_in m) (plan_in m) ready.formed ready.fits (shown m) ready.reached ready.ranges ordered ended in
    subst (λ (v : MachineView). IsOrdered (tree_at v) v.plan → m.memory.items ≡ last_memory (tree_at v)) c.machine.view_is last

pub returns-clause-output : goal.returns-clause-output
returns-clause-output c = output_seen c.machine.inside.parts ∙ ap (λ (v : MachineView). v.state.output) c.machine.view_is
