use Rattle.std.proofs.Common.{◌≡◌, ◌∙◌, ap, subst, take}
use Rattle.nest_model.specs.Memory.{last_memory}
use Rattle.sync_plan.specs.Ordered.{IsOrdered}
use Rattle.spmd_model.specs.Runs.{IsEnded}
use Rattle.spmd_machine.specs.Machines.{plan_in, shown, style_in, tree_in}
use Rattle.spmd_machine.specs.Views.{MachineView, model_at, shared_at, tree_at}
use Rattle.spmd_machine.proofs.Seen.{memory_seen}
use Rattle.spmd_machine.proofs.Sequential.{memory_at_end}
use Rattle.spmd_machine.proofs.machine.Machine.memory.Goals as goal

pub returns-clause-shown : goal.returns-clause-shown
returns-clause-shown c =
    c.as_slice.ensures.value ∙ memory_seen c.self.inside.parts c.self.invariant ∙ ap (λ (v : MachineView). take (shared_at v) v.state.memory) c.self.view_is

pub returns-clause-last : goal.returns-clause-last
returns-clause-last c =
    let m = c.self.inside.parts in
    let ready = c.self.invariant in
    subst (λ (v : MachineView). IsOrdered (tree_at v) v.plan → IsEnded (model_at v) v.state → c.as_slice.result.now ≡ last_memory (tree_at v)) c.self.view_is
    (λ ordered ended. c.as_slice.ensures.value ∙ memory_seen m ready ∙ memory_at_end (style_in m) (tree_in m) (plan_in m) ready.formed ready.fits (shown m) ready.reached ready.ranges ordered ended)
