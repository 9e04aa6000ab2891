use Rattle.std.proofs.Common.{◌≡◌, ◌++◌, ℕ, List, ◌∙◌, ap, subst}
use Rattle.nest_model.specs.Memory.{output_of}
use Rattle.sync_plan.specs.Ordered.{IsOrdered}
use Rattle.spmd_model.specs.Runs.{IsEnded}
use Rattle.spmd_machine.specs.Machines.{plan_in, shown, style_in, tree_in}
use Rattle.spmd_machine.specs.Views.{MachineView, model_at, tree_at}
use Rattle.spmd_machine.proofs.Seen.{output_seen}
use Rattle.spmd_machine.proofs.Sequential.{front_of_output, output_at_end}
use Rattle.spmd_machine.proofs.machine.Machine.output.Goals as goal

pub returns-clause-shown : goal.returns-clause-shown
returns-clause-shown c = output_seen c.self.inside.parts ∙ ap (λ (v : MachineView). v.state.output) c.self.view_is

pub returns-clause-front : goal.returns-clause-front
unfolding shown
returns-clause-front c =
    let m = c.self.inside.parts in
    let ready = c.self.invariant in
    subst (λ (v : MachineView). IsOrdered (tree_at v) v.plan → (rest : List ℕ) × (m.output.bytes ++ rest ≡ output_of (tree_at v))) c.self.view_is
    (λ ordered. front_of_output (style_in m) (tree_in m) (plan_in m) ready.formed ready.fits (shown m) ready.reached ready.ranges ordered)

pub returns-clause-whole : goal.returns-clause-whole
returns-clause-whole c =
    let m = c.self.inside.parts in
    let ready = c.self.invariant in
    subst (λ (v : MachineView). IsOrdered (tree_at v) v.plan → IsEnded (model_at v) v.state → m.output.bytes ≡ output_of (tree_at v)) c.self.view_is
    (λ ordered ended. output_seen m ∙ output_at_end (style_in m) (tree_in m) (plan_in m) ready.formed ready.fits (shown m) ready.reached ready.ranges ordered ended)
