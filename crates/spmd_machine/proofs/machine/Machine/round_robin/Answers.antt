use Rattle.std.proofs.Common.{◌≡◌, subst, take}
use Rattle.nest_model.specs.Memory.{last_memory, output_of}
use Rattle.sync_plan.specs.Ordered.{IsOrdered}
use Rattle.spmd_machine.specs.Machines.{IsReached, plan_in, shown, style_in, tree_in}
use Rattle.spmd_machine.specs.Views.{MachineView, shared_at, tree_at}
use Rattle.spmd_machine.proofs.Ready.{along}
use Rattle.spmd_machine.proofs.Seen.{same_seen}
use Rattle.spmd_machine.proofs.Sequential.{memory_at_end, output_at_end}
use Rattle.spmd_machine.proofs.machine.Machine.round_robin.Goals as goal

pub returns-clause-memory : goal.returns-clause-memory
returns-clause-memory c =
    let m = c.self.inside.parts in
    let n = c.round_robin.new.self in
    let ready = c.self.invariant in
    let ran = c.round_robin.ensures in
    let reached = along (λ w. IsReached w (shown n)) m n ran.same ran.ready.reached in
    subst (λ (v : MachineView). IsOrdered (tree_at v) v.plan → take (shared_at v) (shown n).memory ≡ last_memory (tree_at v)) c.self.view_is
    (λ ordered. memory_at_end (style_in m) (tree_in m) (plan_in m) ready.formed ready.fits (shown n) reached ready.ranges ordered ran.ended)

pub returns-clause-output : goal.returns-clause-output
returns-clause-output c =
    let m = c.self.inside.parts in
    let n = c.round_robin.new.self in
    let ready = c.self.invariant in
    let ran = c.round_robin.ensures in
    let reached = along (λ w. IsReached w (shown n)) m n ran.same ran.ready.reached in
    subst (λ (v : MachineView). IsOrdered (tree_at v) v.plan → (shown n).output ≡ output_of (tree_at v)) c.self.view_is
    (λ ordered. output_at_end (style_in m) (tree_in m) (plan_in m) ready.formed ready.fits (shown n) reached ready.ranges ordered ran.ended)

pub returns-clause-same : goal.returns-clause-same
returns-clause-same c = same_seen c.self.inside.parts c.round_robin.new.self c.args.self.now c.self.view_is c.round_robin.ensures.same
