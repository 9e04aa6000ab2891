use Rattle.std.proofs.Common.{◌≡◌, ℕ, Some, subst}
use Rattle.std.specs.Prelude.{slice_get}
use Rattle.nest_model.specs.Memory.{cell_value}
use Rattle.sync_plan.specs.Ordered.{IsOrdered}
use Rattle.spmd_model.specs.Acts.{load}
use Rattle.spmd_model.specs.Machines.{timeline_by}
use Rattle.spmd_model.specs.Sequential.{memory_at}
use Rattle.spmd_model.specs.States.{next_act}
use Rattle.spmd_model.specs.Timelines.{Job, job}
use Rattle.spmd_machine.specs.Machines.{plan_in, shown, style_in, tree_in}
use Rattle.spmd_machine.specs.Promises.{FindsSequential}
use Rattle.spmd_machine.specs.Views.{MachineView, model_at, tree_at}
use Rattle.spmd_machine.proofs.Seen.{same_seen}
use Rattle.spmd_machine.proofs.Sequential.{finds, load_is}
use Rattle.spmd_machine.proofs.machine.Machine.step.Goals as goal

pub returns-clause-load : goal.returns-clause-load
returns-clause-load c =
    let m = c.self.inside.parts in
    let ready = c.self.invariant in
    subst (λ (v : MachineView). IsOrdered (tree_at v) v.plan → (place cell : ℕ) → next_act (model_at v) v.state c.args.p ≡ Some (load place cell) → cell_value v.state.memory cell ≡ cell_value (memory_at (model_at v) place) cell) c.self.view_is
    (λ ordered place cell next. load_is (style_in m) (tree_in m) (plan_in m) ready.formed ready.fits (shown m) ready.reached ready.ranges ordered c.args.p place cell next)

pub returns-clause-sequential : goal.returns-clause-sequential
returns-clause-sequential c =
    let m = c.self.inside.parts in
    let ready = c.self.invariant in
    subst (λ (v : MachineView). IsOrdered (tree_at v) v.plan → (place : ℕ) → (j : Job) → slice_get (timeline_by v.style (tree_at v) v.plan) place ≡ Some (job j) → j.counts ≡ 1 → j.owner ≡ c.args.p → FindsSequential v.style (tree_at v) v.plan v.state c.args.p place j) c.self.view_is
    (λ ordered place j at counts owner. finds (style_in m) (tree_in m) (plan_in m) ready.formed ready.fits (shown m) ready.reached ready.ranges ordered c.args.p place j at counts owner)

pub returns-clause-same : goal.returns-clause-same
returns-clause-same c = same_seen c.self.inside.parts c.step.new.self c.args.self.now c.self.view_is c.step.ensures.same
