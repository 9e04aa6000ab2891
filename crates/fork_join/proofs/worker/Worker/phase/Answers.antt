use Rattle.std.proofs.Common.{◌≡◌, ◌<◌, ℕ, length, sym, subst}
use Rattle.nest_tree.specs.Tree.{Tree}
use Rattle.nest_tree.specs.View.{tree_of}
use Rattle.owner_partition.specs.Phases.{phases}
use Rattle.sync_plan.specs.declared.plan.Plan.{Plan}
use Rattle.fork_join.specs.Joins.{IsSafe, begun, protocol}
use Rattle.fork_join.specs.Workers.{HasBegun, HasWorked}
use Rattle.fork_join.specs.declared.worker.Worker.{Worker}
use Rattle.fork_join.proofs.worker.Worker.phase.Goals as goal

abbrev Key : Type 0
Key = Tree × (Plan × ℕ)

abbrev key_of : Worker → Key
key_of w = (tree_of w.program.now, (w.plan.now, w.processor))

same_key : (w v : Worker) → (tree_of v.program.now ≡ tree_of w.program.now) → (v.plan.now ≡ w.plan.now) → (v.processor ≡ w.processor) → key_of w ≡ key_of v
same_key w v t q k = λ i. (sym t i, (sym q i, sym k i))

pub work-requires-clause-safe : goal.work-requires-clause-safe
work-requires-clause-safe g c =
    let s = c.begin-phase.ensures.begun.stands in subst (λ (k : Key). IsSafe k.0 k.1.0) (same_key c.args.self.now c.begin-phase.new.self s.program s.plan_is s.processor) c.requires.safe

pub work-requires-clause-below : goal.work-requires-clause-below
work-requires-clause-below g c =
    let s = c.begin-phase.ensures.begun.stands in subst (λ (k : Key). k.1.1 < k.1.0.workers) (same_key c.args.self.now c.begin-phase.new.self s.program s.plan_is s.processor) c.requires.below

pub work-requires-clause-begun : goal.work-requires-clause-begun
work-requires-clause-begun g c =
    let s = c.begin-phase.ensures.begun.stands in
    subst (λ (k : Key). HasBegun k.0 k.1.0 c.args.behind k.1.1 c.begin-phase.new.self) (same_key c.args.self.now c.begin-phase.new.self s.program s.plan_is s.processor) c.begin-phase.ensures.begun

pub work-requires-clause-some : goal.work-requires-clause-some
work-requires-clause-some g c =
    let s = c.begin-phase.ensures.begun.stands in
    subst (λ (k : Key). c.args.behind < length (phases k.0 k.1.0.cut.marks)) (same_key c.args.self.now c.begin-phase.new.self s.program s.plan_is s.processor) c.requires.some

pub work-requires-clause-lawful : goal.work-requires-clause-lawful
work-requires-clause-lawful g c =
    let s = c.begin-phase.ensures.begun.stands in
    subst (λ (k : Key). ∥ (protocol k.0 k.1.0).lawful c.args.memory.now (begun k.0 k.1.0 c.args.behind) ∥₁) (same_key c.args.self.now c.begin-phase.new.self s.program s.plan_is s.processor) c.requires.lawful

pub returns : goal.returns
returns g c =
    let s = c.begin-phase.ensures.begun.stands in
    subst (λ (k : Key). HasWorked k.0 k.1.0 c.args.behind k.1.1 c.work.new.self) (sym (same_key c.args.self.now c.begin-phase.new.self s.program s.plan_is s.processor)) c.work.ensures
