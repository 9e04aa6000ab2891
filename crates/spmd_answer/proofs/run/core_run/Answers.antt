use Rattle.std.proofs.Common.{rules, ◌≡◌, sym, ◌∙◌, ap, subst}
use Rattle.nest_tree.specs.Tree.{Tree}
use Rattle.nest_tree.specs.View.{tree_of}
use Rattle.nest_model.specs.Memory.{last_memory, output_of}
use Rattle.sync_plan.specs.Ordered.{IsOrdered}
use Rattle.sync_plan.specs.declared.plan.Plan.{Plan}
use Rattle.spmd_model.specs.Runs.{IsEnded}
use Rattle.spmd_model.specs.Machines.{machine_by}
use Rattle.spmd_model.specs.Timelines.{Machine}
use Rattle.spmd_machine.specs.Views.{model_at, tree_at}
use Rattle.spmd_answer.proofs.Left.{core_left}
use Rattle.spmd_answer.proofs.run.core_run.Goals as goal

pub of-receipt-requires : goal.of-receipt-requires
of-receipt-requires c =
    let same = c.round_robin.ensures.same in
    let model : model_at c.round_robin.new.self ≡ model_at c.in_ok-machine.machine = λ i. machine_by (same.style i) (same.program i) (same.plan i) in
    record { ended = subst (λ (m : Machine). IsEnded m c.round_robin.new.self.state) (sym model) c.round_robin.ensures.ended }

pub returns-clause-output : goal.returns-clause-output
returns-clause-output c =
    let machine = c.in_ok-machine.machine in
    let tree = tree_of c.args.program.now in
    let tree_is : tree_at machine ≡ tree = c.in_ok-machine.ensures.program in
    let plan_is : machine.plan ≡ c.args.plan.now = c.in_ok-machine.ensures.plan in
    let ordered : IsOrdered (tree_at machine) machine.plan =
    subst (λ (t : Tree). IsOrdered t machine.plan) (sym tree_is) (subst (λ (p : Plan). IsOrdered tree p) (sym plan_is) c.requires.ordered) in
    let output : c.of-receipt.result.1.bytes ≡ output_of tree = c.of-receipt.ensures.output ∙ (c.round_robin.ensures.output ordered ∙ ap output_of tree_is) in
    search (rules, output)

pub returns-clause-receipt : goal.returns-clause-receipt
returns-clause-receipt c =
    let machine = c.round_robin.new.self in
    let same = c.round_robin.ensures.same in
    let tree = tree_of c.args.program.now in
    let tree_is : tree_at machine ≡ tree = same.program ∙ c.in_ok-machine.ensures.program in
    let plan_is : machine.plan ≡ c.args.plan.now = same.plan ∙ c.in_ok-machine.ensures.plan in
    let style_is = same.style ∙ c.in_ok-machine.ensures.style in
    let ordered : IsOrdered (tree_at machine) machine.plan =
    subst (λ (t : Tree). IsOrdered t machine.plan) (sym tree_is) (subst (λ (p : Plan). IsOrdered tree p) (sym plan_is) c.requires.ordered) in
    let made = c.of-receipt.ensures in
    core_left c.args.style tree c.args.plan.now c.of-receipt.result.0 (made.style ∙ style_is) (made.plan ∙ plan_is) (made.program ∙ tree_is) (made.last ordered ∙ ap last_memory tree_is) made.run
