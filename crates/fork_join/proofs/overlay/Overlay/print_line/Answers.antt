use Rattle.std.proofs.Common.{◌≡◌, ◌+◌, sym, ◌∙◌, ap, subst}
use Rattle.nest_tree.specs.View.{tree_of}
use Rattle.spmd_model.specs.declared.style.Style.TheVariants.{Arrive}
use Rattle.spmd_model.specs.PlanProtocols.{printed_by, registers_by}
use Rattle.fork_join.specs.StoreLists.{cells_of, entries_of}
use Rattle.fork_join.specs.Joins.{IsAlone}
use Rattle.fork_join.proofs.Seeing.{print_alone, print_printed, print_registers}
use Rattle.fork_join.proofs.overlay.Overlay.print_line.Goals as goal

pub invariant_of-self : goal.invariant_of-self
invariant_of-self c =
    let o = c.args.self.now in
    let r = c.requires.next in
    let next : o.done.done + 1 ≡ c.further-self.result.done = sym c.further-self.ensures in record {
      goes = subst (λ k. ∥ IsAlone (tree_of o.program.now) o.plan.now o.processor o.behind o.memory.now (entries_of o.stores) o.own (cells_of o.stores) k ∥₁) next (print_alone (tree_of o.program.now) o.plan.now o.processor o.behind o.memory.now (entries_of o.stores) o.own (cells_of o.stores) o.done.done o.goes r.0 r.1 r.2);
      kept_stores = o.kept_stores;
    }

pub returns-clause-registers : goal.returns-clause-registers
returns-clause-registers c =
    let o = c.args.self.now in
    let r = c.requires.next in
    let next : o.done.done + 1 ≡ c.further-self.result.done = sym c.further-self.ensures in
    ap (registers_by Arrive (tree_of o.program.now) o.plan.now o.processor) (sym next) ∙ print_registers (tree_of o.program.now) o.plan.now o.processor o.behind o.memory.now (entries_of o.stores) o.own (cells_of o.stores) o.done.done o.goes r.0 r.1 r.2

pub returns-clause-printed : goal.returns-clause-printed
returns-clause-printed c = λ line rest is.
    let o = c.args.self.now in
    let next : o.done.done + 1 ≡ c.further-self.result.done = sym c.further-self.ensures in
    ap (printed_by Arrive (tree_of o.program.now) o.plan.now o.processor) (sym next) ∙ print_printed (tree_of o.program.now) o.plan.now o.processor o.behind o.memory.now (entries_of o.stores) o.own (cells_of o.stores) o.done.done o.goes line rest is
