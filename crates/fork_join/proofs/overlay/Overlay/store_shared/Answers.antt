use Rattle.std.proofs.Common.{◌≡◌, ◌+◌, sym, ◌∙◌, ap, subst, rules, w64, to_z, of_z}
use Rattle.std.proofs.lemmas.Int.{to_z-of_z}
use Rattle.nest_tree.specs.View.{tree_of}
use Rattle.spmd_model.specs.declared.style.Style.TheVariants.{Arrive}
use Rattle.spmd_model.specs.PlanProtocols.{printed_by, registers_by}
use Rattle.fork_join.specs.StoreLists.{cells_of, entries_of}
use Rattle.fork_join.specs.Joins.{IsAlone}
use Rattle.fork_join.proofs.Seeing.{inside_cells, store_alone, store_printed, store_registers}
use Rattle.fork_join.proofs.overlay.Overlay.store_shared.Goals as goal

pub set-requires-clause-inside : goal.set-requires-clause-inside
set-requires-clause-inside c =
    let o = c.args.self.now in inside_cells (tree_of o.program.now) o.plan.now o.processor o.behind o.memory.now (entries_of o.stores) o.own (cells_of o.stores) o.done.done o.goes c.args.cell c.requires.inside

pub invariant_of-self : goal.invariant_of-self
invariant_of-self c =
    let o = c.args.self.now in
    let n = o.done.done in
    let r = c.requires.next in
    let next : n + 1 ≡ c.further-self.result.done = sym c.further-self.ensures in
    let went = c.set.ensures in
    let new = c.set.new.self in record {
      goes = subst (λ k. ∥ IsAlone (tree_of o.program.now) o.plan.now o.processor o.behind o.memory.now (entries_of new) o.own (cells_of new) k ∥₁) next
          (subst (λ k. ∥ IsAlone (tree_of o.program.now) o.plan.now o.processor o.behind o.memory.now (entries_of new) o.own k (n + 1) ∥₁) (sym went.cells)
          (store_alone (tree_of o.program.now) o.plan.now o.processor o.behind o.memory.now (entries_of o.stores) o.own (cells_of o.stores) o.done.done o.goes c.args.cell r.0 r.1 r.2 c.requires.inside (entries_of new) (to_z w64 (of_z w64 c.args.value)) (to_z-of_z w64 c.args.value (search rules) ∙ r.3) went.laid));
      kept_stores = went.kept;
    }

pub returns-clause-registers : goal.returns-clause-registers
returns-clause-registers c =
    let o = c.args.self.now in
    let r = c.requires.next in
    let next : o.done.done + 1 ≡ c.further-self.result.done = sym c.further-self.ensures in
    ap (registers_by Arrive (tree_of o.program.now) o.plan.now o.processor) (sym next) ∙ store_registers (tree_of o.program.now) o.plan.now o.processor o.behind o.memory.now (entries_of o.stores) o.own (cells_of o.stores) o.done.done o.goes c.args.cell r.0 r.1 r.2

pub returns-clause-printed : goal.returns-clause-printed
returns-clause-printed c =
    let o = c.args.self.now in
    let r = c.requires.next in
    let next : o.done.done + 1 ≡ c.further-self.result.done = sym c.further-self.ensures in
    ap (printed_by Arrive (tree_of o.program.now) o.plan.now o.processor) (sym next) ∙ store_printed (tree_of o.program.now) o.plan.now o.processor o.behind o.memory.now (entries_of o.stores) o.own (cells_of o.stores) o.done.done o.goes c.args.cell r.0 r.1 r.2
