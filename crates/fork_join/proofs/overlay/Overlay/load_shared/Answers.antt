use Rattle.std.proofs.Common.{◌≡◌, ◌+◌, sym, ◌∙◌, ap, subst, rules, w64, to_z, of_z}
use Rattle.std.proofs.lemmas.Int.{to_z-of_z}
use Rattle.nest_tree.specs.View.{tree_of}
use Rattle.spmd_model.specs.declared.style.Style.TheVariants.{Arrive}
use Rattle.spmd_model.specs.PlanProtocols.{printed_by, registers_by}
use Rattle.fork_join.specs.StoreLists.{cells_of, entries_of}
use Rattle.fork_join.specs.Joins.{IsAlone}
use Rattle.fork_join.proofs.Seeing.{inside_cells, inside_memory, load_alone, load_printed, load_registers}
use Rattle.fork_join.proofs.overlay.Overlay.load_shared.Goals as goal

pub seen-value-requires-clause-inside : goal.seen-value-requires-clause-inside
seen-value-requires-clause-inside c =
    let o = c.args.self.now in inside_cells (tree_of o.program.now) o.plan.now o.processor o.behind o.memory.now (entries_of o.stores) o.own (cells_of o.stores) o.done.done o.goes c.args.cell c.requires.inside

pub seen-value-requires-clause-memory : goal.seen-value-requires-clause-memory
seen-value-requires-clause-memory c =
    let o = c.args.self.now in inside_memory (tree_of o.program.now) o.plan.now o.processor o.behind o.memory.now (entries_of o.stores) o.own (cells_of o.stores) o.done.done o.goes c.args.cell c.requires.inside

pub invariant_of-self : goal.invariant_of-self
invariant_of-self c =
    let o = c.args.self.now in
    let r = c.requires.next in
    let next : o.done.done + 1 ≡ c.further-self.result.done = sym c.further-self.ensures in record {
      goes = subst (λ k. ∥ IsAlone (tree_of o.program.now) o.plan.now o.processor o.behind o.memory.now (entries_of o.stores) o.own (cells_of o.stores) k ∥₁) next (load_alone (tree_of o.program.now) o.plan.now o.processor o.behind o.memory.now (entries_of o.stores) o.own (cells_of o.stores) o.done.done o.goes c.args.cell r.0 r.1);
      kept_stores = o.kept_stores;
    }

pub returns-clause-registers : goal.returns-clause-registers
returns-clause-registers c =
    let o = c.args.self.now in
    let r = c.requires.next in
    let next : o.done.done + 1 ≡ c.further-self.result.done = sym c.further-self.ensures in
    ap (registers_by Arrive (tree_of o.program.now) o.plan.now o.processor) (sym next)
    ∙ load_registers (tree_of o.program.now) o.plan.now o.processor o.behind o.memory.now (entries_of o.stores) o.own (cells_of o.stores) o.done.done o.goes c.args.cell r.0 r.1 c.requires.inside (to_z w64 (of_z w64 c.seen-value.result)) (sym c.seen-value.ensures ∙ sym (to_z-of_z w64 c.seen-value.result (search rules)))

pub returns-clause-printed : goal.returns-clause-printed
returns-clause-printed c =
    let o = c.args.self.now in
    let r = c.requires.next in
    let next : o.done.done + 1 ≡ c.further-self.result.done = sym c.further-self.ensures in
    ap (printed_by Arrive (tree_of o.program.now) o.plan.now o.processor) (sym next) ∙ load_printed (tree_of o.program.now) o.plan.now o.processor o.behind o.memory.now (entries_of o.stores) o.own (cells_of o.stores) o.done.done o.goes c.args.cell r.0 r.1
