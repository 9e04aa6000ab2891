use Rattle.std.proofs.Common.{◌≡◌, ◌+◌, refl, sym, ◌∙◌, ap, subst, rules, get_or, w64, FitsSigned, to_z, of_z}
use Rattle.std.proofs.lemmas.Int.{to_z-of_z}
use Rattle.nest_tree.specs.View.{tree_of}
use Rattle.spmd_model.specs.declared.style.Style.TheVariants.{Arrive}
use Rattle.spmd_model.specs.PlanProtocols.{printed_by, registers_by}
use Rattle.fork_join.specs.StoreLists.{cells_of, entries_of}
use Rattle.fork_join.specs.Joins.{IsAlone}
use Rattle.std.specs.Prelude.{pos}
use Rattle.fork_join.proofs.Seeing.{load_alone, load_printed, own_registers}
use Rattle.fork_join.proofs.overlay.Overlay.load_own.Goals as goal

pub invariant_of-self : goal.invariant_of-self
invariant_of-self c =
    let o = c.args.self.now in
    let r = c.requires.next in
    let next : o.done.done + 1 ≡ c.further-self.result.done = sym c.further-self.ensures in record {
      goes = subst (λ k. ∥ IsAlone (tree_of o.program.now) o.plan.now o.processor o.behind o.memory.now (entries_of o.stores) o.own (cells_of o.stores) k ∥₁) next (load_alone (tree_of o.program.now) o.plan.now o.processor o.behind o.memory.now (entries_of o.stores) o.own (cells_of o.stores) o.done.done o.goes _ r.0 r.1);
      kept_stores = o.kept_stores;
    }

pub returns-clause-registers : goal.returns-clause-registers
returns-clause-registers c =
    let o = c.args.self.now in
    let r = c.requires.next in
    let next : o.done.done + 1 ≡ c.further-self.result.done = sym c.further-self.ensures in
    let v = get_or o.own c.args.place (pos 0) in
    let fits : FitsSigned w64 v = search rules in
    ap (registers_by Arrive (tree_of o.program.now) o.plan.now o.processor) (sym next)
    ∙ own_registers (tree_of o.program.now) o.plan.now o.processor o.behind o.memory.now (entries_of o.stores) o.own (cells_of o.stores) o.done.done o.goes _ r.0 r.1 c.args.place c.requires.small refl (to_z w64 (of_z w64 v)) (sym (to_z-of_z w64 v fits))

pub returns-clause-printed : goal.returns-clause-printed
returns-clause-printed c =
    let o = c.args.self.now in
    let r = c.requires.next in
    let next : o.done.done + 1 ≡ c.further-self.result.done = sym c.further-self.ensures in
    ap (printed_by Arrive (tree_of o.program.now) o.plan.now o.processor) (sym next) ∙ load_printed (tree_of o.program.now) o.plan.now o.processor o.behind o.memory.now (entries_of o.stores) o.own (cells_of o.stores) o.done.done o.goes _ r.0 r.1
