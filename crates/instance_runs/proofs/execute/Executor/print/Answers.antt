use Rattle.std.proofs.Common.{◌≡◌, ◌-◌, ◌++◌, [], ◌∷◌, ℤ, List, take, length, map, OnOk, subst, sym, ap, ◌∙◌, arith}
use Rattle.std.proofs.lemmas.List.{length-take-le}
use Rattle.nest_tree.specs.View.{printed_of, statement_of}
use Rattle.nest_model.specs.Memory.{items_text, line_of}
use Rattle.nest_walk.specs.declared.table.LoadCells.{LoadCells}
use Rattle.seq_meaning.proofs.RunSteps.{placed-high, written_back}
use Rattle.instance_runs.specs.Executors.{executor_tree}
use Rattle.instance_runs.specs.Loads.{widths}
use Rattle.instance_runs.proofs.Wholes.{last_left, last_print, loads_first, loads_within, placed, print_line, print_loads, print_texts, same_first, same_rest}
use Rattle.instance_runs.proofs.execute.Executor.print.Goals as goal

pub work-cells-requires-clause-high : goal.work-cells-requires-clause-high
work-cells-requires-clause-high g c =
    let x = c.args.self.now in
    let b = c.requires.begins in
    placed-high (executor_tree x) c.args.path.now c.args.stop.first (statement_of c.args.stop.item.now) (placed (executor_tree x) c.args.path.now c.args.stop (g.D.Deeds.left c.args.deeds.now) b) x.table.now c.requires.can.table

pub load_all-count-requires-clause-within : goal.load_all-count-requires-clause-within
load_all-count-requires-clause-within g c =
    let x = c.args.self.now in
    let can = c.requires.can in
    loads_within (executor_tree x) c.args.path.now c.args.stop (g.D.Deeds.left c.args.deeds.now) c.requires.begins can.formed x.table.now can.table c.work-cells.result.now c.work-cells.ensures c.values.result.now c.deref.result.now can.limits c.values.ensures c.deref.ensures.value

pub load_all-count-requires-clause-left : goal.load_all-count-requires-clause-left
load_all-count-requires-clause-left g c =
    let x = c.args.self.now in
    let can = c.requires.can in
    (_, loads_first (executor_tree x) c.args.path.now c.args.stop (g.D.Deeds.left c.args.deeds.now) c.requires.begins can.formed x.table.now can.table c.work-cells.result.now c.work-cells.ensures c.values.result.now c.deref.result.now c.values.ensures c.deref.ensures.value)

pub push_line-requires-clause-texts : goal.push_line-requires-clause-texts
push_line-requires-clause-texts g c =
    let x = c.args.self.now in
    let can = c.requires.can in
    let written = c.requires.written in
    let (listed, line, statement, items_are) = c.requires.statement in
    print_texts (executor_tree x) c.args.path.now c.args.stop (g.D.Deeds.left c.args.deeds.now) c.requires.begins can.formed x.table.now can.table c.work-cells.result.now c.work-cells.ensures
    written.before c.deref-2.result.now written.long (c.deref-2.ensures.value ∙ written.is) x.params.now can.params listed.items c.args.items.now line (ap statement_of statement) items_are

pub push_line-requires-clause-loads : goal.push_line-requires-clause-loads
push_line-requires-clause-loads g c =
    let x = c.args.self.now in
    let can = c.requires.can in
    let written = c.requires.written in
    let (listed, line, statement, items_are) = c.requires.statement in
    let wanted = print_loads (executor_tree x) c.args.path.now c.args.stop (g.D.Deeds.left c.args.deeds.now) c.requires.begins can.formed x.table.now can.table c.work-cells.result.now c.work-cells.ensures
    written.before c.deref-2.result.now written.long (c.deref-2.ensures.value ∙ written.is) x.params.now can.params listed.items c.args.items.now line (ap statement_of statement) items_are in
    let back = written_back x.registers.len c.load_all-count.new.registers x.registers.items x.registers.ok.0 (c.load_all-count.auto.registers ∙ ap (λ (l : List ℤ). length l) c.deref_mut.ensures.value) in
    let given = ap (λ (l : List ℤ). length l) (c.deref-3.ensures.value ∙ back) in
    let same = ap (λ (l : List ℤ). length l) c.deref_mut.ensures.value in
    let loads = ap (λ (l : List LoadCells). widths l) c.deref.ensures.value in
    let room = can.room (c.args.stop.first - 1) c.work-cells.result.now c.work-cells.ensures in
    let long = length-take-le c.load_all-count.result c.deref-3.result.now (omega (arith, c.load_all-count.ensures.count, given, same, loads, room, c.load_all-count.auto.registers)) in
    omega (arith, wanted, loads, long, c.load_all-count.ensures.count)

pub print-requires : goal.print-requires
print-requires g c =
    let x = c.args.self.now in
    let can = c.requires.can in
    let b = c.requires.begins in
    let left = g.D.Deeds.left c.args.deeds.now in
    let written = c.requires.written in
    let (listed, line, statement, items_are) = c.requires.statement in
    let behind = last_left (executor_tree x) c.args.path.now c.args.stop left b can.formed x.table.now can.table c.work-cells.result.now c.work-cells.ensures c.values.result.now c.deref.result.now (g.D.Deeds.left c.load_all-count.new.deeds) c.values.ensures c.deref.ensures.value c.load_all-count.ensures.left in
    let last = last_print (executor_tree x) c.args.path.now c.args.stop left b can.formed x.table.now can.table c.work-cells.result.now c.work-cells.ensures
    written.before c.deref-2.result.now written.long (c.deref-2.ensures.value ∙ written.is) x.params.now can.params listed.items c.args.items.now line (ap statement_of statement) items_are in
    (line_of (executor_tree x) b.at.instance, b.rest, behind ∙ last)

pub returns-clause-left : goal.returns-clause-left
returns-clause-left g c = λ b.
    let x = c.args.self.now in
    let can = c.requires.can in
    let behind = last_left (executor_tree x) c.args.path.now c.args.stop (g.D.Deeds.left c.args.deeds.now) b can.formed x.table.now can.table c.work-cells.result.now c.work-cells.ensures c.values.result.now c.deref.result.now (g.D.Deeds.left c.load_all-count.new.deeds) c.values.ensures c.deref.ensures.value c.load_all-count.ensures.left in
    same_rest (sym behind ∙ c.print.ensures.left.1)

pub returns-clause-output : goal.returns-clause-output
returns-clause-output g c =
    let x = c.args.self.now in
    let tree = executor_tree x in
    let can = c.requires.can in
    let b = c.requires.begins in
    let left = g.D.Deeds.left c.args.deeds.now in
    let written = c.requires.written in
    let (listed, line, statement, items_are) = c.requires.statement in
    let registers = g.D.Deeds.registers c.load_all-count.new.deeds in
    let behind = last_left tree c.args.path.now c.args.stop left b can.formed x.table.now can.table c.work-cells.result.now c.work-cells.ensures c.values.result.now c.deref.result.now (g.D.Deeds.left c.load_all-count.new.deeds) c.values.ensures c.deref.ensures.value c.load_all-count.ensures.left in
    let last = last_print tree c.args.path.now c.args.stop left b can.formed x.table.now can.table c.work-cells.result.now c.work-cells.ensures
    written.before c.deref-2.result.now written.long (c.deref-2.ensures.value ∙ written.is) x.params.now can.params listed.items c.args.items.now line (ap statement_of statement) items_are in
    let said = subst (λ r. OnOk r (c.push_line.new.self.bytes ≡ x.output.bytes ++ (items_text tree c.deref-2.result.now (map printed_of c.args.items.now) (take c.load_all-count.result c.deref-3.result.now) ++ 10 ∷ []))) c.unwrap.ensures c.push_line.ensures.line in
    let back = written_back x.registers.len c.load_all-count.new.registers x.registers.items x.registers.ok.0 (c.load_all-count.auto.registers ∙ ap (λ (l : List ℤ). length l) c.deref_mut.ensures.value) in
    let text = print_line tree c.args.path.now c.args.stop left b can.formed x.table.now can.table c.work-cells.result.now c.work-cells.ensures
    written.before c.deref-2.result.now written.long (c.deref-2.ensures.value ∙ written.is) x.params.now can.params listed.items c.args.items.now line (ap statement_of statement) items_are
    (take c.load_all-count.result c.deref-3.result.now) registers (ap (take c.load_all-count.result) (c.deref-3.ensures.value ∙ back) ∙ sym c.load_all-count.ensures.registers) in
    let (f, passed, printed) = c.print.ensures.left in
    let same = same_first (sym (behind ∙ last) ∙ passed) in
    said ∙ ap (λ l. x.output.bytes ++ l) text ∙ ap (λ l. l ++ line_of tree b.at.instance registers) (c.requires.output ∙ sym c.load_all-count.ensures.printed) ∙ ap (λ h. g.D.Deeds.printed c.load_all-count.new.deeds ++ h registers) same ∙ sym printed
