use Rattle.std.proofs.Common.{◌≡◌, ◌+◌, ◌-◌, ◌≤◌, ℤ, List, [], ◌∷◌, take, length, w64, FitsSigned, sym, ap, ◌∙◌, subst, arith, rules}
use Rattle.std.proofs.lemmas.Int.{to_z-of_z}
use Rattle.nest_tree.specs.Tree.{assign, work}
use Rattle.nest_tree.specs.View.{statement_of}
use Rattle.nest_tree.proofs.Rows.{same_work}
use Rattle.nest_model.specs.Memory.{assigned_value}
use Rattle.nest_walk.specs.Places.{numbers_of}
use Rattle.nest_walk.specs.RoundsOf.{rounds_of}
use Rattle.nest_walk.specs.Texts.{StandFrom, works}
use Rattle.nest_walk.specs.declared.table.LoadCells.{LoadCells}
use Rattle.flat_code.specs.CodeTables.{HasCode, codes_of, most_registers}
use Rattle.seq_meaning.proofs.RunSteps.{code_room, placed-high, written_back}
use Rattle.seq_meaning.proofs.TextAssigns.{text-code, text-high, text-low}
use Rattle.instance_runs.specs.Executors.{executor_tree}
use Rattle.instance_runs.specs.Loads.{widths}
use Rattle.instance_runs.proofs.Wholes.{last_left, last_store, loads_first, loads_within, placed, same_rest, some_store, store_loads, store_small, store_valued, store_value}
use Rattle.instance_runs.proofs.execute.Executor.assign.Goals as goal

pub work-cells-requires-clause-high : goal.work-cells-requires-clause-high
work-cells-requires-clause-high g c =
    let x = c.args.self.now in
    let b = c.requires.begins in
    placed-high (executor_tree x) c.args.path.now c.args.stop.first (statement_of c.args.stop.item.now) (placed (executor_tree x) c.args.path.now c.args.stop (g.D.Deeds.left c.args.deeds.now) b) x.table.now c.requires.can.table

pub work-code-requires-clause-low : goal.work-code-requires-clause-low
work-code-requires-clause-low g c =
    let x = c.args.self.now in
    let tree = executor_tree x in
    let path = c.args.path.now in
    let stop = c.args.stop in
    let can = c.requires.can in
    let b = c.requires.begins in
    let left = g.D.Deeds.left c.args.deeds.now in
    let here = placed tree path stop left b in
    let a = c.requires.statement.0 in
    let what = same_work here.what (assign a) (sym here.is ∙ c.requires.statement.1) in
    let around = numbers_of (rounds_of path) in
    let text = subst (λ w. StandFrom (works tree) stop.first (record { what = work w; around = around } ∷ [])) what here.text in
    text-low tree around stop.first a text HasCode (codes_of x.codes) can.codes.each

pub work-code-requires-clause-high : goal.work-code-requires-clause-high
work-code-requires-clause-high g c =
    let x = c.args.self.now in
    let tree = executor_tree x in
    let path = c.args.path.now in
    let stop = c.args.stop in
    let can = c.requires.can in
    let b = c.requires.begins in
    let left = g.D.Deeds.left c.args.deeds.now in
    let here = placed tree path stop left b in
    let a = c.requires.statement.0 in
    let what = same_work here.what (assign a) (sym here.is ∙ c.requires.statement.1) in
    let around = numbers_of (rounds_of path) in
    let text = subst (λ w. StandFrom (works tree) stop.first (record { what = work w; around = around } ∷ [])) what here.text in
    text-high tree around stop.first a text HasCode (codes_of x.codes) can.codes.each

pub load_all-requires-clause-within : goal.load_all-requires-clause-within
load_all-requires-clause-within g c =
    let x = c.args.self.now in
    let can = c.requires.can in
    loads_within (executor_tree x) c.args.path.now c.args.stop (g.D.Deeds.left c.args.deeds.now) c.requires.begins can.formed x.table.now can.table c.work-cells.result.now c.work-cells.ensures c.values.result.now c.deref.result.now can.limits c.values.ensures c.deref.ensures.value

pub load_all-requires-clause-left : goal.load_all-requires-clause-left
load_all-requires-clause-left g c =
    let x = c.args.self.now in
    let can = c.requires.can in
    (_, loads_first (executor_tree x) c.args.path.now c.args.stop (g.D.Deeds.left c.args.deeds.now) c.requires.begins can.formed x.table.now can.table c.work-cells.result.now c.work-cells.ensures c.values.result.now c.deref.result.now c.values.ensures c.deref.ensures.value)

pub run_code-value-requires-clause-room : goal.run_code-value-requires-clause-room
run_code-value-requires-clause-room g c =
    let x = c.args.self.now in
    let tree = executor_tree x in
    let path = c.args.path.now in
    let stop = c.args.stop in
    let can = c.requires.can in
    let b = c.requires.begins in
    let left = g.D.Deeds.left c.args.deeds.now in
    let here = placed tree path stop left b in
    let a = c.requires.statement.0 in
    let what = same_work here.what (assign a) (sym here.is ∙ c.requires.statement.1) in
    let around = numbers_of (rounds_of path) in
    let text = subst (λ w. StandFrom (works tree) stop.first (record { what = work w; around = around } ∷ [])) what here.text in
    let code = c.work-code.result.now in
    let enough : code.loads + length code.steps.items ≤ most_registers x.codes = code_room tree x.codes code (stop.first - 1) can.codes c.work-code.ensures in
    let long = c.load_all.auto.registers ∙ ap (λ (l : List ℤ). length l) c.deref_mut.ensures.value in
    let back = written_back x.registers.len c.load_all.new.registers x.registers.items x.registers.ok.0 long in
    let registers : c.deref_mut-2.result.now ≡ c.load_all.new.registers = c.deref_mut-2.ensures.value ∙ back in
    let now = ap (λ (l : List ℤ). length l) registers in
    omega (arith, enough, now, long, can.registers)

pub run_code-value-requires-clause-inside : goal.run_code-value-requires-clause-inside
run_code-value-requires-clause-inside g c =
    let x = c.args.self.now in
    let tree = executor_tree x in
    let path = c.args.path.now in
    let stop = c.args.stop in
    let can = c.requires.can in
    let b = c.requires.begins in
    let left = g.D.Deeds.left c.args.deeds.now in
    let here = placed tree path stop left b in
    let a = c.requires.statement.0 in
    let what = same_work here.what (assign a) (sym here.is ∙ c.requires.statement.1) in
    let around = numbers_of (rounds_of path) in
    let text = subst (λ w. StandFrom (works tree) stop.first (record { what = work w; around = around } ∷ [])) what here.text in
    let code = c.work-code.result.now in
    let coded = text-code tree around stop.first a text x.codes code can.codes c.work-code.ensures in
    coded.inside

pub run_code-value-requires-clause-good : goal.run_code-value-requires-clause-good
run_code-value-requires-clause-good g c =
    let x = c.args.self.now in
    let tree = executor_tree x in
    let path = c.args.path.now in
    let stop = c.args.stop in
    let can = c.requires.can in
    let b = c.requires.begins in
    let left = g.D.Deeds.left c.args.deeds.now in
    let here = placed tree path stop left b in
    let a = c.requires.statement.0 in
    let what = same_work here.what (assign a) (sym here.is ∙ c.requires.statement.1) in
    let around = numbers_of (rounds_of path) in
    let text = subst (λ w. StandFrom (works tree) stop.first (record { what = work w; around = around } ∷ [])) what here.text in
    let code = c.work-code.result.now in
    let coded = text-code tree around stop.first a text x.codes code can.codes c.work-code.ensures in
    let cells = c.work-cells.result.now in
    let written = c.requires.written in
    coded.good _ _ (store_valued tree path stop left b can.formed x.table.now can.table cells c.work-cells.ensures written.before c.deref-2.result.now written.long (c.deref-2.ensures.value ∙ written.is) x.params.now can.params a what)

pub unreachable-requires : goal.unreachable-requires
unreachable-requires g c =
    let x = c.args.self.now in
    let tree = executor_tree x in
    let path = c.args.path.now in
    let stop = c.args.stop in
    let can = c.requires.can in
    let b = c.requires.begins in
    let left = g.D.Deeds.left c.args.deeds.now in
    let here = placed tree path stop left b in
    let a = c.requires.statement.0 in
    let what = same_work here.what (assign a) (sym here.is ∙ c.requires.statement.1) in
    let around = numbers_of (rounds_of path) in
    let text = subst (λ w. StandFrom (works tree) stop.first (record { what = work w; around = around } ∷ [])) what here.text in
    let cells = c.work-cells.result.now in
    let written = c.requires.written in
    some_store tree path stop left b can.formed x.table.now can.table cells c.work-cells.ensures written.before c.deref-2.result.now written.long (c.deref-2.ensures.value ∙ written.is) x.params.now can.params a what c.in_default.is

pub overflow_cast-at : goal.overflow_cast-at
overflow_cast-at g c =
    let x = c.args.self.now in
    let tree = executor_tree x in
    let path = c.args.path.now in
    let stop = c.args.stop in
    let can = c.requires.can in
    let b = c.requires.begins in
    let left = g.D.Deeds.left c.args.deeds.now in
    let here = placed tree path stop left b in
    let a = c.requires.statement.0 in
    let what = same_work here.what (assign a) (sym here.is ∙ c.requires.statement.1) in
    let around = numbers_of (rounds_of path) in
    let text = subst (λ w. StandFrom (works tree) stop.first (record { what = work w; around = around } ∷ [])) what here.text in
    let cells = c.work-cells.result.now in
    let written = c.requires.written in
    let small = store_small tree path stop left b can.formed x.table.now can.table cells c.work-cells.ensures written.before c.deref-2.result.now written.long (c.deref-2.ensures.value ∙ written.is) x.params.now can.params a what c.in-Some.form c.in-Some.is c.at.result c.values-2.result.now c.at.ensures c.values-2.ensures can.limits in
    search (rules, small)

pub store-requires : goal.store-requires
store-requires g c =
    let x = c.args.self.now in
    let tree = executor_tree x in
    let path = c.args.path.now in
    let stop = c.args.stop in
    let can = c.requires.can in
    let b = c.requires.begins in
    let left = g.D.Deeds.left c.args.deeds.now in
    let here = placed tree path stop left b in
    let a = c.requires.statement.0 in
    let what = same_work here.what (assign a) (sym here.is ∙ c.requires.statement.1) in
    let around = numbers_of (rounds_of path) in
    let text = subst (λ w. StandFrom (works tree) stop.first (record { what = work w; around = around } ∷ [])) what here.text in
    let code = c.work-code.result.now in
    let coded = text-code tree around stop.first a text x.codes code can.codes c.work-code.ensures in
    let long = c.load_all.auto.registers ∙ ap (λ (l : List ℤ). length l) c.deref_mut.ensures.value in
    let back = written_back x.registers.len c.load_all.new.registers x.registers.items x.registers.ok.0 long in
    let registers : c.deref_mut-2.result.now ≡ c.load_all.new.registers = c.deref_mut-2.ensures.value ∙ back in
    let cells = c.work-cells.result.now in
    let written = c.requires.written in
    let behind = last_left tree path stop left b can.formed x.table.now can.table cells c.work-cells.ensures c.values.result.now c.deref.result.now (g.D.Deeds.left c.load_all.new.deeds) c.values.ensures c.deref.ensures.value c.load_all.ensures.left in
    let last = last_store tree path stop left b can.formed x.table.now can.table cells c.work-cells.ensures written.before c.deref-2.result.now written.long (c.deref-2.ensures.value ∙ written.is) x.params.now can.params a what c.in-Some.form c.in-Some.is c.at.result c.values-2.result.now c.at.ensures c.values-2.ensures in
    let loads = c.load_all.ensures.count ∙ ap (λ (l : List LoadCells). widths l) c.deref.ensures.value in
    let many = coded.loads ∙ store_loads tree path stop left b can.formed x.table.now can.table cells c.work-cells.ensures written.before c.deref-2.result.now written.long (c.deref-2.ensures.value ∙ written.is) x.params.now can.params a what ∙ sym loads in
    let given = ap (λ n. take n c.deref_mut-2.result.now) many ∙ ap (take c.load_all.result) registers ∙ sym c.load_all.ensures.registers in
    let value = store_value tree path stop left b can.formed x.table.now can.table cells c.work-cells.ensures written.before c.deref-2.result.now written.long (c.deref-2.ensures.value ∙ written.is) x.params.now can.params a what c.run_code-value.result (take code.loads c.deref_mut-2.result.now) (g.D.Deeds.registers c.load_all.new.deeds) (c.run_code-value.ensures.value a.value coded) given in
    let fits : FitsSigned w64 c.run_code-value.result = search rules in
    (assigned_value tree b.at.instance, b.rest, behind ∙ last, to_z-of_z w64 c.run_code-value.result fits ∙ value)

pub returns-clause-left : goal.returns-clause-left
returns-clause-left g c = λ b.
    let x = c.args.self.now in
    let can = c.requires.can in
    let behind = last_left (executor_tree x) c.args.path.now c.args.stop (g.D.Deeds.left c.args.deeds.now) b can.formed x.table.now can.table c.work-cells.result.now c.work-cells.ensures c.values.result.now c.deref.result.now (g.D.Deeds.left c.load_all.new.deeds) c.values.ensures c.deref.ensures.value c.load_all.ensures.left in
    same_rest (sym behind ∙ c.store.ensures.left.1)
