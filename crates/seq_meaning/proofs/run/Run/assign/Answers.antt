use Rattle.std.proofs.Common.{◌≡◌, ◌+◌, ◌-◌, ◌≤◌, ℤ, List, [], ◌∷◌, length, set, take, w64, FitsSigned, to_z, of_z, ap, sym, ◌∙◌, subst, rules, arith}
use Rattle.std.specs.Vec.{with_items}
use Rattle.std.proofs.lemmas.Int.{to_z-of_z}
use Rattle.std.proofs.lemmas.List.{length-set}
use Rattle.nest_tree.specs.Loads.{loads_in}
use Rattle.nest_tree.specs.Tree.{assign, work}
use Rattle.nest_tree.specs.View.{statement_of, tree_of}
use Rattle.nest_tree.proofs.Rows.{same_work}
use Rattle.nest_walk.specs.Cursors.{loops_in}
use Rattle.nest_walk.specs.Places.{numbers_of}
use Rattle.nest_walk.specs.RoundsOf.{rounds_of}
use Rattle.nest_walk.specs.Texts.{StandFrom, works}
use Rattle.nest_walk.specs.declared.table.LoadCells.{LoadCells}
use Rattle.flat_code.specs.CodeTables.{HasCode, codes_of, most_registers}
use Rattle.seq_meaning.specs.Executions.{loaded_at, memory_behind}
use Rattle.seq_meaning.proofs.RunSteps.{assign_here, code_room, firsts_are, firsts_within, no_store, placed-firsts, placed-found, placed-high, placed-low, placed-valued, store_is, store_within, written_back}
use Rattle.seq_meaning.proofs.TextAssigns.{text-code, text-high, text-loads}
use Rattle.seq_meaning.proofs.run.Run.assign.Goals as goal

pub work-cells-requires-clause-low : goal.work-cells-requires-clause-low
work-cells-requires-clause-low c =
    placed-low (tree_of c.args.self.now.program.now) c.args.path.now c.args.stop.first (statement_of c.args.stop.item.now) c.requires.placed c.args.self.now.table c.requires.ready.table

pub work-cells-requires-clause-high : goal.work-cells-requires-clause-high
work-cells-requires-clause-high c =
    placed-high (tree_of c.args.self.now.program.now) c.args.path.now c.args.stop.first (statement_of c.args.stop.item.now) c.requires.placed c.args.self.now.table c.requires.ready.table

pub work-code-requires-clause-high : goal.work-code-requires-clause-high
work-code-requires-clause-high c =
    let tree = tree_of c.args.self.now.program.now in
    let path = c.args.path.now in
    let number = c.args.stop.first in
    let s = statement_of c.args.stop.item.now in
    let placed = c.requires.placed in
    let a = c.requires.statement.0 in
    let what = same_work placed.what (assign a) (sym placed.is ∙ c.requires.statement.1) in
    let text = subst (λ w. StandFrom (works tree) number (record { what = work w; around = numbers_of (rounds_of path) } ∷ [])) what placed.text in
    text-high tree (numbers_of (rounds_of path)) number a text HasCode (codes_of c.args.self.now.codes) c.requires.ready.codes.each

pub load_firsts-requires-clause-there : goal.load_firsts-requires-clause-there
load_firsts-requires-clause-there c =
    let tree = tree_of c.args.self.now.program.now in
    let path = c.args.path.now in
    let number = c.args.stop.first in
    let s = statement_of c.args.stop.item.now in
    let placed = c.requires.placed in
    let a = c.requires.statement.0 in
    let what = same_work placed.what (assign a) (sym placed.is ∙ c.requires.statement.1) in
    let cells = c.work-cells.result.now in
    let firsts = placed-firsts tree path number s placed a what c.args.self.now.table cells c.requires.ready.table c.work-cells.ensures in
    firsts_within tree path number s placed a cells.loads.items firsts c.args.self.now.memory.items c.deref.result.now c.values.result.now c.deref-2.result.now c.requires.ready.memory c.deref.ensures.value c.values.ensures c.deref-2.ensures.value

pub load_firsts-requires-clause-room : goal.load_firsts-requires-clause-room
load_firsts-requires-clause-room c =
    let tree = tree_of c.args.self.now.program.now in
    let path = c.args.path.now in
    let number = c.args.stop.first in
    let s = statement_of c.args.stop.item.now in
    let placed = c.requires.placed in
    let a = c.requires.statement.0 in
    let what = same_work placed.what (assign a) (sym placed.is ∙ c.requires.statement.1) in
    let cells = c.work-cells.result.now in
    let text = subst (λ w. StandFrom (works tree) number (record { what = work w; around = numbers_of (rounds_of path) } ∷ [])) what placed.text in
    let code = c.work-code.result.now in
    let is = text-code tree (numbers_of (rounds_of path)) number a text c.args.self.now.codes code c.requires.ready.codes c.work-code.ensures in
    let many = text-loads tree (numbers_of (rounds_of path)) number a text c.args.self.now.table cells c.requires.ready.table c.work-cells.ensures in
    let listed = ap (λ (ls : List LoadCells). length ls) c.deref-2.ensures.value in
    let enough : code.loads + length code.steps.items ≤ most_registers c.args.self.now.codes = code_room tree c.args.self.now.codes code (number - 1) c.requires.ready.codes c.work-code.ensures in
    let lent = ap (λ (xs : List ℤ). length xs) c.deref_mut.ensures.value in
    omega (arith, many, listed, lent, is.loads, enough, c.requires.ready.registers)

pub run_code-value-requires-clause-room : goal.run_code-value-requires-clause-room
run_code-value-requires-clause-room c =
    let tree = tree_of c.args.self.now.program.now in
    let path = c.args.path.now in
    let number = c.args.stop.first in
    let s = statement_of c.args.stop.item.now in
    let placed = c.requires.placed in
    let code = c.work-code.result.now in
    let enough : code.loads + length code.steps.items ≤ most_registers c.args.self.now.codes = code_room tree c.args.self.now.codes code (number - 1) c.requires.ready.codes c.work-code.ensures in
    let long = c.load_firsts.ensures.room ∙ ap (λ (xs : List ℤ). length xs) c.deref_mut.ensures.value in
    let back = written_back c.args.self.now.registers.len c.load_firsts.new.registers c.args.self.now.registers.items c.args.self.now.registers.ok.0 long in
    let registers : c.deref_mut-2.result.now ≡ c.load_firsts.new.registers = c.deref_mut-2.ensures.value ∙ back in
    let now = ap (λ (xs : List ℤ). length xs) registers in
    omega (arith, enough, now, long, c.requires.ready.registers)

pub run_code-value-requires-clause-inside : goal.run_code-value-requires-clause-inside
run_code-value-requires-clause-inside c =
    let tree = tree_of c.args.self.now.program.now in
    let path = c.args.path.now in
    let number = c.args.stop.first in
    let s = statement_of c.args.stop.item.now in
    let placed = c.requires.placed in
    let a = c.requires.statement.0 in
    let what = same_work placed.what (assign a) (sym placed.is ∙ c.requires.statement.1) in
    let text = subst (λ w. StandFrom (works tree) number (record { what = work w; around = numbers_of (rounds_of path) } ∷ [])) what placed.text in
    let code = c.work-code.result.now in
    let is = text-code tree (numbers_of (rounds_of path)) number a text c.args.self.now.codes code c.requires.ready.codes c.work-code.ensures in
    is.inside

pub run_code-value-requires-clause-good : goal.run_code-value-requires-clause-good
run_code-value-requires-clause-good c =
    let tree = tree_of c.args.self.now.program.now in
    let path = c.args.path.now in
    let number = c.args.stop.first in
    let s = statement_of c.args.stop.item.now in
    let placed = c.requires.placed in
    let a = c.requires.statement.0 in
    let what = same_work placed.what (assign a) (sym placed.is ∙ c.requires.statement.1) in
    let text = subst (λ w. StandFrom (works tree) number (record { what = work w; around = numbers_of (rounds_of path) } ∷ [])) what placed.text in
    let code = c.work-code.result.now in
    let is = text-code tree (numbers_of (rounds_of path)) number a text c.args.self.now.codes code c.requires.ready.codes c.work-code.ensures in
    let written = c.requires.written in
    is.good _ _ (placed-valued tree path number s placed c.args.self.now.program.now.formed a what written.before c.deref-3.result.now c.deref-4.result.now written.long (c.deref-3.ensures.value ∙ written.is) (c.deref-4.ensures.value ∙ c.requires.ready.params))

pub index_mut-requires : goal.index_mut-requires
index_mut-requires c =
    let tree = tree_of c.args.self.now.program.now in
    let path = c.args.path.now in
    let number = c.args.stop.first in
    let s = statement_of c.args.stop.item.now in
    let placed = c.requires.placed in
    let cells = c.work-cells.result.now in
    let found = placed-found tree path number s placed c.args.self.now.table cells c.requires.ready.table c.work-cells.ensures in
    let within = store_within tree path number s placed cells found c.in-Some.form c.values-in-Some.result.now c.args.self.now.memory.items c.at.result c.in-Some.is c.at.ensures c.values-in-Some.ensures c.requires.ready.memory in
    omega (arith, within, c.args.self.now.memory.ok.0)

pub returns-in-Some-clause-ready : goal.returns-in-Some-clause-ready
returns-in-Some-clause-ready c =
    let ready = c.requires.ready in
    let kept = (with_items (with_items c.args.self.now.registers c.load_firsts.new.registers) c.run_code-value.new.registers).ok.0 in
    record {
      table = ready.table;
      params = ready.params;
      codes = ready.codes;
      lines = ready.lines;
      loops = ready.loops;
      registers = omega (arith, ready.registers, c.args.self.now.registers.ok.0, kept);
      memory = length-set c.args.self.now.memory.items c.at.result _ ∙ ready.memory;
    }

pub returns-in-Some-clause-memory : goal.returns-in-Some-clause-memory
returns-in-Some-clause-memory c = λ w same.
    let tree = tree_of c.args.self.now.program.now in
    let path = c.args.path.now in
    let number = c.args.stop.first in
    let s = statement_of c.args.stop.item.now in
    let placed = c.requires.placed in
    let a = c.requires.statement.0 in
    let what = same_work placed.what (assign a) (sym placed.is ∙ c.requires.statement.1) in
    let cells = c.work-cells.result.now in
    let found = placed-found tree path number s placed c.args.self.now.table cells c.requires.ready.table c.work-cells.ensures in
    let text = subst (λ w. StandFrom (works tree) number (record { what = work w; around = numbers_of (rounds_of path) } ∷ [])) what placed.text in
    let code = c.work-code.result.now in
    let is = text-code tree (numbers_of (rounds_of path)) number a text c.args.self.now.codes code c.requires.ready.codes c.work-code.ensures in
    let firsts = placed-firsts tree path number s placed a what c.args.self.now.table cells c.requires.ready.table c.work-cells.ensures in
    let many = text-loads tree (numbers_of (rounds_of path)) number a text c.args.self.now.table cells c.requires.ready.table c.work-cells.ensures in
    let listed = ap (λ (ls : List LoadCells). length ls) c.deref-2.ensures.value in
    let long = c.load_firsts.ensures.room ∙ ap (λ (xs : List ℤ). length xs) c.deref_mut.ensures.value in
    let back = written_back c.args.self.now.registers.len c.load_firsts.new.registers c.args.self.now.registers.items c.args.self.now.registers.ok.0 long in
    let registers : c.deref_mut-2.result.now ≡ c.load_firsts.new.registers = c.deref_mut-2.ensures.value ∙ back in
    let memory = c.args.self.now.memory.items in
    let loops = loops_in tree (rounds_of path) in
    let given = firsts_are tree path number s placed a cells.loads.items firsts memory c.deref.result.now c.values.result.now c.deref-2.result.now c.deref.ensures.value c.values.ensures c.deref-2.ensures.value in
    let loaded : take (length (loads_in a.value)) c.deref_mut-2.result.now ≡ loaded_at tree loops (assign a) memory =
    ap (λ n. take n c.deref_mut-2.result.now) (many ∙ sym listed) ∙ ap (take (length c.deref-2.result.now)) registers ∙ c.load_firsts.ensures.loaded ∙ given in
    let written = c.requires.written in
    let fits : FitsSigned w64 c.run_code-value.result = search rules in
    let result = to_z-of_z w64 c.run_code-value.result fits ∙ c.run_code-value.ensures.value a.value is in
    let value = assign_here tree path number s placed c.args.self.now.program.now.formed a what code is written.before c.deref-3.result.now c.deref-4.result.now c.deref_mut-2.result.now memory (to_z w64 (of_z w64 c.run_code-value.result)) written.long
    (c.deref-3.ensures.value ∙ written.is) (c.deref-4.ensures.value ∙ c.requires.ready.params) loaded result in
    let this = same_work w placed.what (sym same ∙ placed.is) in
    let new = set memory c.at.result (to_z w64 (of_z w64 c.run_code-value.result)) in
    subst (λ x. new ≡ memory_behind tree loops x memory) (sym this)
    (store_is tree path number s placed cells found c.in-Some.form c.values-in-Some.result.now memory c.at.result (to_z w64 (of_z w64 c.run_code-value.result)) c.in-Some.is c.at.ensures c.values-in-Some.ensures value)

pub returns-in_default-clause-ready : goal.returns-in_default-clause-ready
returns-in_default-clause-ready c =
    let ready = c.requires.ready in
    let kept = (with_items (with_items c.args.self.now.registers c.load_firsts.new.registers) c.run_code-value.new.registers).ok.0 in
    record {
      table = ready.table;
      params = ready.params;
      codes = ready.codes;
      lines = ready.lines;
      loops = ready.loops;
      registers = omega (arith, ready.registers, c.args.self.now.registers.ok.0, kept);
      memory = ready.memory;
    }

pub returns-in_default-clause-memory : goal.returns-in_default-clause-memory
returns-in_default-clause-memory c = λ w is.
    let tree = tree_of c.args.self.now.program.now in
    let path = c.args.path.now in
    let number = c.args.stop.first in
    let s = statement_of c.args.stop.item.now in
    let placed = c.requires.placed in
    let cells = c.work-cells.result.now in
    let found = placed-found tree path number s placed c.args.self.now.table cells c.requires.ready.table c.work-cells.ensures in
    let memory = c.args.self.now.memory.items in
    let this = same_work w placed.what (sym is ∙ placed.is) in
    subst (λ x. memory ≡ memory_behind tree (loops_in tree (rounds_of path)) x memory) (sym this) (no_store tree path number s placed cells found memory c.in_default.is)
