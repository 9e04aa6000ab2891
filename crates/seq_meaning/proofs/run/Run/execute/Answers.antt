use Rattle.std.proofs.Common.{◌≡◌, ◌++◌, ℤ, IsTrue, List, [], ◌∷◌, length, map, ap, sym, ◌∙◌, subst, arith}
use Rattle.std.specs.List.{list_all}
use Rattle.std.proofs.lemmas.Result.{on_ok_weaker}
use Rattle.nest_tree.specs.Tree.{Printing, print}
use Rattle.nest_tree.specs.View.{printed_of, statement_of, tree_of}
use Rattle.nest_tree.specs.WellFormed.{is_good_work, is_number_of, loops_of, scope_of}
use Rattle.nest_tree.proofs.Rows.{same_work}
use Rattle.nest_model.specs.Memory.{items_text, printed_text}
use Rattle.nest_walk.specs.ByNumber.{with_rounds}
use Rattle.nest_walk.specs.Cursors.{loops_in}
use Rattle.nest_walk.specs.Paths.{Round}
use Rattle.nest_walk.specs.Places.{numbers_of}
use Rattle.nest_walk.specs.RoundsOf.{rounds_of}
use Rattle.seq_meaning.specs.Executions.{loaded_at, printed_behind}
use Rattle.seq_meaning.specs.Lines.{has_text, items_load_count}
use Rattle.seq_meaning.proofs.RunSteps.{loaded_is, loads_within, numbered_more, placed-found, placed-good, placed-high, placed-low, print_count, texts_same, texts_there, written_back}
use Rattle.seq_meaning.proofs.run.Run.execute.Goals as goal

pub write_to-requires : goal.write_to-requires
write_to-requires c =
    let rounds = rounds_of c.args.path.now in
    let more = numbered_more (loops_of (tree_of c.args.self.now.program.now).items) (length c.args.self.now.loops.items) rounds c.requires.ready.loops c.requires.placed.numbered in
    subst (λ (xs : List ℤ). IsTrue (list_all (λ (r : Round). is_number_of (length xs) r.number) rounds)) (sym c.deref_mut.ensures.value) more

pub work-cells-requires-clause-low : goal.work-cells-requires-clause-low
work-cells-requires-clause-low c =
    placed-low (tree_of c.args.self.now.program.now) c.args.path.now c.args.stop.first (statement_of c.args.stop.item.now) c.requires.placed c.args.self.now.table c.requires.ready.table

pub work-cells-requires-clause-high : goal.work-cells-requires-clause-high
work-cells-requires-clause-high c =
    placed-high (tree_of c.args.self.now.program.now) c.args.path.now c.args.stop.first (statement_of c.args.stop.item.now) c.requires.placed c.args.self.now.table c.requires.ready.table

pub load-requires : goal.load-requires
load-requires c =
    let tree = tree_of c.args.self.now.program.now in
    let path = c.args.path.now in
    let number = c.args.stop.first in
    let s = statement_of c.args.stop.item.now in
    let placed = c.requires.placed in
    let cells = c.work-cells.result.now in
    let found = placed-found tree path number s placed c.args.self.now.table cells c.requires.ready.table c.work-cells.ensures in
    loads_within tree path number s placed cells found c.args.self.now.memory.items c.deref.result.now c.values.result.now c.deref-in-Print.result.now c.requires.ready.memory c.deref.ensures.value c.values.ensures c.deref-in-Print.ensures.value

pub push_line-requires-clause-texts : goal.push_line-requires-clause-texts
push_line-requires-clause-texts c =
    let tree = tree_of c.args.self.now.program.now in
    let path = c.args.path.now in
    let number = c.args.stop.first in
    let s = statement_of c.args.stop.item.now in
    let placed = c.requires.placed in
    let cells = c.work-cells.result.now in
    let found = placed-found tree path number s placed c.args.self.now.table cells c.requires.ready.table c.work-cells.ensures in
    let items = map printed_of c.in-Print.items.items in
    let p : Printing = record { items = items; line = c.in-Print.field-1 } in
    let what = same_work placed.what (print p) (sym placed.is ∙ ap statement_of c.in-Print.is) in
    let good = sym (ap (is_good_work (scope_of tree) (numbers_of (rounds_of path))) what) ∙ placed-good tree path number s placed c.args.self.now.program.now.formed in
    let back = written_back c.args.self.now.loops.len c.write_to.new.loops c.args.self.now.loops.items c.args.self.now.loops.ok.0 (c.write_to.auto.loops ∙ ap (λ (xs : List ℤ). length xs) c.deref_mut.ensures.value) in
    let written = back ∙ c.write_to.ensures ∙ ap (λ (xs : List ℤ). with_rounds xs (rounds_of path)) c.deref_mut.ensures.value in
    let loops = c.deref-in-Print-2.ensures.value ∙ written in
    ap (λ xs. list_all (has_text tree (length c.deref-in-Print-2.result.now)) (map printed_of xs)) c.deref-in-Print-5.ensures.value ∙ ap (λ (xs : List ℤ). list_all (has_text tree (length xs)) items) loops
    ∙ texts_there tree (rounds_of path) placed.numbered c.args.self.now.loops.items c.requires.ready.loops items good

pub push_line-requires-clause-loads : goal.push_line-requires-clause-loads
push_line-requires-clause-loads c =
    let tree = tree_of c.args.self.now.program.now in
    let path = c.args.path.now in
    let number = c.args.stop.first in
    let s = statement_of c.args.stop.item.now in
    let placed = c.requires.placed in
    let cells = c.work-cells.result.now in
    let found = placed-found tree path number s placed c.args.self.now.table cells c.requires.ready.table c.work-cells.ensures in
    let items = map printed_of c.in-Print.items.items in
    let p : Printing = record { items = items; line = c.in-Print.field-1 } in
    let what = same_work placed.what (print p) (sym placed.is ∙ ap statement_of c.in-Print.is) in
    let good = sym (ap (is_good_work (scope_of tree) (numbers_of (rounds_of path))) what) ∙ placed-good tree path number s placed c.args.self.now.program.now.formed in
    let loaded = loaded_is tree path number s placed cells found c.args.self.now.memory.items c.deref.result.now c.values.result.now c.load.new.loaded.items c.deref-in-Print.result.now c.deref.ensures.value c.values.ensures c.deref-in-Print.ensures.value c.in_ok-load-in-Print.ensures in
    let loops = loops_in tree (rounds_of path) in
    let count = ap (λ (xs : List ℤ). length xs) (c.deref-in-Print-4.ensures.value ∙ loaded ∙ ap (λ w. loaded_at tree loops w c.args.self.now.memory.items) what) ∙ print_count tree loops p c.args.self.now.memory.items in
    let same = ap (λ xs. items_load_count tree (map printed_of xs)) c.deref-in-Print-5.ensures.value in
    omega (arith, count, same)

pub returns-in_ok-load-in-Print-clause-output : goal.returns-in_ok-load-in-Print-clause-output
returns-in_ok-load-in-Print-clause-output c =
    let tree = tree_of c.args.self.now.program.now in
    let path = c.args.path.now in
    let number = c.args.stop.first in
    let s = statement_of c.args.stop.item.now in
    let placed = c.requires.placed in
    let cells = c.work-cells.result.now in
    let found = placed-found tree path number s placed c.args.self.now.table cells c.requires.ready.table c.work-cells.ensures in
    let items = map printed_of c.in-Print.items.items in
    let p : Printing = record { items = items; line = c.in-Print.field-1 } in
    let what = same_work placed.what (print p) (sym placed.is ∙ ap statement_of c.in-Print.is) in
    let good = sym (ap (is_good_work (scope_of tree) (numbers_of (rounds_of path))) what) ∙ placed-good tree path number s placed c.args.self.now.program.now.formed in
    let loaded = loaded_is tree path number s placed cells found c.args.self.now.memory.items c.deref.result.now c.values.result.now c.load.new.loaded.items c.deref-in-Print.result.now c.deref.ensures.value c.values.ensures c.deref-in-Print.ensures.value c.in_ok-load-in-Print.ensures in
    let back = written_back c.args.self.now.loops.len c.write_to.new.loops c.args.self.now.loops.items c.args.self.now.loops.ok.0 (c.write_to.auto.loops ∙ ap (λ (xs : List ℤ). length xs) c.deref_mut.ensures.value) in
    let written = back ∙ c.write_to.ensures ∙ ap (λ (xs : List ℤ). with_rounds xs (rounds_of path)) c.deref_mut.ensures.value in
    let memory = c.args.self.now.memory.items in
    let output = c.args.self.now.output.bytes in
    let loops = loops_in tree (rounds_of path) in
    let gave = loaded_at tree loops placed.what memory in
    let inside = with_rounds c.args.self.now.loops.items (rounds_of path) in
    let by_number = c.deref-in-Print-2.ensures.value ∙ written in
    let given = c.deref-in-Print-4.ensures.value ∙ loaded in
    let text = ap (λ xs. items_text tree xs (map printed_of c.deref-in-Print-5.result.now) c.deref-in-Print-4.result.now) by_number ∙ ap (λ xs. items_text tree inside (map printed_of xs) c.deref-in-Print-4.result.now) c.deref-in-Print-5.ensures.value
    ∙ ap (items_text tree inside items) given ∙ texts_same tree (rounds_of path) placed.numbered c.args.self.now.loops.items c.requires.ready.loops items gave good in
    let whole = ap (λ t. output ++ (t ++ 10 ∷ [])) text ∙ ap (λ x. output ++ printed_text tree loops x gave) (sym what) in
    on_ok_weaker c.push_line.result
    (λ said w is. subst (λ x. c.push_line.new.self.bytes ≡ output ++ printed_behind tree loops x memory) (sym (same_work w placed.what (sym is ∙ placed.is))) (said ∙ whole)) c.push_line.ensures.line

pub assign-requires-clause-statement : goal.assign-requires-clause-statement
assign-requires-clause-statement c = (_, ap statement_of c.in-Assign.is)
