use Rattle.std.proofs.Common.{◌≡◌, ◌+◌, ◌-◌, ◌++◌, ◌≤◌, ℤ, true, nat_le, nat_lt, IsTrue, List, Vec, Global, length, map, set, take, append-nil, w64, FitsSigned, to_z, of_z, refl, ap, sym, ◌∙◌, subst, rules, arith}
use Rattle.std.specs.List.{AllZip, fold, list_all}
use Rattle.std.specs.Option.{option_to_list}
use Rattle.std.specs.Vec.{with_items}
use Rattle.std.proofs.lemmas.Bool.{and_parts, leb-true}
use Rattle.std.proofs.lemmas.Int.{to_z-of_z}
use Rattle.std.proofs.lemmas.List.{length-set, length-take, length-take-le}
use Rattle.std.proofs.lemmas.Slice.Zip.{AllZip-long}
use Rattle.nest_tree.specs.Loads.{loads_in}
use Rattle.nest_tree.specs.Tree.{assign, work, Work}
use Rattle.nest_tree.specs.View.{statement_of, tree_of}
use Rattle.nest_tree.specs.WellFormed.{is_number_of, loops_of}
use Rattle.nest_tree.proofs.Rows.{same_work}
use Rattle.nest_model.specs.Memory.{cell_value, memory_after, output_from}
use Rattle.nest_model.specs.Ranges.{is_instance_inside}
use Rattle.nest_walk.specs.ByNumber.{with_rounds}
use Rattle.nest_walk.specs.Cursors.{loops_in}
use Rattle.nest_walk.specs.Paths.{Round}
use Rattle.nest_walk.specs.Places.{numbers_of}
use Rattle.nest_walk.specs.RoundsOf.{rounds_of}
use Rattle.nest_walk.specs.Strips.{at_value, strip_left, strip_rounds, strip_tree}
use Rattle.nest_walk.specs.Tables.{ArePlacedCells, entries}
use Rattle.nest_walk.specs.declared.cursor.Stop.{Stop}
use Rattle.nest_walk.specs.declared.table.LoadCells.{LoadCells}
use Rattle.nest_walk.proofs.ByNumberLists.{with_rounds-length}
use Rattle.nest_walk.proofs.PlacedWorks.{reached_numbered}
use Rattle.nest_walk.proofs.Strips.{again_at}
use Rattle.flat_code.specs.CodeTables.{HasCode, codes_of, most_registers}
use Rattle.flat_code.specs.Lines.{IsLineOf, IsLoadLine, cell_on}
use Rattle.flat_code.specs.declared.lines.Line.{Line}
use Rattle.seq_meaning.specs.Executions.{loaded_at, memory_behind}
use Rattle.seq_meaning.proofs.RunInstances.{assigned_quiet, memory_rest, memory_step, output_rest, output_step}
use Rattle.seq_meaning.proofs.RunSteps.{assign_here, code_room, numbered_more, placed-valued, written_back}
use Rattle.seq_meaning.proofs.TextAssigns.{plain_assign, text-code, text-high, text-loads, text-low, text-store}
use Rattle.seq_meaning.proofs.Trips.{strip_text, trip_loaded, trip_placed, trip_store, trip_store_within, trip_within}
use Rattle.seq_meaning.proofs.Written.{innermost, innermost_at, innermost_is, innermost_numbered, written_again}
use Rattle.seq_meaning.proofs.run.Run.repeat.Goals as goal

pub work-cells-requires-clause-high : goal.work-cells-requires-clause-high
work-cells-requires-clause-high c =
    let self = c.args.self.now in
    let tree = tree_of self.program.now in
    let strip = c.args.strip in
    let stop = c.stop-stop.result in
    let around = numbers_of (strip_rounds strip) in
    let plain = plain_assign (statement_of strip.stop.item.now) strip.plain in
    let a = plain.0 in
    let text = strip_text tree strip stop a c.requires.walked c.stop-stop.ensures plain.1 in
    text-high tree around stop.first a text (ArePlacedCells tree) (entries self.table) c.requires.ready.table

pub unreachable-requires : goal.unreachable-requires
unreachable-requires c =
    let self = c.args.self.now in
    let tree = tree_of self.program.now in
    let strip = c.args.strip in
    let stop = c.stop-stop.result in
    let around = numbers_of (strip_rounds strip) in
    let plain = plain_assign (statement_of strip.stop.item.now) strip.plain in
    let a = plain.0 in
    let text = strip_text tree strip stop a c.requires.walked c.stop-stop.ensures plain.1 in
    text-store tree around stop.first a text self.table c.work-cells.result.now c.requires.ready.table c.work-cells.ensures (ap option_to_list c.in_default.is)

pub work-code-requires-clause-low : goal.work-code-requires-clause-low
work-code-requires-clause-low c =
    let self = c.args.self.now in
    let tree = tree_of self.program.now in
    let strip = c.args.strip in
    let stop = c.stop-stop.result in
    let around = numbers_of (strip_rounds strip) in
    let plain = plain_assign (statement_of strip.stop.item.now) strip.plain in
    let a = plain.0 in
    let text = strip_text tree strip stop a c.requires.walked c.stop-stop.ensures plain.1 in
    text-low tree around stop.first a text HasCode (codes_of self.codes) c.requires.ready.codes.each

pub work-code-requires-clause-high : goal.work-code-requires-clause-high
work-code-requires-clause-high c =
    let self = c.args.self.now in
    let tree = tree_of self.program.now in
    let strip = c.args.strip in
    let stop = c.stop-stop.result in
    let around = numbers_of (strip_rounds strip) in
    let plain = plain_assign (statement_of strip.stop.item.now) strip.plain in
    let a = plain.0 in
    let text = strip_text tree strip stop a c.requires.walked c.stop-stop.ensures plain.1 in
    text-high tree around stop.first a text HasCode (codes_of self.codes) c.requires.ready.codes.each

pub lay_lines-requires-clause-room : goal.lay_lines-requires-clause-room
lay_lines-requires-clause-room c =
    let self = c.args.self.now in
    let tree = tree_of self.program.now in
    let strip = c.args.strip in
    let stop = c.stop-stop.result in
    let around = numbers_of (strip_rounds strip) in
    let plain = plain_assign (statement_of strip.stop.item.now) strip.plain in
    let a = plain.0 in
    let text = strip_text tree strip stop a c.requires.walked c.stop-stop.ensures plain.1 in
    let code = c.work-code.result.now in
    let coded = text-code tree around stop.first a text self.codes code c.requires.ready.codes c.work-code.ensures in
    let enough : code.loads + length code.steps.items ≤ most_registers self.codes = code_room tree self.codes code (stop.first - 1) c.requires.ready.codes c.work-code.ensures in
    let cells = c.work-cells.result.now in
    let many = text-loads tree around stop.first a text self.table cells c.requires.ready.table c.work-cells.ensures in
    let listed = ap (λ (ls : List LoadCells). length ls) c.deref.ensures.value in
    let lent = ap (λ (ls : List Line). length ls) c.deref_mut.ensures.value in
    omega (arith, many, listed, lent, coded.loads, enough, c.requires.ready.lines)

pub slice_bounds-lines-end : goal.slice_bounds-lines-end
slice_bounds-lines-end c =
    let self = c.args.self.now in
    let tree = tree_of self.program.now in
    let strip = c.args.strip in
    let stop = c.stop-stop.result in
    let around = numbers_of (strip_rounds strip) in
    let plain = plain_assign (statement_of strip.stop.item.now) strip.plain in
    let a = plain.0 in
    let text = strip_text tree strip stop a c.requires.walked c.stop-stop.ensures plain.1 in
    let code = c.work-code.result.now in
    let coded = text-code tree around stop.first a text self.codes code c.requires.ready.codes c.work-code.ensures in
    let enough : code.loads + length code.steps.items ≤ most_registers self.codes = code_room tree self.codes code (stop.first - 1) c.requires.ready.codes c.work-code.ensures in
    let cells = c.work-cells.result.now in
    let many = text-loads tree around stop.first a text self.table cells c.requires.ready.table c.work-cells.ensures in
    let listed = ap (λ (ls : List LoadCells). length ls) c.deref.ensures.value in
    let lent = ap (λ (ls : List Line). length ls) c.deref_mut.ensures.value in
    let back = written_back self.lines.len c.lay_lines.new.lines self.lines.items self.lines.ok.0 (c.lay_lines.ensures.room ∙ lent) in
    let rows : c.deref-2.result.now ≡ c.lay_lines.new.lines = c.deref-2.ensures.value ∙ back in
    let count = ap (λ (ls : List Line). length ls) rows ∙ c.lay_lines.ensures.room ∙ lent in
    sym (length-take-le c.len.result c.deref-2.result.now (omega (arith, many, coded.loads, enough, c.requires.ready.lines, count, c.len.ensures)))

pub write_to-requires : goal.write_to-requires
write_to-requires c =
    let tree = tree_of c.args.self.now.program.now in
    let strip = c.args.strip in
    let all = subst (λ t. IsTrue (list_all (λ (r : Round). is_number_of (loops_of t.items) r.number) (strip_rounds strip))) c.requires.walked (reached_numbered (strip_tree strip) (strip_rounds strip) strip.stop strip.reached) in
    let more = numbered_more (loops_of tree.items) (length c.args.self.now.loops.items) (strip_rounds strip) c.requires.ready.loops all in
    subst (λ rs. IsTrue (list_all (λ (r : Round). is_number_of (length c.deref_mut-2.result.now) r.number) rs)) (sym c.path-path.ensures)
    (subst (λ (xs : List ℤ). IsTrue (list_all (λ (r : Round). is_number_of (length xs) r.number) (strip_rounds strip))) (sym c.deref_mut-2.ensures.value) more)

pub loop-value-init : goal.loop-value-init
loop-value-init c =
    let self = c.args.self.now in
    let long = c.write_to.auto.loops ∙ ap (λ (xs : List ℤ). length xs) c.deref_mut-2.ensures.value in
    let back = written_back self.loops.len c.write_to.new.loops self.loops.items self.loops.ok.0 long in
    record {
      params = refl;
      room = c.requires.ready.registers;
      cells = c.requires.ready.memory;
      walked = c.requires.walked;
      stop = refl;
      loop_at = refl;
      line = λ v. refl;
      written = back ∙ c.write_to.ensures ∙ ap (λ xs. with_rounds xs (rounds_of c.path-path.result.now)) c.deref_mut-2.ensures.value ∙ ap (with_rounds self.loops.items) c.path-path.ensures;
      inside = c.requires.inside;
      memory = refl;
      output = refl;
    }

pub index_mut-requires : goal.index_mut-requires
index_mut-requires c =
    let self = c.args.self.now in
    let tree = tree_of self.program.now in
    let strip = c.args.strip in
    let rounds = strip_rounds strip in
    let inv = c.loop-value.invariant in
    let loops = c.loop-value.self.1.1.1.1.1.0 in
    let all = subst (λ t. IsTrue (list_all (λ (r : Round). is_number_of (loops_of t.items) r.number) (strip_rounds strip))) c.requires.walked (reached_numbered (strip_tree strip) (strip_rounds strip) strip.stop strip.reached) in
    let n = innermost_is rounds c.number.result strip.inside c.number.ensures in
    let number = and_parts (nat_le 1 (innermost rounds)) (nat_le (innermost rounds) (loops_of tree.items)) (innermost_numbered (loops_of tree.items) rounds strip.inside all) in
    let low = leb-true 1 (innermost rounds) number.0 in
    let high = leb-true (innermost rounds) (loops_of tree.items) number.1 in
    let long = ap (λ (xs : List ℤ). length xs) inv.written ∙ with_rounds-length self.loops.items (strip_rounds c.loop-value.left) in
    omega (arith, n, low, high, long, c.requires.ready.loops, loops.ok.0)

pub load_lines-requires-clause-there : goal.load_lines-requires-clause-there
load_lines-requires-clause-there c =
    let self = c.args.self.now in
    let tree = tree_of self.program.now in
    let strip = c.args.strip in
    let stop = c.stop-stop.result in
    let around = numbers_of (strip_rounds strip) in
    let plain = plain_assign (statement_of strip.stop.item.now) strip.plain in
    let a = plain.0 in
    let text = strip_text tree strip stop a c.requires.walked c.stop-stop.ensures plain.1 in
    let code = c.work-code.result.now in
    let coded = text-code tree around stop.first a text self.codes code c.requires.ready.codes c.work-code.ensures in
    let cells = c.work-cells.result.now in
    let many = text-loads tree around stop.first a text self.table cells c.requires.ready.table c.work-cells.ensures in
    let listed = ap (λ (ls : List LoadCells). length ls) c.deref.ensures.value in
    let lent = ap (λ (ls : List Line). length ls) c.deref_mut.ensures.value in
    let back = written_back self.lines.len c.lay_lines.new.lines self.lines.items self.lines.ok.0 (c.lay_lines.ensures.room ∙ lent) in
    let rows : c.deref-2.result.now ≡ c.lay_lines.new.lines = c.deref-2.ensures.value ∙ back in
    let inv = c.loop-value.invariant in
    let next = c.in-Some-next.ensures in
    let new = c.next.new.self in
    let i = next.instance.0 in
    let old = strip_rounds c.loop-value.left in
    let v = to_z w64 (of_z w64 c.in-Some-next.value) in
    let fits : FitsSigned w64 c.in-Some-next.value = search rules in
    let walked = next.program ∙ inv.walked in
    let same = c.stop-stop.ensures ∙ sym inv.stop ∙ sym next.stop in
    let s = statement_of stop.item.now in
    let placed = trip_placed tree new stop i (strip_left c.loop-value.left) walked same next.instance.1 next.instance.2 inv.inside in
    let is = ap (λ (x : Stop). statement_of x.item.now) c.stop-stop.ensures ∙ plain.1 in
    let what = same_work placed.what (assign a) (sym placed.is ∙ is) in
    let round = next.round ∙ ap (at_value old) (sym (to_z-of_z w64 c.in-Some-next.value fits)) in
    let here = sym (inv.line v) ∙ sym round in
    let rounds = strip_rounds strip in
    let memory = c.loop-value.self.1.1.1.1.1.1.1.1.1.0 in
    let lines = take c.len.result c.deref-2.result.now in
    let laid0 = subst (λ rs. AllZip (λ l m. IsLoadLine l rs m) c.deref.result.now (take (length c.deref.result.now) c.lay_lines.new.lines)) c.path-path.ensures c.lay_lines.ensures.laid in
    let laid1 = subst (λ (ls : List LoadCells). AllZip (λ l m. IsLoadLine l rounds m) ls (take (length ls) c.lay_lines.new.lines)) c.deref.ensures.value laid0 in
    let laid2 = subst (λ n. AllZip (λ l m. IsLoadLine l rounds m) cells.loads.items (take n c.lay_lines.new.lines)) (sym (c.len.ensures ∙ cells.loads.ok.0)) laid1 in
    let laid = subst (λ (ls : List Line). AllZip (λ l m. IsLoadLine l rounds m) cells.loads.items (take c.len.result ls)) (sym rows) laid2 in
    let within = trip_within tree new.path stop.first s placed rounds v here self.table cells c.requires.ready.table c.work-cells.ensures memory.items inv.cells a what lines laid in
    subst (λ (m : List ℤ). list_all (λ (l : Line). nat_lt (cell_on l v) (length m)) lines ≡ true) (sym c.deref-in-Some-next.ensures.value) within

pub load_lines-requires-clause-room : goal.load_lines-requires-clause-room
load_lines-requires-clause-room c =
    let self = c.args.self.now in
    let tree = tree_of self.program.now in
    let strip = c.args.strip in
    let stop = c.stop-stop.result in
    let around = numbers_of (strip_rounds strip) in
    let plain = plain_assign (statement_of strip.stop.item.now) strip.plain in
    let a = plain.0 in
    let text = strip_text tree strip stop a c.requires.walked c.stop-stop.ensures plain.1 in
    let code = c.work-code.result.now in
    let coded = text-code tree around stop.first a text self.codes code c.requires.ready.codes c.work-code.ensures in
    let enough : code.loads + length code.steps.items ≤ most_registers self.codes = code_room tree self.codes code (stop.first - 1) c.requires.ready.codes c.work-code.ensures in
    let cells = c.work-cells.result.now in
    let many = text-loads tree around stop.first a text self.table cells c.requires.ready.table c.work-cells.ensures in
    let listed = ap (λ (ls : List LoadCells). length ls) c.deref.ensures.value in
    let inv = c.loop-value.invariant in
    let lent = ap (λ (xs : List ℤ). length xs) c.deref_mut-in-Some-next.ensures.value in
    omega (arith, many, coded.loads, enough, inv.room, lent, c.len.ensures, length-take c.len.result c.deref-2.result.now)

pub run_code-result-requires-clause-room : goal.run_code-result-requires-clause-room
run_code-result-requires-clause-room c =
    let self = c.args.self.now in
    let tree = tree_of self.program.now in
    let strip = c.args.strip in
    let stop = c.stop-stop.result in
    let around = numbers_of (strip_rounds strip) in
    let plain = plain_assign (statement_of strip.stop.item.now) strip.plain in
    let a = plain.0 in
    let text = strip_text tree strip stop a c.requires.walked c.stop-stop.ensures plain.1 in
    let code = c.work-code.result.now in
    let coded = text-code tree around stop.first a text self.codes code c.requires.ready.codes c.work-code.ensures in
    let enough : code.loads + length code.steps.items ≤ most_registers self.codes = code_room tree self.codes code (stop.first - 1) c.requires.ready.codes c.work-code.ensures in
    let registers = c.loop-value.self.1.1.1.1.1.1.1.0 in
    let long = c.load_lines.ensures.room ∙ ap (λ (xs : List ℤ). length xs) c.deref_mut-in-Some-next.ensures.value in
    let back2 = written_back registers.len c.load_lines.new.registers registers.items registers.ok.0 long in
    let given : c.deref_mut-in-Some-next-2.result.now ≡ c.load_lines.new.registers = c.deref_mut-in-Some-next-2.ensures.value ∙ back2 in
    let now = ap (λ (xs : List ℤ). length xs) given in
    omega (arith, enough, now, long, c.loop-value.invariant.room)

pub run_code-result-requires-clause-inside : goal.run_code-result-requires-clause-inside
run_code-result-requires-clause-inside c =
    let self = c.args.self.now in
    let tree = tree_of self.program.now in
    let strip = c.args.strip in
    let stop = c.stop-stop.result in
    let around = numbers_of (strip_rounds strip) in
    let plain = plain_assign (statement_of strip.stop.item.now) strip.plain in
    let a = plain.0 in
    let text = strip_text tree strip stop a c.requires.walked c.stop-stop.ensures plain.1 in
    let code = c.work-code.result.now in
    let coded = text-code tree around stop.first a text self.codes code c.requires.ready.codes c.work-code.ensures in
    coded.inside

pub run_code-result-requires-clause-good : goal.run_code-result-requires-clause-good
run_code-result-requires-clause-good c =
    let self = c.args.self.now in
    let tree = tree_of self.program.now in
    let strip = c.args.strip in
    let stop = c.stop-stop.result in
    let around = numbers_of (strip_rounds strip) in
    let plain = plain_assign (statement_of strip.stop.item.now) strip.plain in
    let a = plain.0 in
    let text = strip_text tree strip stop a c.requires.walked c.stop-stop.ensures plain.1 in
    let code = c.work-code.result.now in
    let coded = text-code tree around stop.first a text self.codes code c.requires.ready.codes c.work-code.ensures in
    let inv = c.loop-value.invariant in
    let next = c.in-Some-next.ensures in
    let new = c.next.new.self in
    let i = next.instance.0 in
    let old = strip_rounds c.loop-value.left in
    let v = to_z w64 (of_z w64 c.in-Some-next.value) in
    let fits : FitsSigned w64 c.in-Some-next.value = search rules in
    let walked = next.program ∙ inv.walked in
    let same = c.stop-stop.ensures ∙ sym inv.stop ∙ sym next.stop in
    let s = statement_of stop.item.now in
    let placed = trip_placed tree new stop i (strip_left c.loop-value.left) walked same next.instance.1 next.instance.2 inv.inside in
    let is = ap (λ (x : Stop). statement_of x.item.now) c.stop-stop.ensures ∙ plain.1 in
    let what = same_work placed.what (assign a) (sym placed.is ∙ is) in
    let round = next.round ∙ ap (at_value old) (sym (to_z-of_z w64 c.in-Some-next.value fits)) in
    let here = sym (inv.line v) ∙ sym round in
    let rounds = strip_rounds strip in
    let memory = c.loop-value.self.1.1.1.1.1.1.1.1.1.0 in
    let before = c.loop-value.self.1.1.1.1.1.0 in
    let n = innermost_is rounds c.number.result strip.inside c.number.ensures ∙ sym inv.loop_at in
    let loops = ap (λ k. set before.items (k - 1) v) n ∙ ap (λ xs. set xs (innermost old - 1) v) inv.written ∙ written_again self.loops.items old v c.loop-value.left.inside ∙ sym (ap (with_rounds self.loops.items) round) in
    let params = c.deref-in-Some-next-3.ensures.value ∙ ap (λ (p : Vec ℤ Global). p.items) inv.params ∙ c.requires.ready.params in
    coded.good _ _ (placed-valued tree new.path stop.first s placed c.args.self.now.program.now.formed a what self.loops.items c.deref-in-Some-next-2.result.now c.deref-in-Some-next-3.result.now c.requires.ready.loops (c.deref-in-Some-next-2.ensures.value ∙ loops) params)

pub index_mut-requires-in-Some-next : goal.index_mut-requires-in-Some-next
index_mut-requires-in-Some-next c =
    let self = c.args.self.now in
    let tree = tree_of self.program.now in
    let strip = c.args.strip in
    let stop = c.stop-stop.result in
    let around = numbers_of (strip_rounds strip) in
    let plain = plain_assign (statement_of strip.stop.item.now) strip.plain in
    let a = plain.0 in
    let text = strip_text tree strip stop a c.requires.walked c.stop-stop.ensures plain.1 in
    let cells = c.work-cells.result.now in
    let inv = c.loop-value.invariant in
    let next = c.in-Some-next.ensures in
    let new = c.next.new.self in
    let i = next.instance.0 in
    let old = strip_rounds c.loop-value.left in
    let v = to_z w64 (of_z w64 c.in-Some-next.value) in
    let fits : FitsSigned w64 c.in-Some-next.value = search rules in
    let walked = next.program ∙ inv.walked in
    let same = c.stop-stop.ensures ∙ sym inv.stop ∙ sym next.stop in
    let s = statement_of stop.item.now in
    let placed = trip_placed tree new stop i (strip_left c.loop-value.left) walked same next.instance.1 next.instance.2 inv.inside in
    let is = ap (λ (x : Stop). statement_of x.item.now) c.stop-stop.ensures ∙ plain.1 in
    let what = same_work placed.what (assign a) (sym placed.is ∙ is) in
    let round = next.round ∙ ap (at_value old) (sym (to_z-of_z w64 c.in-Some-next.value fits)) in
    let here = sym (inv.line v) ∙ sym round in
    let rounds = strip_rounds strip in
    let memory = c.loop-value.self.1.1.1.1.1.1.1.1.1.0 in
    let lined = subst (λ rs. IsLineOf c.in-Some.form rs c.line_of-store.result) c.path-path.ensures c.line_of-store.ensures in
    let within = trip_store_within tree new.path stop.first s placed rounds v here self.table cells c.requires.ready.table c.work-cells.ensures memory.items inv.cells c.in-Some.form c.line_of-store.result c.in-Some.is lined in
    omega (arith, within, c.at.ensures, memory.ok.0)

pub loop-value-preserved : goal.loop-value-preserved
loop-value-preserved c =
    let self = c.args.self.now in
    let tree = tree_of self.program.now in
    let strip = c.args.strip in
    let stop = c.stop-stop.result in
    let around = numbers_of (strip_rounds strip) in
    let plain = plain_assign (statement_of strip.stop.item.now) strip.plain in
    let a = plain.0 in
    let text = strip_text tree strip stop a c.requires.walked c.stop-stop.ensures plain.1 in
    let code = c.work-code.result.now in
    let coded = text-code tree around stop.first a text self.codes code c.requires.ready.codes c.work-code.ensures in
    let enough : code.loads + length code.steps.items ≤ most_registers self.codes = code_room tree self.codes code (stop.first - 1) c.requires.ready.codes c.work-code.ensures in
    let cells = c.work-cells.result.now in
    let many = text-loads tree around stop.first a text self.table cells c.requires.ready.table c.work-cells.ensures in
    let listed = ap (λ (ls : List LoadCells). length ls) c.deref.ensures.value in
    let lent = ap (λ (ls : List Line). length ls) c.deref_mut.ensures.value in
    let back = written_back self.lines.len c.lay_lines.new.lines self.lines.items self.lines.ok.0 (c.lay_lines.ensures.room ∙ lent) in
    let rows : c.deref-2.result.now ≡ c.lay_lines.new.lines = c.deref-2.ensures.value ∙ back in
    let inv = c.loop-value.invariant in
    let next = c.in-Some-next.ensures in
    let new = c.next.new.self in
    let i = next.instance.0 in
    let old = strip_rounds c.loop-value.left in
    let v = to_z w64 (of_z w64 c.in-Some-next.value) in
    let fits : FitsSigned w64 c.in-Some-next.value = search rules in
    let walked = next.program ∙ inv.walked in
    let same = c.stop-stop.ensures ∙ sym inv.stop ∙ sym next.stop in
    let s = statement_of stop.item.now in
    let placed = trip_placed tree new stop i (strip_left c.loop-value.left) walked same next.instance.1 next.instance.2 inv.inside in
    let is = ap (λ (x : Stop). statement_of x.item.now) c.stop-stop.ensures ∙ plain.1 in
    let what = same_work placed.what (assign a) (sym placed.is ∙ is) in
    let round = next.round ∙ ap (at_value old) (sym (to_z-of_z w64 c.in-Some-next.value fits)) in
    let here = sym (inv.line v) ∙ sym round in
    let rounds = strip_rounds strip in
    let memory = c.loop-value.self.1.1.1.1.1.1.1.1.1.0 in
    let lines = take c.len.result c.deref-2.result.now in
    let laid0 = subst (λ rs. AllZip (λ l m. IsLoadLine l rs m) c.deref.result.now (take (length c.deref.result.now) c.lay_lines.new.lines)) c.path-path.ensures c.lay_lines.ensures.laid in
    let laid1 = subst (λ (ls : List LoadCells). AllZip (λ l m. IsLoadLine l rounds m) ls (take (length ls) c.lay_lines.new.lines)) c.deref.ensures.value laid0 in
    let laid2 = subst (λ n. AllZip (λ l m. IsLoadLine l rounds m) cells.loads.items (take n c.lay_lines.new.lines)) (sym (c.len.ensures ∙ cells.loads.ok.0)) laid1 in
    let laid = subst (λ (ls : List Line). AllZip (λ l m. IsLoadLine l rounds m) cells.loads.items (take c.len.result ls)) (sym rows) laid2 in
    let before = c.loop-value.self.1.1.1.1.1.0 in
    let n = innermost_is rounds c.number.result strip.inside c.number.ensures ∙ sym inv.loop_at in
    let loops = ap (λ k. set before.items (k - 1) v) n ∙ ap (λ xs. set xs (innermost old - 1) v) inv.written ∙ written_again self.loops.items old v c.loop-value.left.inside ∙ sym (ap (with_rounds self.loops.items) round) in
    let registers = c.loop-value.self.1.1.1.1.1.1.1.0 in
    let long = c.load_lines.ensures.room ∙ ap (λ (xs : List ℤ). length xs) c.deref_mut-in-Some-next.ensures.value in
    let back2 = written_back registers.len c.load_lines.new.registers registers.items registers.ok.0 long in
    let given : c.deref_mut-in-Some-next-2.result.now ≡ c.load_lines.new.registers = c.deref_mut-in-Some-next-2.ensures.value ∙ back2 in
    let result = to_z w64 (of_z w64 c.run_code-result.result) in
    let resulted : FitsSigned w64 c.run_code-result.result = search rules in
    let params = c.deref-in-Some-next-3.ensures.value ∙ ap (λ (p : Vec ℤ Global). p.items) inv.params ∙ c.requires.ready.params in
    let count : length lines ≡ length (loads_in a.value) =
    AllZip-long (λ l m. IsLoadLine l rounds m) cells.loads.items lines laid ∙ sym many in
    let loaded : take (length (loads_in a.value)) c.deref_mut-in-Some-next-2.result.now ≡ loaded_at tree (loops_in tree (rounds_of new.path)) (assign a) memory.items =
    ap (λ n. take n c.deref_mut-in-Some-next-2.result.now) (sym count) ∙ ap (take (length lines)) given ∙ c.load_lines.ensures.loaded
    ∙ ap (λ (m : List ℤ). map (λ (l : Line). cell_value m (cell_on l v)) lines) c.deref-in-Some-next.ensures.value
    ∙ trip_loaded tree new.path stop.first s placed rounds v here self.table cells c.requires.ready.table c.work-cells.ensures memory.items inv.cells a what lines laid in
    let value = assign_here tree new.path stop.first s placed c.args.self.now.program.now.formed a what code coded self.loops.items c.deref-in-Some-next-2.result.now c.deref-in-Some-next-3.result.now c.deref_mut-in-Some-next-2.result.now memory.items result
    c.requires.ready.loops (c.deref-in-Some-next-2.ensures.value ∙ loops) params loaded (to_z-of_z w64 c.run_code-result.result resulted ∙ c.run_code-result.ensures.value a.value coded) in
    let lined = subst (λ rs. IsLineOf c.in-Some.form rs c.line_of-store.result) c.path-path.ensures c.line_of-store.ensures in
    let after = set memory.items c.at.result result in
    let stored = ap (λ k. set memory.items k result) c.at.ensures
    ∙ trip_store tree new.path stop.first s placed rounds v here self.table cells c.requires.ready.table c.work-cells.ensures memory.items inv.cells c.in-Some.form c.line_of-store.result result c.in-Some.is lined value in
    let behind = λ (w : Work) (w_is : s ≡ work w). subst (λ x. after ≡ memory_behind tree (loops_in tree (rounds_of new.path)) x memory.items) (same_work placed.what w (sym placed.is ∙ w_is)) stored in
    let path = rounds_of new.path in
    let statement = ap (λ (x : Stop). statement_of x.item.now) same in
    let step = memory_step tree (strip_tree new) tree path path new.stop.first (statement_of new.stop.item.now) i memory.items after walked refl refl next.instance.1 (λ w w_is. behind w (statement ∙ w_is)) in
    let bytes = self.output.bytes in
    let quiet = assigned_quiet tree path (statement_of new.stop.item.now) a bytes bytes memory.items (sym statement ∙ is) refl in
    let line = output_step tree (strip_tree new) tree path path new.stop.first (statement_of new.stop.item.now) i memory.items bytes bytes walked refl refl next.instance.1 quiet in
    let insides = and_parts (is_instance_inside tree i) (list_all (is_instance_inside tree) (strip_left new)) (sym (ap (list_all (is_instance_inside tree)) next.instance.2) ∙ inv.inside) in
    let kept = (with_items (with_items registers c.load_lines.new.registers) c.run_code-result.new.registers).ok.0 in
    record {
      params = inv.params;
      room = omega (arith, inv.room, registers.ok.0, kept);
      cells = length-set memory.items c.at.result result ∙ inv.cells;
      walked = walked;
      stop = next.stop ∙ inv.stop;
      loop_at = ap innermost next.round ∙ innermost_at old c.in-Some-next.value ∙ inv.loop_at;
      line = λ w. ap (λ rs. at_value rs w) next.round ∙ again_at old c.in-Some-next.value w ∙ inv.line w;
      written = loops;
      inside = insides.1;
      memory = memory_rest tree memory.items after _ (strip_left c.loop-value.left) (strip_left new) i next.instance.2 step inv.memory;
      output = output_rest tree memory.items after bytes bytes _ (strip_left c.loop-value.left) (strip_left new) i next.instance.2 step line inv.output;
    }

pub returns-clause-ready : goal.returns-clause-ready
returns-clause-ready c =
    let ready = c.requires.ready in
    let inv = c.loop-value.invariant in
    let self = c.args.self.now in
    let kept = (with_items self.lines c.lay_lines.new.lines).ok.0 in
    let long = ap (λ (xs : List ℤ). length xs) inv.written ∙ with_rounds-length self.loops.items (strip_rounds c.loop-value.left) in
    record {
      table = ready.table;
      params = ap (λ (p : Vec ℤ Global). p.items) inv.params ∙ ready.params;
      codes = ready.codes;
      loops = omega (arith, ready.loops, long);
      lines = omega (arith, ready.lines, self.lines.ok.0, kept);
      registers = inv.room;
      memory = inv.cells;
    }

pub returns-clause-memory : goal.returns-clause-memory
returns-clause-memory c =
    let tree = tree_of c.args.self.now.program.now in
    let inv = c.loop-value.invariant in
    let memory = c.loop-value.self.1.1.1.1.1.1.1.1.1.0 in
    sym (ap (fold (memory_after tree) memory.items) c.in_default-next.ensures.instance) ∙ inv.memory

pub returns-clause-output : goal.returns-clause-output
returns-clause-output c =
    let tree = tree_of c.args.self.now.program.now in
    let inv = c.loop-value.invariant in
    let memory = c.loop-value.self.1.1.1.1.1.1.1.1.1.0 in
    let bytes = c.args.self.now.output.bytes in
    sym (append-nil bytes) ∙ sym (ap (λ xs. bytes ++ output_from tree memory.items xs) c.in_default-next.ensures.instance) ∙ inv.output
