use Rattle.std.proofs.Common.{◌≡◌, ◌+◌, ◌-◌, ◌++◌, ◌≤◌, ℤ, nat_le, IsTrue, List, ◌∷◌, length, set, take, w64, FitsSigned, to_z, of_z, refl, ap, sym, ◌∙◌, subst, rules, arith}
use Rattle.std.specs.List.{AllZip, flat_map, list_all}
use Rattle.std.specs.Option.{option_to_list}
use Rattle.std.specs.Vec.{with_items}
use Rattle.std.proofs.lemmas.Bool.{and_parts, leb-true}
use Rattle.std.proofs.lemmas.Int.{to_z-of_z}
use Rattle.std.proofs.lemmas.List.{length-take, length-take-le}
use Rattle.std.proofs.lemmas.Slice.Zip.{AllZip-long}
use Rattle.nest_tree.specs.Tree.{Tree, assign}
use Rattle.nest_tree.specs.View.{statement_of}
use Rattle.nest_tree.specs.WellFormed.{is_number_of, loops_of}
use Rattle.nest_tree.proofs.Rows.{same_work}
use Rattle.nest_model.specs.Memory.{assigned_value}
use Rattle.nest_model.specs.Ranges.{is_instance_inside}
use Rattle.nest_walk.specs.ByNumber.{with_rounds}
use Rattle.nest_walk.specs.Paths.{Round, by_depth}
use Rattle.nest_walk.specs.Places.{numbers_of}
use Rattle.nest_walk.specs.RoundsOf.{rounds_of}
use Rattle.nest_walk.specs.Strips.{at_value, strip_left, strip_rounds, strip_tree}
use Rattle.nest_walk.specs.Tables.{ArePlacedCells, entries}
use Rattle.nest_walk.specs.declared.cursor.Stop.{Stop}
use Rattle.nest_walk.specs.declared.table.LoadCells.{LoadCells}
use Rattle.nest_walk.proofs.ByNumberLists.{with_rounds-length}
use Rattle.nest_walk.proofs.PlacedWorks.{reached_numbered}
use Rattle.nest_walk.proofs.Strips.{again_at}
use Rattle.flat_code.specs.CodeTables.{HasCode, codes_of, most_registers}
use Rattle.flat_code.specs.Lines.{IsLineOf, IsLoadLine, cell_on}
use Rattle.flat_code.specs.declared.lines.Line.{Line}
use Rattle.seq_meaning.proofs.RunSteps.{code_room, numbered_more, written_back}
use Rattle.seq_meaning.proofs.TextAssigns.{plain_assign, text-code, text-high, text-loads, text-low, text-store}
use Rattle.seq_meaning.proofs.Trips.{strip_text}
use Rattle.seq_meaning.proofs.Written.{innermost, innermost_at, innermost_is, innermost_numbered, written_again}
use Rattle.spmd_model.specs.Deeds.{instance_deeds, storing}
use Rattle.instance_runs.specs.Executors.{executor_tree}
use Rattle.instance_runs.proofs.StripDeeds.{trip_begins}
use Rattle.instance_runs.proofs.Wholes.{last_store, lines_first, lines_last, lines_small, placed, same_rest, store_small, store_valued, store_value}
use Rattle.instance_runs.proofs.execute.Executor.repeat.Goals as goal

pub work-cells-requires-clause-high : goal.work-cells-requires-clause-high
work-cells-requires-clause-high g c =
    let x = c.args.self.now in
    let tree = executor_tree x in
    let can = c.requires.can in
    let strip = c.args.strip in
    let stop = c.stop-stop.result in
    let around = numbers_of (strip_rounds strip) in
    let plain = plain_assign (statement_of strip.stop.item.now) strip.plain in
    let a = plain.0 in
    let text = strip_text tree strip stop a c.requires.walked c.stop-stop.ensures plain.1 in
    text-high tree around stop.first a text (ArePlacedCells tree) (entries x.table.now) can.table

pub unreachable-requires : goal.unreachable-requires
unreachable-requires g c =
    let x = c.args.self.now in
    let tree = executor_tree x in
    let can = c.requires.can in
    let strip = c.args.strip in
    let stop = c.stop-stop.result in
    let around = numbers_of (strip_rounds strip) in
    let plain = plain_assign (statement_of strip.stop.item.now) strip.plain in
    let a = plain.0 in
    let text = strip_text tree strip stop a c.requires.walked c.stop-stop.ensures plain.1 in
    text-store tree around stop.first a text x.table.now c.work-cells.result.now can.table c.work-cells.ensures (ap option_to_list c.in_default.is)

pub work-code-requires-clause-low : goal.work-code-requires-clause-low
work-code-requires-clause-low g c =
    let x = c.args.self.now in
    let tree = executor_tree x in
    let can = c.requires.can in
    let strip = c.args.strip in
    let stop = c.stop-stop.result in
    let around = numbers_of (strip_rounds strip) in
    let plain = plain_assign (statement_of strip.stop.item.now) strip.plain in
    let a = plain.0 in
    let text = strip_text tree strip stop a c.requires.walked c.stop-stop.ensures plain.1 in
    text-low tree around stop.first a text HasCode (codes_of x.codes) can.codes.each

pub work-code-requires-clause-high : goal.work-code-requires-clause-high
work-code-requires-clause-high g c =
    let x = c.args.self.now in
    let tree = executor_tree x in
    let can = c.requires.can in
    let strip = c.args.strip in
    let stop = c.stop-stop.result in
    let around = numbers_of (strip_rounds strip) in
    let plain = plain_assign (statement_of strip.stop.item.now) strip.plain in
    let a = plain.0 in
    let text = strip_text tree strip stop a c.requires.walked c.stop-stop.ensures plain.1 in
    text-high tree around stop.first a text HasCode (codes_of x.codes) can.codes.each

pub lay_lines-requires-clause-room : goal.lay_lines-requires-clause-room
lay_lines-requires-clause-room g c =
    let x = c.args.self.now in
    let tree = executor_tree x in
    let can = c.requires.can in
    let strip = c.args.strip in
    let stop = c.stop-stop.result in
    let around = numbers_of (strip_rounds strip) in
    let plain = plain_assign (statement_of strip.stop.item.now) strip.plain in
    let a = plain.0 in
    let text = strip_text tree strip stop a c.requires.walked c.stop-stop.ensures plain.1 in
    let code = c.work-code.result.now in
    let coded = text-code tree around stop.first a text x.codes code can.codes c.work-code.ensures in
    let enough : code.loads + length code.steps.items ≤ most_registers x.codes = code_room tree x.codes code (stop.first - 1) can.codes c.work-code.ensures in
    let cells = c.work-cells.result.now in
    let many = text-loads tree around stop.first a text x.table.now cells can.table c.work-cells.ensures in
    let listed = ap (λ (ls : List LoadCells). length ls) c.deref.ensures.value in
    let lent = ap (λ (ls : List Line). length ls) c.deref_mut.ensures.value in
    omega (arith, many, listed, lent, coded.loads, enough, can.lines)

pub slice_bounds-lines-end : goal.slice_bounds-lines-end
slice_bounds-lines-end g c =
    let x = c.args.self.now in
    let tree = executor_tree x in
    let can = c.requires.can in
    let strip = c.args.strip in
    let stop = c.stop-stop.result in
    let around = numbers_of (strip_rounds strip) in
    let plain = plain_assign (statement_of strip.stop.item.now) strip.plain in
    let a = plain.0 in
    let text = strip_text tree strip stop a c.requires.walked c.stop-stop.ensures plain.1 in
    let code = c.work-code.result.now in
    let coded = text-code tree around stop.first a text x.codes code can.codes c.work-code.ensures in
    let enough : code.loads + length code.steps.items ≤ most_registers x.codes = code_room tree x.codes code (stop.first - 1) can.codes c.work-code.ensures in
    let cells = c.work-cells.result.now in
    let many = text-loads tree around stop.first a text x.table.now cells can.table c.work-cells.ensures in
    let listed = ap (λ (ls : List LoadCells). length ls) c.deref.ensures.value in
    let lent = ap (λ (ls : List Line). length ls) c.deref_mut.ensures.value in
    let back = written_back x.lines.len c.lay_lines.new.lines x.lines.items x.lines.ok.0 (c.lay_lines.ensures.room ∙ lent) in
    let rows : c.deref-2.result.now ≡ c.lay_lines.new.lines = c.deref-2.ensures.value ∙ back in
    let count = ap (λ (ls : List Line). length ls) rows ∙ c.lay_lines.ensures.room ∙ lent in
    sym (length-take-le c.len.result c.deref-2.result.now (omega (arith, many, coded.loads, enough, can.lines, count, c.len.ensures)))

pub write_to-requires : goal.write_to-requires
write_to-requires g c =
    let tree = executor_tree c.args.self.now in
    let strip = c.args.strip in
    let all = subst (λ (t : Tree). IsTrue (list_all (λ (r : Round). is_number_of (loops_of t.items) r.number) (strip_rounds strip))) c.requires.walked (reached_numbered (strip_tree strip) (strip_rounds strip) strip.stop strip.reached) in
    let more = numbered_more (loops_of tree.items) (length c.args.self.now.loops.items) (strip_rounds strip) c.requires.can.loops all in
    subst (λ rs. IsTrue (list_all (λ (r : Round). is_number_of (length c.deref_mut-2.result.now) r.number) rs)) (sym c.path-path.ensures)
    (subst (λ (xs : List ℤ). IsTrue (list_all (λ (r : Round). is_number_of (length xs) r.number) (strip_rounds strip))) (sym c.deref_mut-2.ensures.value) more)

pub loop-value-init : goal.loop-value-init
loop-value-init g c =
    let x = c.args.self.now in
    let long = c.write_to.auto.loops ∙ ap (λ (xs : List ℤ). length xs) c.deref_mut-2.ensures.value in
    let back = written_back x.loops.len c.write_to.new.loops x.loops.items x.loops.ok.0 long in
    record {
      room = refl;
      walked = c.requires.walked;
      stop = refl;
      loop_at = refl;
      line = λ v. refl;
      written = back ∙ c.write_to.ensures ∙ ap (λ xs. with_rounds xs (rounds_of c.path-path.result.now)) c.deref_mut-2.ensures.value ∙ ap (with_rounds x.loops.items) c.path-path.ensures;
      inside = c.requires.inside;
      left = (c.requires.left.0, c.requires.left.1, c.requires.left.1);
      idle = c.requires.idle;
      printed = refl;
      kept = refl;
    }

pub index_mut-requires : goal.index_mut-requires
index_mut-requires g c =
    let x = c.args.self.now in
    let tree = executor_tree x in
    let strip = c.args.strip in
    let rounds = strip_rounds strip in
    let inv = c.loop-value.invariant in
    let loops = c.loop-value.self.1.1.1.1.1.0 in
    let all = subst (λ (t : Tree). IsTrue (list_all (λ (r : Round). is_number_of (loops_of t.items) r.number) (strip_rounds strip))) c.requires.walked (reached_numbered (strip_tree strip) (strip_rounds strip) strip.stop strip.reached) in
    let n = innermost_is rounds c.number.result strip.inside c.number.ensures in
    let number = and_parts (nat_le 1 (innermost rounds)) (nat_le (innermost rounds) (loops_of tree.items)) (innermost_numbered (loops_of tree.items) rounds strip.inside all) in
    let low = leb-true 1 (innermost rounds) number.0 in
    let high = leb-true (innermost rounds) (loops_of tree.items) number.1 in
    let long = ap (λ (xs : List ℤ). length xs) inv.written ∙ with_rounds-length x.loops.items (strip_rounds c.loop-value.trips) in
    omega (arith, n, low, high, long, c.requires.can.loops, loops.ok.0)

pub load_lines-requires-clause-within : goal.load_lines-requires-clause-within
load_lines-requires-clause-within g c =
    let x = c.args.self.now in
    let tree = executor_tree x in
    let can = c.requires.can in
    let strip = c.args.strip in
    let stop = c.stop-stop.result in
    let around = numbers_of (strip_rounds strip) in
    let plain = plain_assign (statement_of strip.stop.item.now) strip.plain in
    let a = plain.0 in
    let text = strip_text tree strip stop a c.requires.walked c.stop-stop.ensures plain.1 in
    let cells = c.work-cells.result.now in
    let many = text-loads tree around stop.first a text x.table.now cells can.table c.work-cells.ensures in
    let listed = ap (λ (ls : List LoadCells). length ls) c.deref.ensures.value in
    let lent = ap (λ (ls : List Line). length ls) c.deref_mut.ensures.value in
    let back = written_back x.lines.len c.lay_lines.new.lines x.lines.items x.lines.ok.0 (c.lay_lines.ensures.room ∙ lent) in
    let rows : c.deref-2.result.now ≡ c.lay_lines.new.lines = c.deref-2.ensures.value ∙ back in
    let rounds = strip_rounds strip in
    let lines = take c.len.result c.deref-2.result.now in
    let laid0 = subst (λ rs. AllZip (λ l m. IsLoadLine l rs m) c.deref.result.now (take (length c.deref.result.now) c.lay_lines.new.lines)) c.path-path.ensures c.lay_lines.ensures.laid in
    let laid1 = subst (λ (ls : List LoadCells). AllZip (λ l m. IsLoadLine l rounds m) ls (take (length ls) c.lay_lines.new.lines)) c.deref.ensures.value laid0 in
    let laid2 = subst (λ n. AllZip (λ l m. IsLoadLine l rounds m) cells.loads.items (take n c.lay_lines.new.lines)) (sym (c.len.ensures ∙ cells.loads.ok.0)) laid1 in
    let laid = subst (λ (ls : List Line). AllZip (λ l m. IsLoadLine l rounds m) cells.loads.items (take c.len.result ls)) (sym rows) laid2 in
    let inv = c.loop-value.invariant in
    let next = c.in-Some-next.ensures in
    let new = c.next.new.self in
    let i = next.instance.0 in
    let old = strip_rounds c.loop-value.trips in
    let v = to_z w64 (of_z w64 c.in-Some-next.value) in
    let fits : FitsSigned w64 c.in-Some-next.value = search rules in
    let walked = next.program ∙ inv.walked in
    let same = c.stop-stop.ensures ∙ sym inv.stop ∙ sym next.stop in
    let insides = and_parts (is_instance_inside tree i) (list_all (is_instance_inside tree) (strip_left new)) (sym (ap (list_all (is_instance_inside tree)) next.instance.2) ∙ inv.inside) in
    let now = g.D.Deeds.left c.loop-value.deeds in
    let (b, rest_is) = trip_begins tree tree (strip_tree new) (strip_rounds new) (rounds_of new.path) stop new.stop i (strip_left new) now inv.left.0 refl walked
    refl same next.instance.1 new.reached new.text insides.0
    (inv.left.1 ∙ ap (λ is. flat_map (instance_deeds tree) is ++ inv.left.0) next.instance.2) in
    let here = placed tree new.path stop now b in
    let is = ap (λ (y : Stop). statement_of y.item.now) c.stop-stop.ensures ∙ plain.1 in
    let what = same_work here.what (assign a) (sym here.is ∙ is) in
    let round = next.round ∙ ap (at_value old) (sym (to_z-of_z w64 c.in-Some-next.value fits)) in
    let at = sym (inv.line v) ∙ sym round in
    lines_small tree new.path stop now b can.formed x.table.now can.table cells c.work-cells.ensures a what rounds v at lines laid can.limits

pub load_lines-requires-clause-left : goal.load_lines-requires-clause-left
load_lines-requires-clause-left g c =
    let x = c.args.self.now in
    let tree = executor_tree x in
    let can = c.requires.can in
    let strip = c.args.strip in
    let stop = c.stop-stop.result in
    let around = numbers_of (strip_rounds strip) in
    let plain = plain_assign (statement_of strip.stop.item.now) strip.plain in
    let a = plain.0 in
    let text = strip_text tree strip stop a c.requires.walked c.stop-stop.ensures plain.1 in
    let cells = c.work-cells.result.now in
    let many = text-loads tree around stop.first a text x.table.now cells can.table c.work-cells.ensures in
    let listed = ap (λ (ls : List LoadCells). length ls) c.deref.ensures.value in
    let lent = ap (λ (ls : List Line). length ls) c.deref_mut.ensures.value in
    let back = written_back x.lines.len c.lay_lines.new.lines x.lines.items x.lines.ok.0 (c.lay_lines.ensures.room ∙ lent) in
    let rows : c.deref-2.result.now ≡ c.lay_lines.new.lines = c.deref-2.ensures.value ∙ back in
    let rounds = strip_rounds strip in
    let lines = take c.len.result c.deref-2.result.now in
    let laid0 = subst (λ rs. AllZip (λ l m. IsLoadLine l rs m) c.deref.result.now (take (length c.deref.result.now) c.lay_lines.new.lines)) c.path-path.ensures c.lay_lines.ensures.laid in
    let laid1 = subst (λ (ls : List LoadCells). AllZip (λ l m. IsLoadLine l rounds m) ls (take (length ls) c.lay_lines.new.lines)) c.deref.ensures.value laid0 in
    let laid2 = subst (λ n. AllZip (λ l m. IsLoadLine l rounds m) cells.loads.items (take n c.lay_lines.new.lines)) (sym (c.len.ensures ∙ cells.loads.ok.0)) laid1 in
    let laid = subst (λ (ls : List Line). AllZip (λ l m. IsLoadLine l rounds m) cells.loads.items (take c.len.result ls)) (sym rows) laid2 in
    let inv = c.loop-value.invariant in
    let next = c.in-Some-next.ensures in
    let new = c.next.new.self in
    let i = next.instance.0 in
    let old = strip_rounds c.loop-value.trips in
    let v = to_z w64 (of_z w64 c.in-Some-next.value) in
    let fits : FitsSigned w64 c.in-Some-next.value = search rules in
    let walked = next.program ∙ inv.walked in
    let same = c.stop-stop.ensures ∙ sym inv.stop ∙ sym next.stop in
    let insides = and_parts (is_instance_inside tree i) (list_all (is_instance_inside tree) (strip_left new)) (sym (ap (list_all (is_instance_inside tree)) next.instance.2) ∙ inv.inside) in
    let now = g.D.Deeds.left c.loop-value.deeds in
    let (b, rest_is) = trip_begins tree tree (strip_tree new) (strip_rounds new) (rounds_of new.path) stop new.stop i (strip_left new) now inv.left.0 refl walked
    refl same next.instance.1 new.reached new.text insides.0
    (inv.left.1 ∙ ap (λ is. flat_map (instance_deeds tree) is ++ inv.left.0) next.instance.2) in
    let here = placed tree new.path stop now b in
    let is = ap (λ (y : Stop). statement_of y.item.now) c.stop-stop.ensures ∙ plain.1 in
    let what = same_work here.what (assign a) (sym here.is ∙ is) in
    let round = next.round ∙ ap (at_value old) (sym (to_z-of_z w64 c.in-Some-next.value fits)) in
    let at = sym (inv.line v) ∙ sym round in
    (_, lines_first tree new.path stop now b can.formed x.table.now can.table cells c.work-cells.ensures a what rounds v at lines laid)

pub load_lines-requires-clause-room : goal.load_lines-requires-clause-room
load_lines-requires-clause-room g c =
    let x = c.args.self.now in
    let tree = executor_tree x in
    let can = c.requires.can in
    let strip = c.args.strip in
    let stop = c.stop-stop.result in
    let around = numbers_of (strip_rounds strip) in
    let plain = plain_assign (statement_of strip.stop.item.now) strip.plain in
    let a = plain.0 in
    let text = strip_text tree strip stop a c.requires.walked c.stop-stop.ensures plain.1 in
    let code = c.work-code.result.now in
    let coded = text-code tree around stop.first a text x.codes code can.codes c.work-code.ensures in
    let enough : code.loads + length code.steps.items ≤ most_registers x.codes = code_room tree x.codes code (stop.first - 1) can.codes c.work-code.ensures in
    let cells = c.work-cells.result.now in
    let many = text-loads tree around stop.first a text x.table.now cells can.table c.work-cells.ensures in
    let listed = ap (λ (ls : List LoadCells). length ls) c.deref.ensures.value in
    let inv = c.loop-value.invariant in
    let lent = ap (λ (xs : List ℤ). length xs) c.deref_mut-in-Some-next.ensures.value in
    omega (arith, many, coded.loads, enough, inv.room, can.registers, lent, c.len.ensures, length-take c.len.result c.deref-2.result.now)

pub run_code-result-requires-clause-room : goal.run_code-result-requires-clause-room
run_code-result-requires-clause-room g c =
    let x = c.args.self.now in
    let tree = executor_tree x in
    let can = c.requires.can in
    let strip = c.args.strip in
    let stop = c.stop-stop.result in
    let around = numbers_of (strip_rounds strip) in
    let plain = plain_assign (statement_of strip.stop.item.now) strip.plain in
    let a = plain.0 in
    let text = strip_text tree strip stop a c.requires.walked c.stop-stop.ensures plain.1 in
    let code = c.work-code.result.now in
    let enough : code.loads + length code.steps.items ≤ most_registers x.codes = code_room tree x.codes code (stop.first - 1) can.codes c.work-code.ensures in
    let registers = c.loop-value.self.1.1.1.1.1.1.1.0 in
    let long = c.load_lines.ensures.room ∙ ap (λ (xs : List ℤ). length xs) c.deref_mut-in-Some-next.ensures.value in
    let back2 = written_back registers.len c.load_lines.new.registers registers.items registers.ok.0 long in
    let given : c.deref_mut-in-Some-next-2.result.now ≡ c.load_lines.new.registers = c.deref_mut-in-Some-next-2.ensures.value ∙ back2 in
    let now = ap (λ (xs : List ℤ). length xs) given in
    omega (arith, enough, now, long, can.registers, c.loop-value.invariant.room)

pub run_code-result-requires-clause-inside : goal.run_code-result-requires-clause-inside
run_code-result-requires-clause-inside g c =
    let x = c.args.self.now in
    let tree = executor_tree x in
    let can = c.requires.can in
    let strip = c.args.strip in
    let stop = c.stop-stop.result in
    let around = numbers_of (strip_rounds strip) in
    let plain = plain_assign (statement_of strip.stop.item.now) strip.plain in
    let a = plain.0 in
    let text = strip_text tree strip stop a c.requires.walked c.stop-stop.ensures plain.1 in
    let code = c.work-code.result.now in
    let coded = text-code tree around stop.first a text x.codes code can.codes c.work-code.ensures in
    coded.inside

pub run_code-result-requires-clause-good : goal.run_code-result-requires-clause-good
run_code-result-requires-clause-good g c =
    let x = c.args.self.now in
    let tree = executor_tree x in
    let can = c.requires.can in
    let strip = c.args.strip in
    let stop = c.stop-stop.result in
    let around = numbers_of (strip_rounds strip) in
    let plain = plain_assign (statement_of strip.stop.item.now) strip.plain in
    let a = plain.0 in
    let text = strip_text tree strip stop a c.requires.walked c.stop-stop.ensures plain.1 in
    let code = c.work-code.result.now in
    let coded = text-code tree around stop.first a text x.codes code can.codes c.work-code.ensures in
    let cells = c.work-cells.result.now in
    let many = text-loads tree around stop.first a text x.table.now cells can.table c.work-cells.ensures in
    let listed = ap (λ (ls : List LoadCells). length ls) c.deref.ensures.value in
    let inv = c.loop-value.invariant in
    let next = c.in-Some-next.ensures in
    let new = c.next.new.self in
    let i = next.instance.0 in
    let old = strip_rounds c.loop-value.trips in
    let v = to_z w64 (of_z w64 c.in-Some-next.value) in
    let fits : FitsSigned w64 c.in-Some-next.value = search rules in
    let walked = next.program ∙ inv.walked in
    let same = c.stop-stop.ensures ∙ sym inv.stop ∙ sym next.stop in
    let insides = and_parts (is_instance_inside tree i) (list_all (is_instance_inside tree) (strip_left new)) (sym (ap (list_all (is_instance_inside tree)) next.instance.2) ∙ inv.inside) in
    let now = g.D.Deeds.left c.loop-value.deeds in
    let (b, rest_is) = trip_begins tree tree (strip_tree new) (strip_rounds new) (rounds_of new.path) stop new.stop i (strip_left new) now inv.left.0 refl walked
    refl same next.instance.1 new.reached new.text insides.0
    (inv.left.1 ∙ ap (λ is. flat_map (instance_deeds tree) is ++ inv.left.0) next.instance.2) in
    let here = placed tree new.path stop now b in
    let is = ap (λ (y : Stop). statement_of y.item.now) c.stop-stop.ensures ∙ plain.1 in
    let what = same_work here.what (assign a) (sym here.is ∙ is) in
    let round = next.round ∙ ap (at_value old) (sym (to_z-of_z w64 c.in-Some-next.value fits)) in
    let at = sym (inv.line v) ∙ sym round in
    let before = c.loop-value.self.1.1.1.1.1.0 in
    let n = innermost_is (strip_rounds strip) c.number.result strip.inside c.number.ensures ∙ sym inv.loop_at in
    let loops = ap (λ k. set before.items (k - 1) v) n ∙ ap (λ xs. set xs (innermost old - 1) v) inv.written ∙ written_again x.loops.items old v c.loop-value.trips.inside ∙ sym (ap (with_rounds x.loops.items) round) in
    coded.good _ _ (store_valued tree new.path stop now b can.formed x.table.now can.table cells c.work-cells.ensures x.loops.items c.deref-in-Some-next.result.now can.loops (c.deref-in-Some-next.ensures.value ∙ loops) x.params.now can.params a what)

pub overflow_cast-at : goal.overflow_cast-at
overflow_cast-at g c =
    let x = c.args.self.now in
    let tree = executor_tree x in
    let can = c.requires.can in
    let strip = c.args.strip in
    let stop = c.stop-stop.result in
    let around = numbers_of (strip_rounds strip) in
    let plain = plain_assign (statement_of strip.stop.item.now) strip.plain in
    let a = plain.0 in
    let text = strip_text tree strip stop a c.requires.walked c.stop-stop.ensures plain.1 in
    let cells = c.work-cells.result.now in
    let many = text-loads tree around stop.first a text x.table.now cells can.table c.work-cells.ensures in
    let listed = ap (λ (ls : List LoadCells). length ls) c.deref.ensures.value in
    let inv = c.loop-value.invariant in
    let next = c.in-Some-next.ensures in
    let new = c.next.new.self in
    let i = next.instance.0 in
    let old = strip_rounds c.loop-value.trips in
    let v = to_z w64 (of_z w64 c.in-Some-next.value) in
    let fits : FitsSigned w64 c.in-Some-next.value = search rules in
    let walked = next.program ∙ inv.walked in
    let same = c.stop-stop.ensures ∙ sym inv.stop ∙ sym next.stop in
    let insides = and_parts (is_instance_inside tree i) (list_all (is_instance_inside tree) (strip_left new)) (sym (ap (list_all (is_instance_inside tree)) next.instance.2) ∙ inv.inside) in
    let now = g.D.Deeds.left c.loop-value.deeds in
    let (b, rest_is) = trip_begins tree tree (strip_tree new) (strip_rounds new) (rounds_of new.path) stop new.stop i (strip_left new) now inv.left.0 refl walked
    refl same next.instance.1 new.reached new.text insides.0
    (inv.left.1 ∙ ap (λ is. flat_map (instance_deeds tree) is ++ inv.left.0) next.instance.2) in
    let here = placed tree new.path stop now b in
    let is = ap (λ (y : Stop). statement_of y.item.now) c.stop-stop.ensures ∙ plain.1 in
    let what = same_work here.what (assign a) (sym here.is ∙ is) in
    let round = next.round ∙ ap (at_value old) (sym (to_z-of_z w64 c.in-Some-next.value fits)) in
    let at = sym (inv.line v) ∙ sym round in
    let before = c.loop-value.self.1.1.1.1.1.0 in
    let n = innermost_is (strip_rounds strip) c.number.result strip.inside c.number.ensures ∙ sym inv.loop_at in
    let loops = ap (λ k. set before.items (k - 1) v) n ∙ ap (λ xs. set xs (innermost old - 1) v) inv.written ∙ written_again x.loops.items old v c.loop-value.trips.inside ∙ sym (ap (with_rounds x.loops.items) round) in
    let rounds = strip_rounds strip in
    let lined = subst (λ rs. IsLineOf c.in-Some.form rs c.line_of-store.result) c.path-path.ensures c.line_of-store.ensures in
    let small = store_small tree new.path stop now b can.formed x.table.now can.table cells c.work-cells.ensures x.loops.items c.deref-in-Some-next.result.now can.loops (c.deref-in-Some-next.ensures.value ∙ loops) x.params.now can.params a what c.in-Some.form c.in-Some.is (cell_on c.line_of-store.result v) (by_depth (at_value rounds v)) (sym (lined v)) (ap by_depth at) can.limits in
    search (rules, small, c.at.ensures)

pub store-requires : goal.store-requires
store-requires g c =
    let x = c.args.self.now in
    let tree = executor_tree x in
    let can = c.requires.can in
    let strip = c.args.strip in
    let stop = c.stop-stop.result in
    let around = numbers_of (strip_rounds strip) in
    let plain = plain_assign (statement_of strip.stop.item.now) strip.plain in
    let a = plain.0 in
    let text = strip_text tree strip stop a c.requires.walked c.stop-stop.ensures plain.1 in
    let code = c.work-code.result.now in
    let coded = text-code tree around stop.first a text x.codes code can.codes c.work-code.ensures in
    let cells = c.work-cells.result.now in
    let many = text-loads tree around stop.first a text x.table.now cells can.table c.work-cells.ensures in
    let listed = ap (λ (ls : List LoadCells). length ls) c.deref.ensures.value in
    let lent = ap (λ (ls : List Line). length ls) c.deref_mut.ensures.value in
    let back = written_back x.lines.len c.lay_lines.new.lines x.lines.items x.lines.ok.0 (c.lay_lines.ensures.room ∙ lent) in
    let rows : c.deref-2.result.now ≡ c.lay_lines.new.lines = c.deref-2.ensures.value ∙ back in
    let rounds = strip_rounds strip in
    let lines = take c.len.result c.deref-2.result.now in
    let laid0 = subst (λ rs. AllZip (λ l m. IsLoadLine l rs m) c.deref.result.now (take (length c.deref.result.now) c.lay_lines.new.lines)) c.path-path.ensures c.lay_lines.ensures.laid in
    let laid1 = subst (λ (ls : List LoadCells). AllZip (λ l m. IsLoadLine l rounds m) ls (take (length ls) c.lay_lines.new.lines)) c.deref.ensures.value laid0 in
    let laid2 = subst (λ n. AllZip (λ l m. IsLoadLine l rounds m) cells.loads.items (take n c.lay_lines.new.lines)) (sym (c.len.ensures ∙ cells.loads.ok.0)) laid1 in
    let laid = subst (λ (ls : List Line). AllZip (λ l m. IsLoadLine l rounds m) cells.loads.items (take c.len.result ls)) (sym rows) laid2 in
    let inv = c.loop-value.invariant in
    let next = c.in-Some-next.ensures in
    let new = c.next.new.self in
    let i = next.instance.0 in
    let old = strip_rounds c.loop-value.trips in
    let v = to_z w64 (of_z w64 c.in-Some-next.value) in
    let fits : FitsSigned w64 c.in-Some-next.value = search rules in
    let walked = next.program ∙ inv.walked in
    let same = c.stop-stop.ensures ∙ sym inv.stop ∙ sym next.stop in
    let insides = and_parts (is_instance_inside tree i) (list_all (is_instance_inside tree) (strip_left new)) (sym (ap (list_all (is_instance_inside tree)) next.instance.2) ∙ inv.inside) in
    let now = g.D.Deeds.left c.loop-value.deeds in
    let (b, rest_is) = trip_begins tree tree (strip_tree new) (strip_rounds new) (rounds_of new.path) stop new.stop i (strip_left new) now inv.left.0 refl walked
    refl same next.instance.1 new.reached new.text insides.0
    (inv.left.1 ∙ ap (λ is. flat_map (instance_deeds tree) is ++ inv.left.0) next.instance.2) in
    let here = placed tree new.path stop now b in
    let is = ap (λ (y : Stop). statement_of y.item.now) c.stop-stop.ensures ∙ plain.1 in
    let what = same_work here.what (assign a) (sym here.is ∙ is) in
    let round = next.round ∙ ap (at_value old) (sym (to_z-of_z w64 c.in-Some-next.value fits)) in
    let at = sym (inv.line v) ∙ sym round in
    let before = c.loop-value.self.1.1.1.1.1.0 in
    let n = innermost_is (strip_rounds strip) c.number.result strip.inside c.number.ensures ∙ sym inv.loop_at in
    let loops = ap (λ k. set before.items (k - 1) v) n ∙ ap (λ xs. set xs (innermost old - 1) v) inv.written ∙ written_again x.loops.items old v c.loop-value.trips.inside ∙ sym (ap (with_rounds x.loops.items) round) in
    let registers = c.loop-value.self.1.1.1.1.1.1.1.0 in
    let long = c.load_lines.ensures.room ∙ ap (λ (xs : List ℤ). length xs) c.deref_mut-in-Some-next.ensures.value in
    let back2 = written_back registers.len c.load_lines.new.registers registers.items registers.ok.0 long in
    let given : c.deref_mut-in-Some-next-2.result.now ≡ c.load_lines.new.registers = c.deref_mut-in-Some-next-2.ensures.value ∙ back2 in
    let lined = subst (λ rs. IsLineOf c.in-Some.form rs c.line_of-store.result) c.path-path.ensures c.line_of-store.ensures in
    let behind = lines_last tree new.path stop now b can.formed x.table.now can.table cells c.work-cells.ensures a what rounds v at lines laid (g.D.Deeds.left c.load_lines.new.deeds) c.load_lines.ensures.left in
    let last = last_store tree new.path stop now b can.formed x.table.now can.table cells c.work-cells.ensures x.loops.items c.deref-in-Some-next.result.now can.loops (c.deref-in-Some-next.ensures.value ∙ loops) x.params.now can.params a what c.in-Some.form c.in-Some.is (cell_on c.line_of-store.result v) (by_depth (at_value rounds v)) (sym (lined v)) (ap by_depth at) in
    let stored = ap (λ k. storing k (assigned_value tree b.at.instance) ∷ b.rest) (sym c.at.ensures) in
    let count = AllZip-long (λ l m. IsLoadLine l rounds m) cells.loads.items lines laid ∙ sym many ∙ sym coded.loads in
    let loaded = ap (λ n. take n c.deref_mut-in-Some-next-2.result.now) (sym count) ∙ ap (take (length lines)) given ∙ sym c.load_lines.ensures.registers in
    let value = store_value tree new.path stop now b can.formed x.table.now can.table cells c.work-cells.ensures x.loops.items c.deref-in-Some-next.result.now can.loops (c.deref-in-Some-next.ensures.value ∙ loops) x.params.now can.params a what c.run_code-result.result (take code.loads c.deref_mut-in-Some-next-2.result.now) (g.D.Deeds.registers c.load_lines.new.deeds) (c.run_code-result.ensures.value a.value coded) loaded in
    let resulted : FitsSigned w64 c.run_code-result.result = search rules in
    (assigned_value tree b.at.instance, b.rest, behind ∙ last ∙ stored, to_z-of_z w64 c.run_code-result.result resulted ∙ value)

pub loop-value-preserved : goal.loop-value-preserved
loop-value-preserved g c =
    let x = c.args.self.now in
    let tree = executor_tree x in
    let can = c.requires.can in
    let strip = c.args.strip in
    let stop = c.stop-stop.result in
    let around = numbers_of (strip_rounds strip) in
    let plain = plain_assign (statement_of strip.stop.item.now) strip.plain in
    let a = plain.0 in
    let text = strip_text tree strip stop a c.requires.walked c.stop-stop.ensures plain.1 in
    let cells = c.work-cells.result.now in
    let many = text-loads tree around stop.first a text x.table.now cells can.table c.work-cells.ensures in
    let listed = ap (λ (ls : List LoadCells). length ls) c.deref.ensures.value in
    let lent = ap (λ (ls : List Line). length ls) c.deref_mut.ensures.value in
    let back = written_back x.lines.len c.lay_lines.new.lines x.lines.items x.lines.ok.0 (c.lay_lines.ensures.room ∙ lent) in
    let rows : c.deref-2.result.now ≡ c.lay_lines.new.lines = c.deref-2.ensures.value ∙ back in
    let rounds = strip_rounds strip in
    let lines = take c.len.result c.deref-2.result.now in
    let laid0 = subst (λ rs. AllZip (λ l m. IsLoadLine l rs m) c.deref.result.now (take (length c.deref.result.now) c.lay_lines.new.lines)) c.path-path.ensures c.lay_lines.ensures.laid in
    let laid1 = subst (λ (ls : List LoadCells). AllZip (λ l m. IsLoadLine l rounds m) ls (take (length ls) c.lay_lines.new.lines)) c.deref.ensures.value laid0 in
    let laid2 = subst (λ n. AllZip (λ l m. IsLoadLine l rounds m) cells.loads.items (take n c.lay_lines.new.lines)) (sym (c.len.ensures ∙ cells.loads.ok.0)) laid1 in
    let laid = subst (λ (ls : List Line). AllZip (λ l m. IsLoadLine l rounds m) cells.loads.items (take c.len.result ls)) (sym rows) laid2 in
    let inv = c.loop-value.invariant in
    let next = c.in-Some-next.ensures in
    let new = c.next.new.self in
    let i = next.instance.0 in
    let old = strip_rounds c.loop-value.trips in
    let v = to_z w64 (of_z w64 c.in-Some-next.value) in
    let fits : FitsSigned w64 c.in-Some-next.value = search rules in
    let walked = next.program ∙ inv.walked in
    let same = c.stop-stop.ensures ∙ sym inv.stop ∙ sym next.stop in
    let insides = and_parts (is_instance_inside tree i) (list_all (is_instance_inside tree) (strip_left new)) (sym (ap (list_all (is_instance_inside tree)) next.instance.2) ∙ inv.inside) in
    let now = g.D.Deeds.left c.loop-value.deeds in
    let (b, rest_is) = trip_begins tree tree (strip_tree new) (strip_rounds new) (rounds_of new.path) stop new.stop i (strip_left new) now inv.left.0 refl walked
    refl same next.instance.1 new.reached new.text insides.0
    (inv.left.1 ∙ ap (λ is. flat_map (instance_deeds tree) is ++ inv.left.0) next.instance.2) in
    let here = placed tree new.path stop now b in
    let is = ap (λ (y : Stop). statement_of y.item.now) c.stop-stop.ensures ∙ plain.1 in
    let what = same_work here.what (assign a) (sym here.is ∙ is) in
    let round = next.round ∙ ap (at_value old) (sym (to_z-of_z w64 c.in-Some-next.value fits)) in
    let at = sym (inv.line v) ∙ sym round in
    let before = c.loop-value.self.1.1.1.1.1.0 in
    let n = innermost_is (strip_rounds strip) c.number.result strip.inside c.number.ensures ∙ sym inv.loop_at in
    let loops = ap (λ k. set before.items (k - 1) v) n ∙ ap (λ xs. set xs (innermost old - 1) v) inv.written ∙ written_again x.loops.items old v c.loop-value.trips.inside ∙ sym (ap (with_rounds x.loops.items) round) in
    let registers = c.loop-value.self.1.1.1.1.1.1.1.0 in
    let behind = lines_last tree new.path stop now b can.formed x.table.now can.table cells c.work-cells.ensures a what rounds v at lines laid (g.D.Deeds.left c.load_lines.new.deeds) c.load_lines.ensures.left in
    let kept = (with_items (with_items registers c.load_lines.new.registers) c.run_code-result.new.registers).ok.0 in
    record {
      room = omega (arith, inv.room, registers.ok.0, kept);
      walked = walked;
      stop = next.stop ∙ inv.stop;
      loop_at = ap innermost next.round ∙ innermost_at old c.in-Some-next.value ∙ inv.loop_at;
      line = λ w. ap (λ rs. at_value rs w) next.round ∙ again_at old c.in-Some-next.value w ∙ inv.line w;
      written = loops;
      inside = insides.1;
      left = (inv.left.0, same_rest (sym behind ∙ c.store.ensures.left.1) ∙ rest_is, inv.left.2);
      idle = c.store.ensures.registers;
      printed = c.store.ensures.printed ∙ c.load_lines.ensures.printed ∙ inv.printed;
      kept = c.store.ensures.kept ∙ c.load_lines.ensures.kept ∙ inv.kept;
    }

pub returns-clause-can : goal.returns-clause-can
returns-clause-can g c =
    let can = c.requires.can in
    let inv = c.loop-value.invariant in
    let x = c.args.self.now in
    let kept = (with_items x.lines c.lay_lines.new.lines).ok.0 in
    let long = ap (λ (xs : List ℤ). length xs) inv.written ∙ with_rounds-length x.loops.items (strip_rounds c.loop-value.trips) in
    record {
      formed = can.formed;
      limits = can.limits;
      table = can.table;
      params = can.params;
      codes = can.codes;
      loops = omega (arith, can.loops, long);
      lines = omega (arith, can.lines, x.lines.ok.0, kept);
      registers = omega (arith, can.registers, inv.room);
      room = λ n cells at. omega (arith, can.room n cells at, inv.room);
    }

pub returns-clause-left : goal.returns-clause-left
returns-clause-left g c =
    let inv = c.loop-value.invariant in
    let none = c.in_default-next.ensures.instance in
    let deeds = flat_map (instance_deeds (executor_tree c.args.self.now)) in
    inv.left.2 ∙ ap (λ l. deeds (strip_left c.args.strip) ++ l) (sym (inv.left.1 ∙ ap (λ is. deeds is ++ inv.left.0) none))
