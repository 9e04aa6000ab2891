use Rattle.std.proofs.Common.{◌≡◌, ◌≤◌, ◌<◌, pos, get_or, w64, FitsSigned, length, set, ap, refl, sym, ◌∙◌, inr, arith, rules}
use Rattle.std.proofs.lemmas.Bool.{leb-true, leb-false}
use Rattle.std.proofs.lemmas.Int.{to_z-of_z, wrapping_add_is}
use Rattle.std.proofs.lemmas.List.{get_or_default}
use Rattle.nest_model.specs.Memory.{cell_value}
use Rattle.own_cells.specs.OwnCells.{shared_cell}
use Rattle.own_cells.specs.declared.cells.OwnCells.{OwnCells}
use Rattle.spmd_model.specs.Cells.{plus}
use Rattle.turns.specs.declared.turns.Next.TheVariants.{Close}
use Rattle.spmd_machine.specs.declared.processor.Processor.{Processor}
use Rattle.spmd_machine.proofs.Closings.{closing_begun, one_item, one_loaded, to, to_below, to_is, to_there, total_added, total_kept}
use Rattle.spmd_machine.proofs.Ready.{kept_here, next_here}
use Rattle.spmd_machine.proofs.parts.Parts.give_total.Goals as goal

pub index-value-requires : goal.index-value-requires
index-value-requires c =
    let m = c.args.self.now in
    let ready = c.requires.ready in
    let x = c.index_mut-processor.result.now in
    let read = c.index_mut-processor.ensures.value in
    let one = ap (λ (z : Processor). z.done) read ∙ c.requires.loaded x in
    omega (arith, one_loaded m ready c.args.p x c.requires.worker read c.args.place c.requires.next one, x.registers.ok.0)

pub cell-cell-requires : goal.cell-cell-requires
cell-cell-requires c =
    let m = c.args.self.now in
    let ready = c.requires.ready in
    let x = c.index_mut-processor.result.now in
    let read = c.index_mut-processor.ensures.value in
    (to m ready c.args.p x c.requires.worker read c.args.place c.requires.next, ap (λ (o : OwnCells). shared_cell o c.args.place) c.own_cells.ensures ∙ to_there m ready c.args.p x c.requires.worker read c.args.place c.requires.next)

pub index-requires : goal.index-requires
index-requires c =
    let m = c.args.self.now in
    let ready = c.requires.ready in
    let x = c.index_mut-processor.result.now in
    let read = c.index_mut-processor.ensures.value in
    let is = to_is m ready c.args.p x c.requires.worker read c.args.place c.requires.next c.own_cells.result.now c.cell-cell.result c.own_cells.ensures c.cell-cell.ensures in
    omega (arith, is, to_below m ready c.args.p x c.requires.worker read c.args.place c.requires.next, ready.cells, m.memory.ok.0)

pub index_mut-requires : goal.index_mut-requires
index_mut-requires c =
    let m = c.args.self.now in
    let ready = c.requires.ready in
    let x = c.index_mut-processor.result.now in
    let read = c.index_mut-processor.ensures.value in
    let is = to_is m ready c.args.p x c.requires.worker read c.args.place c.requires.next c.own_cells.result.now c.cell-cell.result c.own_cells.ensures c.cell-cell.ensures in
    omega (arith, is, to_below m ready c.args.p x c.requires.worker read c.args.place c.requires.next, ready.cells, m.memory.ok.0)

pub index_mut-requires-else-is_sum_place : goal.index_mut-requires-else-is_sum_place
index_mut-requires-else-is_sum_place c =
    let m = c.args.self.now in
    let ready = c.requires.ready in
    let x = c.index_mut-processor.result.now in
    let read = c.index_mut-processor.ensures.value in
    let is = to_is m ready c.args.p x c.requires.worker read c.args.place c.requires.next c.own_cells.result.now c.cell-cell.result c.own_cells.ensures c.cell-cell.ensures in
    omega (arith, is, to_below m ready c.args.p x c.requires.worker read c.args.place c.requires.next, ready.cells, m.memory.ok.0)

pub finish-requires-clause-sound : goal.finish-requires-clause-sound
finish-requires-clause-sound c =
    let x = c.index_mut-processor.result.now in
    (kept_here c.args.self.now c.requires.ready c.args.p x x c.requires.worker c.index_mut-processor.ensures.value).sound

pub finish-requires-clause-next : goal.finish-requires-clause-next
finish-requires-clause-next c =
    let x = c.index_mut-processor.result.now in
    next_here c.args.self.now c.requires.ready c.args.p x x c.requires.worker c.index_mut-processor.ensures.value (Close c.args.place) c.requires.next

pub returns-then-is_sum_place : goal.returns-then-is_sum_place
returns-then-is_sum_place c =
    let m = c.args.self.now in
    let ready = c.requires.ready in
    let x = c.index_mut-processor.result.now in
    let read = c.index_mut-processor.ensures.value in
    let y : Processor = record { turns = x.turns; found = x.found; registers = c.clear.new.self; place = x.place; done = 2; counter = x.counter; signal = x.signal; own = x.own } in
    let one = ap (λ (z : Processor). z.done) read ∙ c.requires.loaded x in
    let begun = closing_begun m ready c.args.p x c.requires.worker read c.args.place c.requires.next in
    let big : 16 ≤ c.args.place = leb-true 16 c.args.place (sym c.is_sum_place.ensures ∙ c.if-is_sum_place.true) in
    let v = c.index-value.result.now in
    let loaded = one_item x.registers.items v (one_loaded m ready c.args.p x c.requires.worker read c.args.place c.requires.next one) c.index-value.ensures in
    let is = to_is m ready c.args.p x c.requires.worker read c.args.place c.requires.next c.own_cells.result.now c.cell-cell.result c.own_cells.ensures c.cell-cell.ensures in
    let below = to_below m ready c.args.p x c.requires.worker read c.args.place c.requires.next in
    let there = to m ready c.args.p x c.requires.worker read c.args.place c.requires.next in
    let a = c.index.result.now in
    let fits : FitsSigned w64 v = search rules in
    let fits_a : FitsSigned w64 a = search rules in
    let inside : c.cell-cell.result < length m.memory.items = omega (arith, is, below, ready.cells) in
    let a_is : a ≡ cell_value m.memory.items there = c.index.ensures ∙ get_or_default m.memory.items c.cell-cell.result a (pos 0) inside ∙ ap (λ n. get_or m.memory.items n (pos 0)) is in
    total_added m ready c.args.p x c.requires.worker read c.args.place c.requires.next y v _ big one loaded below
    (record {
      turns = refl;
      instance = refl;
      done = refl;
      closing = record { first_load = begun.first_load; first_element = begun.first_element; stage = inr (inr (big, refl, c.clear.ensures.items)) };
      capacity = omega (arith, c.clear.ensures.capacity);
      counter = refl;
      signal = refl;
      own_cells = refl;
    }) c.clear.ensures.items
    (ap (set m.memory.items c.cell-cell.result) (wrapping_add_is w64 a v fits_a fits ∙ ap (λ w. plus w v) a_is) ∙ ap (λ n. set m.memory.items n (plus (cell_value m.memory.items there) v)) is)

pub returns-else-is_sum_place : goal.returns-else-is_sum_place
returns-else-is_sum_place c =
    let m = c.args.self.now in
    let ready = c.requires.ready in
    let x = c.index_mut-processor.result.now in
    let read = c.index_mut-processor.ensures.value in
    let one = ap (λ (z : Processor). z.done) read ∙ c.requires.loaded x in
    let small : c.args.place < 16 = leb-false 16 c.args.place (sym c.is_sum_place.ensures ∙ c.if-is_sum_place.false) in
    let v = c.index-value.result.now in
    let loaded = one_item x.registers.items v (one_loaded m ready c.args.p x c.requires.worker read c.args.place c.requires.next one) c.index-value.ensures in
    let is = to_is m ready c.args.p x c.requires.worker read c.args.place c.requires.next c.own_cells.result.now c.cell-cell.result c.own_cells.ensures c.cell-cell.ensures in
    let below = to_below m ready c.args.p x c.requires.worker read c.args.place c.requires.next in
    let (t, passes) = c.finish.ensures.passes in
    let fits : FitsSigned w64 v = search rules in
    total_kept m ready c.args.p x c.requires.worker read c.args.place c.requires.next c.finish.new.self t v _ small one loaded below passes c.finish.ensures.own_cells c.finish.ensures.counter c.finish.ensures.signal
    (ap (set m.memory.items c.cell-cell.result) (to_z-of_z w64 v fits) ∙ ap (λ n. set m.memory.items n v) is)
