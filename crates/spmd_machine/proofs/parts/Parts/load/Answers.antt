use Rattle.std.proofs.Common.{◌≡◌, ◌+◌, ◌<◌, ℤ, pos, get_or, ◌∷◌, ◌++◌, [], Some, w64, FitsSigned, to_z, of_z, length, if◌then◌else◌, ap, refl, sym, ◌∙◌, arith, rules}
use Rattle.std.specs.Prelude.{slice_get}
use Rattle.std.proofs.lemmas.Int.{to_z-of_z}
use Rattle.std.proofs.lemmas.List.{get_or_default}
use Rattle.nest_model.specs.Memory.{cell_value}
use Rattle.nest_model.specs.Accesses.{loads_of}
use Rattle.turns.specs.CountersLeft.{counters_path, counters_tree}
use Rattle.spmd_machine.proofs.Kept.{picked}
use Rattle.spmd_machine.proofs.Ready.{next_here}
use Rattle.spmd_machine.proofs.LastSteps.{cells_there}
use Rattle.spmd_machine.proofs.LoadSteps.{at_load, at_load-instance, few_here, inside, inst, load_steps, loads_own, no_overflow, room_left, slot_here}
use Rattle.spmd_machine.proofs.OwnAccess.{read_by, slot_small}
use Rattle.turns.specs.declared.turns.Next.TheVariants.{Work}
use Rattle.spmd_machine.specs.Machines.{plan_in, tree_in}
use Rattle.spmd_machine.specs.declared.processor.Processor.{Processor}
use Rattle.spmd_machine.proofs.parts.Parts.load.Goals as goal
use Rattle.spmd_machine.proofs.parts.Parts.load.Goals.{in-Some, in-None}

pub offset_bounds-processor-place : goal.offset_bounds-processor-place
offset_bounds-processor-place c =
    let m = c.args.self.now in
    let x = c.index_mut-processor.result.now in
    let read = c.index_mut-processor.ensures.value in
    let slot = slot_here m c.requires.ready c.args.p x c.requires.worker read c.args.stop c.requires.next c.args.spot c.requires.own in
    omega (arith, slot_small (tree_in m) (plan_in m) x.turns.place c.args.spot.cell c.in-Some.place (few_here m c.requires.ready c.args.p x c.requires.worker read c.args.stop c.requires.next) (slot ∙ c.in-Some.is))

pub bounds-processor-place : goal.bounds-processor-place
bounds-processor-place c =
    let m = c.args.self.now in
    let x = c.index_mut-processor.result.now in
    let read = c.index_mut-processor.ensures.value in
    let slot = slot_here m c.requires.ready c.args.p x c.requires.worker read c.args.stop c.requires.next c.args.spot c.requires.own in
    slot_small (tree_in m) (plan_in m) x.turns.place c.args.spot.cell c.in-Some.place (few_here m c.requires.ready c.args.p x c.requires.worker read c.args.stop c.requires.next) (slot ∙ c.in-Some.is)

pub index-requires : goal.index-requires
index-requires c =
    let m = c.args.self.now in
    let (x, read) = picked m.processors.items c.args.p c.requires.worker in
    let (cells, at) = cells_there m c.requires.ready c.args.p x c.requires.worker read c.args.stop c.requires.next in
    omega (arith, inside m c.requires.ready c.args.p x c.requires.worker read c.args.stop c.requires.next cells at c.args.spot.cell c.requires.left, c.requires.ready.cells)

pub unwrap-requires : goal.unwrap-requires
unwrap-requires c =
    let m = c.args.self.now in
    let x = c.index_mut-processor.result.now in
    let read = c.index_mut-processor.ensures.value in
    let (cells, at) = cells_there m c.requires.ready c.args.p x c.requires.worker read c.args.stop c.requires.next in
    c.push.ensures.succeeds (omega (arith, room_left m c.requires.ready c.args.p x c.requires.worker read c.args.stop c.requires.next cells at c.args.spot.cell c.requires.left))

pub advance-requires : goal.advance-requires
advance-requires c =
    let m = c.args.self.now in
    let x = c.index_mut-processor.result.now in
    let read = c.index_mut-processor.ensures.value in
    let here = inst m c.requires.ready c.args.p x c.requires.worker read c.args.stop c.requires.next in (
      counters_tree x.turns.counters,
      counters_path x.turns.counters,
      x.done,
      c.args.spot.cell,
      at_load m c.requires.ready c.args.p x c.requires.worker read c.args.stop c.requires.next (counters_path x.turns.counters) refl here,
      ap (λ i. slice_get (loads_of (counters_tree x.turns.counters) i) x.done) (at_load-instance m c.requires.ready c.args.p x c.requires.worker read c.args.stop c.requires.next (counters_path x.turns.counters) refl here)
          ∙ loads_own m c.requires.ready c.args.p x c.requires.worker read c.args.stop c.requires.next (Some c.args.spot.cell) c.requires.left here,
    )

pub overflow_add-processor : goal.overflow_add-processor
overflow_add-processor c =
    let m = c.args.self.now in
    let x = c.index_mut-processor.result.now in
    let read = c.index_mut-processor.ensures.value in
    let (cells, at) = cells_there m c.requires.ready c.args.p x c.requires.worker read c.args.stop c.requires.next in
    omega (arith, no_overflow m c.requires.ready c.args.p x c.requires.worker read c.args.stop c.requires.next cells at c.args.spot.cell c.requires.left, x.registers.small)

pub returns : goal.returns
returns c =
    let m = c.args.self.now in
    let ready = c.requires.ready in
    let x = c.index_mut-processor.result.now in
    let read = c.index_mut-processor.ensures.value in
    let y : Processor = record { turns = x.turns; found = Some c.args.stop; registers = c.push.new.self; place = c.advance.new.self; done = x.done + 1; counter = x.counter; signal = x.signal; own = x.own } in
    let here = inst m ready c.args.p x c.requires.worker read c.args.stop c.requires.next in
    let (cells, at) = cells_there m ready c.args.p x c.requires.worker read c.args.stop c.requires.next in
    let slot = slot_here m ready c.args.p x c.requires.worker read c.args.stop c.requires.next c.args.spot c.requires.own in
    let left = room_left m ready c.args.p x c.requires.worker read c.args.stop c.requires.next cells at c.args.spot.cell c.requires.left in
    let cast : (v : ℤ) → FitsSigned w64 v → to_z w64 (of_z w64 v) ≡ v = λ v fits. to_z-of_z w64 v fits in
    let below : c.args.spot.cell < length m.memory.items = omega (arith, inside m ready c.args.p x c.requires.worker read c.args.stop c.requires.next cells at c.args.spot.cell c.requires.left, ready.cells) in
    let shared : (v : ℤ) → FitsSigned w64 v → v ≡ get_or m.memory.items c.args.spot.cell v → to_z w64 (of_z w64 v) ≡ cell_value m.memory.items c.args.spot.cell = λ v fits is. cast v fits ∙ is ∙ get_or_default m.memory.items c.args.spot.cell v (pos 0) below in
    let value : to_z w64 c.match-spot.value-bits ≡ read_by x m.memory.items c.args.spot.cell c.args.spot.own = elim c.match-spot.branch [
      | in-Some w ↦ w.value-is ∙ cast (get_or x.own w.in-Some.place (pos 0)) (search rules) ∙ ap (read_by x m.memory.items c.args.spot.cell) (sym w.in-Some.is)
      | in-None w ↦ w.value-is ∙ shared w.index.result.now (search rules) w.index.ensures ∙ ap (read_by x m.memory.items c.args.spot.cell) (sym w.in-None.is)
    ] in
    let pushed = c.push.ensures.items ∙ ap (λ b. if b then x.registers.items ++ to_z w64 c.match-spot.value-bits ∷ [] else x.registers.items) (c.push.ensures.succeeds (omega (arith, left)))
    ∙ ap (λ v. x.registers.items ++ v ∷ []) value in
    let now = c.advance.ensures (counters_tree x.turns.counters) (counters_path x.turns.counters) x.done (at_load m ready c.args.p x c.requires.worker read c.args.stop c.requires.next (counters_path x.turns.counters) refl here) in
    load_steps m ready c.args.p x c.requires.worker read c.args.stop c.requires.next cells at c.args.spot.cell c.requires.left y c.args.spot.own slot
    (record { turns = refl; instance = next_here m ready c.args.p x x c.requires.worker read (Work c.args.stop) c.requires.next; pushed = pushed; capacity = c.push.ensures.capacity; done = omega arith; loading_next = now.loading cells at; counter = refl; signal = refl; own_cells = refl })
