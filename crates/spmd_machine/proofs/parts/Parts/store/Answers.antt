use Rattle.std.proofs.Common.{◌≡◌, ℤ, List, length, set, vec_capacity, w64, FitsSigned, ap, sym, ◌∙◌, subst, arith, rules, IsTrue}
use Rattle.std.specs.List.{list_all}
use Rattle.std.specs.Vec.{with_items}
use Rattle.std.proofs.lemmas.Int.{to_z-of_z}
use Rattle.nest_tree.specs.View.{expression_of}
use Rattle.nest_tree.specs.WellFormed.{is_number_of}
use Rattle.nest_walk.specs.ByNumber.{with_rounds}
use Rattle.nest_walk.specs.Paths.{Round}
use Rattle.nest_walk.specs.RoundsOf.{rounds_of}
use Rattle.seq_meaning.proofs.RunSteps.{written_back}
use Rattle.turns.specs.TurnsLeft.{AreSound, IsNext}
use Rattle.spmd_machine.specs.Machines.{plan_in, tree_in}
use Rattle.spmd_machine.specs.declared.answer.StepAnswer.TheVariants.{Stepped}
use Rattle.spmd_machine.specs.declared.processor.Processor.{Processor}
use Rattle.turns.specs.declared.turns.Next.TheVariants.{Work}
use Rattle.spmd_machine.proofs.Kept.{passed_from}
use Rattle.spmd_machine.proofs.LastSteps.{cells_there, code_fits, code_high, code_low, numbers_there, store_code, store_loads, store_steps, store_valued, stored_below}
use Rattle.spmd_machine.proofs.LoadSteps.{few_here, slot_here, stores_here}
use Rattle.spmd_machine.proofs.OwnAccess.{Stores, to_own, to_shared, slot_small}
use Rattle.spmd_machine.proofs.Ready.{code_filled, kept_here, next_here}
use Rattle.spmd_machine.proofs.parts.Parts.store.Goals as goal
use Rattle.spmd_machine.proofs.parts.Parts.store.Goals.{in-Some, in-None}

pub write_to-requires : goal.write_to-requires
write_to-requires c =
    let numbered = numbers_there c.args.self.now c.requires.ready c.args.p c.index_mut-processor.result.now c.requires.worker c.index_mut-processor.ensures.value c.args.stop c.requires.next (length c.deref_mut.result.now) (ap (λ (l : List ℤ). length l) c.deref_mut.ensures.value) in
    subst (λ (rs : List Round). IsTrue (list_all (λ (r : Round). is_number_of (length c.deref_mut.result.now) r.number) rs)) (sym c.path.ensures) numbered

pub work-code-requires-clause-low : goal.work-code-requires-clause-low
work-code-requires-clause-low c =
    let m = c.args.self.now in
    let x = c.index_mut-processor.result.now in
    let read = c.index_mut-processor.ensures.value in
    let (target, e, guard, line, statement) = c.requires.statement in
    let (cells, at) = cells_there m c.requires.ready c.args.p x c.requires.worker read c.args.stop c.requires.next in
    code_low m c.requires.ready c.args.p x c.requires.worker read c.args.stop c.requires.next cells at c.requires.loaded e target guard line statement

pub work-code-requires-clause-high : goal.work-code-requires-clause-high
work-code-requires-clause-high c =
    let m = c.args.self.now in
    let x = c.index_mut-processor.result.now in
    let read = c.index_mut-processor.ensures.value in
    let (target, e, guard, line, statement) = c.requires.statement in
    let (cells, at) = cells_there m c.requires.ready c.args.p x c.requires.worker read c.args.stop c.requires.next in
    code_high m c.requires.ready c.args.p x c.requires.worker read c.args.stop c.requires.next cells at c.requires.loaded e target guard line statement

pub value_of_code-value-requires-clause-room : goal.value_of_code-value-requires-clause-room
value_of_code-value-requires-clause-room c =
    let m = c.args.self.now in
    let x = c.index_mut-processor.result.now in
    let read = c.index_mut-processor.ensures.value in
    let (target, e, guard, line, statement) = c.requires.statement in
    let (cells, at) = cells_there m c.requires.ready c.args.p x c.requires.worker read c.args.stop c.requires.next in
    omega (arith, code_fits m c.requires.ready c.args.p x c.requires.worker read c.args.stop c.requires.next cells at c.requires.loaded e target guard line statement c.work-code.result.now c.work-code.ensures, ap (λ (l : List ℤ). length l) c.deref_mut-2.ensures.value)

pub value_of_code-value-requires-clause-loads : goal.value_of_code-value-requires-clause-loads
value_of_code-value-requires-clause-loads c =
    let m = c.args.self.now in
    let x = c.index_mut-processor.result.now in
    let read = c.index_mut-processor.ensures.value in
    let (target, e, guard, line, statement) = c.requires.statement in
    let (cells, at) = cells_there m c.requires.ready c.args.p x c.requires.worker read c.args.stop c.requires.next in
    let coded = store_code m c.requires.ready c.args.p x c.requires.worker read c.args.stop c.requires.next cells at c.requires.loaded e target guard line statement c.work-code.result.now c.work-code.ensures in
    omega (arith, coded.loads, store_loads m c.requires.ready c.args.p x c.requires.worker read c.args.stop c.requires.next cells at c.requires.loaded e target guard line statement, ap (λ (l : List ℤ). length l) c.deref-3.ensures.value)

pub value_of_code-value-requires-clause-inside : goal.value_of_code-value-requires-clause-inside
value_of_code-value-requires-clause-inside c =
    let m = c.args.self.now in
    let x = c.index_mut-processor.result.now in
    let read = c.index_mut-processor.ensures.value in
    let (target, e, guard, line, statement) = c.requires.statement in
    let (cells, at) = cells_there m c.requires.ready c.args.p x c.requires.worker read c.args.stop c.requires.next in
    (store_code m c.requires.ready c.args.p x c.requires.worker read c.args.stop c.requires.next cells at c.requires.loaded e target guard line statement c.work-code.result.now c.work-code.ensures).inside

pub value_of_code-value-requires-clause-good : goal.value_of_code-value-requires-clause-good
value_of_code-value-requires-clause-good c =
    let m = c.args.self.now in
    let x = c.index_mut-processor.result.now in
    let read = c.index_mut-processor.ensures.value in
    let (target, e, guard, line, statement) = c.requires.statement in
    let (cells, at) = cells_there m c.requires.ready c.args.p x c.requires.worker read c.args.stop c.requires.next in
    let back = written_back m.loops.len c.write_to.new.loops m.loops.items m.loops.ok.0 (c.write_to.auto.loops ∙ ap (λ (l : List ℤ). length l) c.deref_mut.ensures.value) in
    let written = back ∙ c.write_to.ensures ∙ ap (λ (l : List ℤ). with_rounds l (rounds_of c.path.result.now)) c.deref_mut.ensures.value ∙ ap (with_rounds m.loops.items) c.path.ensures in
    let coded = store_code m c.requires.ready c.args.p x c.requires.worker read c.args.stop c.requires.next cells at c.requires.loaded e target guard line statement c.work-code.result.now c.work-code.ensures in
    coded.good _ _ (store_valued m c.requires.ready c.args.p x c.requires.worker read c.args.stop c.requires.next cells at c.requires.loaded e target guard line statement c.deref.result.now c.deref-2.result.now (c.deref.ensures.value ∙ written) c.deref-2.ensures.value)

pub offset_bounds-processor-place : goal.offset_bounds-processor-place
offset_bounds-processor-place c =
    let m = c.args.self.now in
    let ready = c.requires.ready in
    let x = c.index_mut-processor.result.now in
    let read = c.index_mut-processor.ensures.value in
    let slot = slot_here m ready c.args.p x c.requires.worker read c.args.stop c.requires.next c.args.spot c.requires.own in
    omega (arith, slot_small (tree_in m) (plan_in m) x.turns.place c.args.spot.cell c.in-Some.place (few_here m ready c.args.p x c.requires.worker read c.args.stop c.requires.next) (slot ∙ c.in-Some.is))

pub bounds-processor-place : goal.bounds-processor-place
bounds-processor-place c =
    let m = c.args.self.now in
    let ready = c.requires.ready in
    let x = c.index_mut-processor.result.now in
    let read = c.index_mut-processor.ensures.value in
    let slot = slot_here m ready c.args.p x c.requires.worker read c.args.stop c.requires.next c.args.spot c.requires.own in
    slot_small (tree_in m) (plan_in m) x.turns.place c.args.spot.cell c.in-Some.place (few_here m ready c.args.p x c.requires.worker read c.args.stop c.requires.next) (slot ∙ c.in-Some.is)

pub index_mut-requires : goal.index_mut-requires
index_mut-requires c =
    let m = c.args.self.now in
    let x = c.index_mut-processor.result.now in
    let read = c.index_mut-processor.ensures.value in
    let (cells, at) = cells_there m c.requires.ready c.args.p x c.requires.worker read c.args.stop c.requires.next in
    let stores = stores_here m c.requires.ready c.args.p x c.requires.worker read c.args.stop c.requires.next c.args.spot.cell c.requires.stores in
    omega (arith, stored_below m c.requires.ready c.args.p x c.requires.worker read c.args.stop c.requires.next cells at c.requires.loaded c.args.spot.cell stores, c.requires.ready.cells)

pub finish-requires-clause-sound : goal.finish-requires-clause-sound
finish-requires-clause-sound c =
    let x = c.index_mut-processor.result.now in
    let sound = (kept_here c.args.self.now c.requires.ready c.args.p x x c.requires.worker c.index_mut-processor.ensures.value).sound in
    elim c.match-spot.branch [
      | in-Some w ↦ subst (λ (z : Processor). AreSound z.turns) (sym w.processor-is) sound
      | in-None w ↦ subst (λ (z : Processor). AreSound z.turns) (sym w.processor-is) sound
    ]

pub finish-requires-clause-next : goal.finish-requires-clause-next
finish-requires-clause-next c =
    let x = c.index_mut-processor.result.now in
    let next = next_here c.args.self.now c.requires.ready c.args.p x x c.requires.worker c.index_mut-processor.ensures.value (Work c.args.stop) c.requires.next in
    elim c.match-spot.branch [
      | in-Some w ↦ subst (λ (z : Processor). IsNext z.turns (Work c.args.stop)) (sym w.processor-is) next
      | in-None w ↦ subst (λ (z : Processor). IsNext z.turns (Work c.args.stop)) (sym w.processor-is) next
    ]

pub returns : goal.returns
returns c =
    let m = c.args.self.now in
    let ready = c.requires.ready in
    let x = c.index_mut-processor.result.now in
    let read = c.index_mut-processor.ensures.value in
    let slot = slot_here m ready c.args.p x c.requires.worker read c.args.stop c.requires.next c.args.spot c.requires.own in
    let (target, e, guard, line, statement) = c.requires.statement in
    let (cells, at) = cells_there m ready c.args.p x c.requires.worker read c.args.stop c.requires.next in
    let z = c.match-spot.processor in
    let y = c.finish.new.self in
    let back = written_back m.loops.len c.write_to.new.loops m.loops.items m.loops.ok.0 (c.write_to.auto.loops ∙ ap (λ (l : List ℤ). length l) c.deref_mut.ensures.value) in
    let written = back ∙ c.write_to.ensures ∙ ap (λ (l : List ℤ). with_rounds l (rounds_of c.path.result.now)) c.deref_mut.ensures.value ∙ ap (with_rounds m.loops.items) c.path.ensures in
    let (t, passed) = c.finish.ensures.passes in
    let turns : z.turns ≡ x.turns = elim c.match-spot.branch [ in-Some w ↦ ap (λ (u : Processor). u.turns) w.processor-is | in-None w ↦ ap (λ (u : Processor). u.turns) w.processor-is ] in
    let capacity : vec_capacity z.registers ≡ vec_capacity x.registers = elim c.match-spot.branch [ in-Some w ↦ ap (λ (u : Processor). vec_capacity u.registers) w.processor-is | in-None w ↦ ap (λ (u : Processor). vec_capacity u.registers) w.processor-is ] in
    let counter : z.counter ≡ x.counter = elim c.match-spot.branch [ in-Some w ↦ ap (λ (u : Processor). u.counter) w.processor-is | in-None w ↦ ap (λ (u : Processor). u.counter) w.processor-is ] in
    let signal : z.signal ≡ x.signal = elim c.match-spot.branch [ in-Some w ↦ ap (λ (u : Processor). u.signal) w.processor-is | in-None w ↦ ap (λ (u : Processor). u.signal) w.processor-is ] in
    let passes = passed_from x z y t turns capacity passed in
    let fits : FitsSigned w64 c.value_of_code-value.result = search rules in
    let value = to_z-of_z w64 c.value_of_code-value.result fits in
    let after = c.match-spot.self.1.1.1.1.1.1.1.1.1.1.0 in
    let stored : Stores x y m.memory.items after.items c.args.spot.cell c.value_of_code-value.result c.args.spot.own = elim c.match-spot.branch [
      | in-Some w ↦ subst (Stores x y m.memory.items after.items c.args.spot.cell c.value_of_code-value.result) (sym w.in-Some.is)
          (to_own (c.finish.ensures.own_cells ∙ ap (λ (u : Processor). u.own) w.processor-is ∙ ap (set x.own w.in-Some.place) value) (ap (λ q. q.1.1.1.1.1.1.1.1.1.1.0.items) w.self-is))
      | in-None w ↦ subst (Stores x y m.memory.items after.items c.args.spot.cell c.value_of_code-value.result) (sym w.in-None.is)
          (to_shared (c.finish.ensures.own_cells ∙ ap (λ (u : Processor). u.own) w.processor-is) (ap (λ q. q.1.1.1.1.1.1.1.1.1.1.0.items) w.self-is ∙ ap (set m.memory.items c.args.spot.cell) value))
    ] in
    let coded = store_code m ready c.args.p x c.requires.worker read c.args.stop c.requires.next cells at c.requires.loaded e target guard line statement c.work-code.result.now c.work-code.ensures in
    let same = c.value_of_code-value.ensures.room ∙ ap (λ (l : List ℤ). length l) c.deref_mut-2.ensures.value in
    let filled = written_back m.code_registers.len c.value_of_code-value.new.registers m.code_registers.items m.code_registers.ok.0 same in
    code_filled m _ c.args.p Stepped (with_items m.code_registers c.value_of_code-value.new.registers) (ap (λ (l : List ℤ). length l) filled ∙ same)
    (store_steps m ready c.args.p x c.requires.worker read c.args.stop c.requires.next cells at c.requires.loaded e target guard line statement
    c.args.spot.cell (stores_here m ready c.args.p x c.requires.worker read c.args.stop c.requires.next c.args.spot.cell c.requires.stores)
    y t c.value_of_code-value.result c.deref.result.now c.deref-2.result.now c.deref-3.result.now (with_items m.loops c.write_to.new.loops) after c.args.spot.own passes (c.finish.ensures.counter ∙ counter) (c.finish.ensures.signal ∙ signal)
    slot stored (c.value_of_code-value.ensures.value (expression_of e) coded) (c.deref.ensures.value ∙ written) c.deref-2.ensures.value c.deref-3.ensures.value written)
