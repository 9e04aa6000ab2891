use Rattle.std.proofs.Common.{◌≡◌, ℤ, List, ◌++◌, [], ◌∷◌, length, map, ap, sym, ◌∙◌, subst, arith, IsTrue, OnOk}
use Rattle.std.specs.List.{list_all}
use Rattle.std.specs.Vec.{with_items}
use Rattle.nest_tree.specs.View.{printed_of, tree_of}
use Rattle.nest_tree.specs.WellFormed.{is_number_of}
use Rattle.nest_model.specs.Memory.{items_text}
use Rattle.nest_walk.specs.ByNumber.{with_rounds}
use Rattle.nest_walk.specs.Paths.{Round}
use Rattle.nest_walk.specs.RoundsOf.{rounds_of}
use Rattle.seq_meaning.proofs.RunSteps.{written_back}
use Rattle.spmd_machine.proofs.LastSteps.{cells_there, numbers_there, print_fits, print_loads, print_steps, print_texts}
use Rattle.spmd_machine.proofs.Ready.{kept_here, next_here}
use Rattle.turns.specs.declared.turns.Next.TheVariants.{Work}
use Rattle.spmd_machine.proofs.parts.Parts.print.Goals as goal

pub write_to-requires : goal.write_to-requires
write_to-requires c =
    let numbered = numbers_there c.args.self.now c.requires.ready c.args.p c.index_mut-processor.result.now c.requires.worker c.index_mut-processor.ensures.value c.args.stop c.requires.next (length c.deref_mut.result.now) (ap (λ (l : List ℤ). length l) c.deref_mut.ensures.value) in
    subst (λ (rs : List Round). IsTrue (list_all (λ (r : Round). is_number_of (length c.deref_mut.result.now) r.number) rs)) (sym c.path.ensures) numbered

pub push_line-requires-clause-texts : goal.push_line-requires-clause-texts
push_line-requires-clause-texts c =
    let m = c.args.self.now in
    let x = c.index_mut-processor.result.now in
    let read = c.index_mut-processor.ensures.value in
    let (listed, line, statement, items_are) = c.requires.statement in
    let there = cells_there m c.requires.ready c.args.p x c.requires.worker read c.args.stop c.requires.next in
    let back = written_back m.loops.len c.write_to.new.loops m.loops.items m.loops.ok.0 (c.write_to.auto.loops ∙ ap (λ (l : List ℤ). length l) c.deref_mut.ensures.value) in
    let written = back ∙ c.write_to.ensures ∙ ap (λ (l : List ℤ). with_rounds l (rounds_of c.path.result.now)) c.deref_mut.ensures.value ∙ ap (with_rounds m.loops.items) c.path.ensures in
    print_texts m c.requires.ready c.args.p x c.requires.worker read c.args.stop c.requires.next there.0 there.1 c.requires.loaded listed line c.args.items.now statement items_are c.deref.result.now (c.deref.ensures.value ∙ written)

pub push_line-requires-clause-loads : goal.push_line-requires-clause-loads
push_line-requires-clause-loads c =
    let m = c.args.self.now in
    let x = c.index_mut-processor.result.now in
    let read = c.index_mut-processor.ensures.value in
    let (listed, line, statement, items_are) = c.requires.statement in
    let there = cells_there m c.requires.ready c.args.p x c.requires.worker read c.args.stop c.requires.next in
    omega (arith, print_loads m c.requires.ready c.args.p x c.requires.worker read c.args.stop c.requires.next there.0 there.1 c.requires.loaded listed line c.args.items.now statement items_are, ap (λ (l : List ℤ). length l) c.deref-3.ensures.value)

pub unwrap-requires : goal.unwrap-requires
unwrap-requires c =
    let m = c.args.self.now in
    let x = c.index_mut-processor.result.now in
    let read = c.index_mut-processor.ensures.value in
    let (listed, line, statement, items_are) = c.requires.statement in
    let there = cells_there m c.requires.ready c.args.p x c.requires.worker read c.args.stop c.requires.next in
    c.push_line.ensures.fits (print_fits m c.requires.ready c.args.p x c.requires.worker read c.args.stop c.requires.next there.0 there.1 c.requires.loaded listed line c.args.items.now statement items_are)

pub returns : goal.returns
returns c =
    let m = c.args.self.now in
    let x = c.index_mut-processor.result.now in
    let read = c.index_mut-processor.ensures.value in
    let (listed, line, statement, items_are) = c.requires.statement in
    let there = cells_there m c.requires.ready c.args.p x c.requires.worker read c.args.stop c.requires.next in
    let back = written_back m.loops.len c.write_to.new.loops m.loops.items m.loops.ok.0 (c.write_to.auto.loops ∙ ap (λ (l : List ℤ). length l) c.deref_mut.ensures.value) in
    let written = back ∙ c.write_to.ensures ∙ ap (λ (l : List ℤ). with_rounds l (rounds_of c.path.result.now)) c.deref_mut.ensures.value ∙ ap (with_rounds m.loops.items) c.path.ensures in
    let (t, passes) = c.finish.ensures.passes in
    let said = subst (λ r. OnOk r (c.push_line.new.self.bytes ≡ m.output.bytes ++ (items_text (tree_of m.program.now) c.deref.result.now (map printed_of c.args.items.now) c.deref-3.result.now ++ 10 ∷ []))) c.unwrap.ensures c.push_line.ensures.line in
    print_steps m c.requires.ready c.args.p x c.requires.worker read c.args.stop c.requires.next there.0 there.1 c.requires.loaded listed line c.args.items.now statement items_are
    c.finish.new.self t c.deref.result.now c.deref-3.result.now (with_items m.loops c.write_to.new.loops) c.push_line.new.self passes c.finish.ensures.counter c.finish.ensures.signal c.finish.ensures.own_cells (c.deref.ensures.value ∙ written) c.deref-3.ensures.value written said c.push_line.ensures.grown c.push_line.ensures.room

pub finish-requires-clause-sound : goal.finish-requires-clause-sound
finish-requires-clause-sound c =
    let x = c.index_mut-processor.result.now in
    (kept_here c.args.self.now c.requires.ready c.args.p x x c.requires.worker c.index_mut-processor.ensures.value).sound

pub finish-requires-clause-next : goal.finish-requires-clause-next
finish-requires-clause-next c =
    let x = c.index_mut-processor.result.now in
    next_here c.args.self.now c.requires.ready c.args.p x x c.requires.worker c.index_mut-processor.ensures.value (Work c.args.stop) c.requires.next
