use Rattle.std.proofs.Common.{refl, ap, ◌∙◌}
use Rattle.turns.specs.declared.turns.Next.TheVariants.{Close}
use Rattle.spmd_machine.specs.declared.processor.Processor.{Processor}
use Rattle.spmd_machine.proofs.Closings.{is_sum, total_cleared}
use Rattle.spmd_machine.proofs.Kept.{passed_from}
use Rattle.spmd_machine.proofs.Ready.{kept_here, next_here}
use Rattle.spmd_machine.proofs.parts.Parts.clear_total.Goals as goal

pub finish-requires-clause-sound : goal.finish-requires-clause-sound
finish-requires-clause-sound c =
    let x = c.index_mut-processor.result.now in
    (kept_here c.args.self.now c.requires.ready c.args.p x x c.requires.worker c.index_mut-processor.ensures.value).sound

pub finish-requires-clause-next : goal.finish-requires-clause-next
finish-requires-clause-next c =
    let x = c.index_mut-processor.result.now in
    next_here c.args.self.now c.requires.ready c.args.p x x c.requires.worker c.index_mut-processor.ensures.value (Close c.args.place) c.requires.next

pub returns : goal.returns
returns c =
    let m = c.args.self.now in
    let ready = c.requires.ready in
    let x = c.index_mut-processor.result.now in
    let read = c.index_mut-processor.ensures.value in
    let two = ap (λ (z : Processor). z.done) read ∙ c.requires.added x in
    let big = is_sum m ready c.args.p x c.requires.worker read c.args.place c.requires.next two in
    let (t, passed) = c.finish.ensures.passes in
    let y = c.finish.new.self in
    total_cleared m ready c.args.p x c.requires.worker read c.args.place c.requires.next y t big two (passed_from x _ y t refl refl passed) c.finish.ensures.own_cells c.finish.ensures.counter c.finish.ensures.signal
