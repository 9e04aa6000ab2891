use Rattle.std.proofs.Common.{refl}
use Rattle.turns.specs.declared.turns.Next.TheVariants.{Post}
use Rattle.spmd_machine.specs.declared.processor.Processor.{Processor}
use Rattle.spmd_machine.proofs.Kept.{passed_from}
use Rattle.spmd_machine.proofs.Ready.{kept_here, next_here}
use Rattle.spmd_machine.proofs.Words.{post_steps}
use Rattle.spmd_machine.proofs.parts.Parts.post.Goals as goal

pub finish-requires-clause-sound : goal.finish-requires-clause-sound
finish-requires-clause-sound c =
    let x = c.index_mut-processor.result.now in
    (kept_here c.args.self.now c.requires.ready c.args.p x x c.requires.worker c.index_mut-processor.ensures.value).sound

pub finish-requires-clause-next : goal.finish-requires-clause-next
finish-requires-clause-next c =
    let x = c.index_mut-processor.result.now in
    next_here c.args.self.now c.requires.ready c.args.p x x c.requires.worker c.index_mut-processor.ensures.value (Post c.args.number) c.requires.next

pub returns : goal.returns
returns c =
    let m = c.args.self.now in
    let x = c.index_mut-processor.result.now in
    let read = c.index_mut-processor.ensures.value in
    let y = c.finish.new.self in
    let (t, passes) = c.finish.ensures.passes in
    let next = next_here m c.requires.ready c.args.p x x c.requires.worker read (Post c.args.number) c.requires.next in
    let z : Processor = record x { counter = c.args.number } in
    post_steps m c.requires.ready c.args.p x y c.requires.worker read c.args.number t next.0.0 next.0.1 (passed_from x z y t refl refl passes) c.finish.ensures.own_cells c.finish.ensures.counter c.finish.ensures.signal
