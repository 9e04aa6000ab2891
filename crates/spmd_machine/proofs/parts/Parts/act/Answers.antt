use Rattle.std.proofs.Common.{◌<◌, length, refl, arith}
use Rattle.spmd_machine.specs.declared.answer.StepAnswer.TheVariants.{Ended}
use Rattle.spmd_machine.proofs.Ready.{at_end, steps_from}
use Rattle.spmd_machine.proofs.parts.Parts.act.Goals as goal

pub returns-in-Post : goal.returns-in-Post
returns-in-Post c = steps_from c.args.self.now c.peek.new.self c.post.new.self c.args.p c.post.result c.peek.ensures.same c.peek.ensures.state c.post.ensures

pub returns-in-Await : goal.returns-in-Await
returns-in-Await c = steps_from c.args.self.now c.peek.new.self c.await_counter.new.self c.args.p c.await_counter.result c.peek.ensures.same c.peek.ensures.state c.await_counter.ensures

pub returns-in-Signal : goal.returns-in-Signal
returns-in-Signal c = steps_from c.args.self.now c.peek.new.self c.signal.new.self c.args.p c.signal.result c.peek.ensures.same c.peek.ensures.state c.signal.ensures

pub returns-in-AwaitSignal : goal.returns-in-AwaitSignal
returns-in-AwaitSignal c = steps_from c.args.self.now c.peek.new.self c.await_signal.new.self c.args.p c.await_signal.result c.peek.ensures.same c.peek.ensures.state c.await_signal.ensures

pub returns-in-Work : goal.returns-in-Work
returns-in-Work c = steps_from c.args.self.now c.peek.new.self c.work.new.self c.args.p c.work.result c.peek.ensures.same c.peek.ensures.state c.work.ensures

pub returns-in-Close : goal.returns-in-Close
returns-in-Close c = steps_from c.args.self.now c.peek.new.self c.close.new.self c.args.p c.close.result c.peek.ensures.same c.peek.ensures.state c.close.ensures

pub returns-in-End : goal.returns-in-End
returns-in-End c =
    let n = c.peek.new.self in
    let lt : c.args.p < length n.processors.items = omega (arith, c.peek.ensures.same.count, c.requires.worker) in
    let end = at_end n c.peek.ensures.ready c.args.p lt c.in-End.ensures.next in
    steps_from c.args.self.now n n c.args.p Ended c.peek.ensures.same c.peek.ensures.state (record { ready = c.peek.ensures.ready; same = record { program = refl; plan = refl; style = refl; count = refl }; state = end.0; answer = end.1 })
