use Rattle.std.proofs.Common.{◌<◌, false, length, inl, inr, subst, sym, arith}
use Rattle.spmd_machine.specs.Machines.{ComesNext}
use Rattle.spmd_machine.proofs.Quiets.{await_loud, await_signal_loud, end_is_loud, looked_quiet, post_loud, signal_loud}
use Rattle.spmd_machine.proofs.Settling.{goes_from}
use Rattle.spmd_machine.proofs.parts.Parts.act_quietly.Goals as goal

pub returns-in-Work-clause-quiet : goal.returns-in-Work-clause-quiet
returns-in-Work-clause-quiet c = sym (looked_quiet c.args.self.now c.peek.new.self c.args.p c.work_quietly.result c.peek.ensures.same c.peek.ensures.state (sym c.work_quietly.ensures.quiet))

pub returns-in-Work-clause-acts : goal.returns-in-Work-clause-acts
returns-in-Work-clause-acts c = goes_from c.args.self.now c.peek.new.self c.work_quietly.new.self c.args.p c.work_quietly.result c.peek.ensures.same c.peek.ensures.state c.work_quietly.ensures.acts

pub returns-in-Close-clause-quiet : goal.returns-in-Close-clause-quiet
returns-in-Close-clause-quiet c = sym (looked_quiet c.args.self.now c.peek.new.self c.args.p c.close_quietly.result c.peek.ensures.same c.peek.ensures.state (sym c.close_quietly.ensures.quiet))

pub returns-in-Close-clause-acts : goal.returns-in-Close-clause-acts
returns-in-Close-clause-acts c = goes_from c.args.self.now c.peek.new.self c.close_quietly.new.self c.args.p c.close_quietly.result c.peek.ensures.same c.peek.ensures.state c.close_quietly.ensures.acts

pub returns-in-Post-clause-quiet : goal.returns-in-Post-clause-quiet
returns-in-Post-clause-quiet c =
    let n = c.peek.new.self in
    let lt : c.args.p < length n.processors.items = omega (arith, c.peek.ensures.same.count, c.requires.worker) in
    sym (looked_quiet c.args.self.now n c.args.p false c.peek.ensures.same c.peek.ensures.state (elim c.in-Post.is [
      | inl (number, is) ↦ post_loud n c.peek.ensures.ready c.args.p number lt (subst (ComesNext n c.args.p) is c.peek.ensures.next)
      | inr (on, wanted, is) ↦ await_loud n c.peek.ensures.ready c.args.p on wanted lt (subst (ComesNext n c.args.p) is c.peek.ensures.next)
    ]))

pub returns-in-Signal-clause-quiet : goal.returns-in-Signal-clause-quiet
returns-in-Signal-clause-quiet c =
    let n = c.peek.new.self in
    let lt : c.args.p < length n.processors.items = omega (arith, c.peek.ensures.same.count, c.requires.worker) in
    sym (looked_quiet c.args.self.now n c.args.p false c.peek.ensures.same c.peek.ensures.state (elim c.in-Signal.is [
      | inl (number, is) ↦ signal_loud n c.peek.ensures.ready c.args.p number lt (subst (ComesNext n c.args.p) is c.peek.ensures.next)
      | inr (on, wanted, is) ↦ await_signal_loud n c.peek.ensures.ready c.args.p on wanted lt (subst (ComesNext n c.args.p) is c.peek.ensures.next)
    ]))

pub returns-in-End-clause-quiet : goal.returns-in-End-clause-quiet
returns-in-End-clause-quiet c =
    let n = c.peek.new.self in
    let lt : c.args.p < length n.processors.items = omega (arith, c.peek.ensures.same.count, c.requires.worker) in
    sym (looked_quiet c.args.self.now n c.args.p false c.peek.ensures.same c.peek.ensures.state (end_is_loud n c.peek.ensures.ready c.args.p lt c.in-End.ensures.next))
