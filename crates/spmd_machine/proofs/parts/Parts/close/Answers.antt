use Rattle.std.proofs.Common.{inl, inr}
use Rattle.spmd_machine.proofs.Closings.{few_done}
use Rattle.spmd_machine.proofs.Ready.{done_is}
use Rattle.spmd_machine.proofs.parts.Parts.close.Goals as goal

pub load_total-requires-clause-none : goal.load_total-requires-clause-none
load_total-requires-clause-none c = done_is c.args.self.now c.args.p 0 c.index.result.now c.requires.worker c.index.ensures c.if-done-eq0.true

pub give_total-requires-clause-loaded : goal.give_total-requires-clause-loaded
give_total-requires-clause-loaded c = done_is c.args.self.now c.args.p 1 c.index.result.now c.requires.worker c.index.ensures c.if-done-eq1.true

pub clear_total-requires-clause-added : goal.clear_total-requires-clause-added
clear_total-requires-clause-added c =
    let x = c.index.result.now in
    done_is c.args.self.now c.args.p 2 x c.requires.worker c.index.ensures (elim (few_done c.args.self.now c.requires.ready c.args.p x c.requires.worker c.index.ensures c.args.place c.requires.next) [
      | inl none ↦ absurd (c.if-done-eq0.false none)
      | inr later ↦ elim later [ inl one ↦ absurd (c.if-done-eq1.false one) | inr two ↦ two ]
    ])
