use Rattle.std.proofs.Common.{ap, inl, inr}
use Rattle.nest_tree.specs.View.{statement_of}
use Rattle.spmd_machine.proofs.Kept.{picked}
use Rattle.spmd_machine.proofs.LastSteps.{no_other}
use Rattle.spmd_machine.proofs.parts.Parts.last_act.Goals as goal

pub unreachable-requires : goal.unreachable-requires
unreachable-requires c =
    let m = c.args.self.now in
    let (x, read) = picked m.processors.items c.args.p c.requires.worker in
    elim c.in-Loop.is [
      | inl (nest, is) ↦ no_other m c.requires.ready c.args.p x c.requires.worker read c.args.stop c.requires.next _ (ap statement_of is) (λ w clash. cc)
      | inr (line, is) ↦ no_other m c.requires.ready c.args.p x c.requires.worker read c.args.stop c.requires.next _ (ap statement_of is) (λ w clash. cc)
    ]
