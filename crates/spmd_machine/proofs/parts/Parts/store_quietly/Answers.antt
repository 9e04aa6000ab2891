use Rattle.std.proofs.Common.{ap, inl, inr, refl, sym}
use Rattle.nest_tree.specs.View.{statement_of}
use Rattle.spmd_machine.proofs.Kept.{picked}
use Rattle.spmd_machine.proofs.LastSteps.{cells_there, no_other, no_store}
use Rattle.spmd_machine.proofs.WorkQuiets.{print_quiet}
use Rattle.spmd_machine.proofs.parts.Parts.store_quietly.Goals as goal

pub unreachable-requires : goal.unreachable-requires
unreachable-requires c =
    let m = c.args.self.now in
    let (x, read) = picked m.processors.items c.args.p c.requires.worker in
    elim c.in-Loop.is [
      | inl (nest, is) ↦ no_other m c.requires.ready c.args.p x c.requires.worker read c.args.stop c.requires.next _ (ap statement_of is) (λ w clash. cc)
      | inr (line, is) ↦ no_other m c.requires.ready c.args.p x c.requires.worker read c.args.stop c.requires.next _ (ap statement_of is) (λ w clash. cc)
    ]

pub returns-in-Print-clause-quiet : goal.returns-in-Print-clause-quiet
returns-in-Print-clause-quiet c =
    let m = c.args.self.now in
    let (x, read) = picked m.processors.items c.args.p c.requires.worker in
    let (cells, at) = cells_there m c.requires.ready c.args.p x c.requires.worker read c.args.stop c.requires.next in
    let none = no_store m c.requires.ready c.args.p x c.requires.worker read c.args.stop c.requires.next cells at c.requires.loaded _ _ _ c.in-Print.is refl in
    sym (print_quiet m c.requires.ready c.args.p x c.requires.worker read c.args.stop c.requires.next cells at c.requires.loaded none)
