use Rattle.std.proofs.Common.{◌≡◌, ◌==◌, not, false, ap, inl, inr, sym, ◌∙◌, arith}
use Rattle.std.proofs.lemmas.Bool.{cases_Bool, eqb-true}
use Rattle.spmd_machine.proofs.Closings.{close_quiet}
use Rattle.spmd_machine.proofs.parts.Parts.close_quietly.Goals as goal

pub returns-then-index-eq1-clause-quiet : goal.returns-then-index-eq1-clause-quiet
returns-then-index-eq1-clause-quiet c =
    let one : c.index.result.now.done ≡ 1 = omega (arith, c.if-index-eq1.true) in
    sym (close_quiet c.args.self.now c.requires.ready c.args.p c.index.result.now c.requires.worker c.index.ensures c.args.place c.requires.next ∙ ap (λ n. not (n == 1)) one)

pub returns-clause-quiet : goal.returns-clause-quiet
returns-clause-quiet c =
    let other : (c.index.result.now.done == 1) ≡ false =
    elim (cases_Bool (c.index.result.now.done == 1)) [
      | inl yes_it_is ↦ absurd (omega (arith, eqb-true c.index.result.now.done 1 yes_it_is, c.if-index-eq1.false))
      | inr off ↦ off
    ] in
    sym (close_quiet c.args.self.now c.requires.ready c.args.p c.index.result.now c.requires.worker c.index.ensures c.args.place c.requires.next ∙ ap not other)
