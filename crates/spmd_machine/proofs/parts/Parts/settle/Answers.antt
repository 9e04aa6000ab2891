use Rattle.std.proofs.Common.{sym, ◌∙◌, ap}
use Rattle.turns.specs.Turns.{has_own}
use Rattle.spmd_machine.proofs.NoneQuiet.{settled_without}
use Rattle.spmd_machine.proofs.Ready.{kept_here}
use Rattle.spmd_machine.proofs.parts.Parts.settle.Goals as goal

pub has_own-requires : goal.has_own-requires
has_own-requires c = (kept_here c.args.self.now c.requires.ready c.args.p c.index.result.now c.index.result.now c.requires.worker c.index.ensures).sound

pub returns-else-has_own-clause-state : goal.returns-else-has_own-clause-state
returns-else-has_own-clause-state c =
    let x = c.index.result.now in
    let kept = kept_here c.args.self.now c.requires.ready c.args.p x x c.requires.worker c.index.ensures in
    settled_without c.args.self.now c.requires.ready (ap has_own (sym kept.plan_is) ∙ sym c.has_own.ensures ∙ c.if-has_own.false) c.args.p c.requires.worker
