use Rattle.std.proofs.Common.{◌∙◌, subst}
use Rattle.turns.specs.TurnsLeft.{LooksPlainly}
use Rattle.fork_join.proofs.Shutting.{none_is, shut_begun}
use Rattle.fork_join.proofs.cursor.Cursor.peek.Goals as goal

pub returns-in-Phase-clause-sound : goal.returns-in-Phase-clause-sound
returns-in-Phase-clause-sound c =
    let old = c.args.self.now in
    let t = c.peek_or_begin-next.new.self in
    let went = c.peek_or_begin-next.ensures in
    let none = none_is old.begins c.in_default.not-Some in
    let plainly = subst (LooksPlainly old.turns t) c.in-Phase.is (went.plain c.requires.arrives) in
    record { sound = went.sound; arrives = went.same.style ∙ c.requires.arrives; shut = λ e is. shut_begun old t _ c.requires none went.same went.left plainly }
