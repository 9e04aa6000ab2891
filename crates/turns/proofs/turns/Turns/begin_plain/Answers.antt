use Rattle.std.proofs.Common.{ap, sym, ◌∙◌}
use Rattle.turns.specs.Turns.{places_pending}
use Rattle.turns.proofs.Shown.{begins_plainly}
use Rattle.turns.proofs.turns.Turns.begin_plain.Goals as goal

pub returns-in-Phase-clause-plain : goal.returns-in-Phase-clause-plain
returns-in-Phase-clause-plain c = λ is.
    let look = c.look-next.ensures in
    let none = (c.requires.sound.unwatched c.requires.plain).none in
    (ap places_pending none, sym look.plain ∙ begins_plainly c.look-next.new.self.counters c.pass.new.self c.look-next.result c.in-Phase.phase look.looked.next c.in-Phase.is c.pass.ensures.passed)

pub returns-clause-plain : goal.returns-clause-plain
returns-clause-plain c = λ is. (c.look-next.ensures.plain, c.shown.ensures.end)
