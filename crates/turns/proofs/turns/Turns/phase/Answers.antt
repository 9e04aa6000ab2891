use Rattle.turns.proofs.Calls.{counter_stands}
use Rattle.turns.proofs.turns.Turns.phase.Goals as goal

pub phase-requires-clause-some : goal.phase-requires-clause-some
phase-requires-clause-some c = (counter_stands c.args.self.now c.requires.next.0 c.requires.next.1).1

pub phase-requires-clause-next : goal.phase-requires-clause-next
phase-requires-clause-next c = (c.requires.next.0, (counter_stands c.args.self.now c.requires.next.0 c.requires.next.1).0)

pub returns : goal.returns
returns c = λ number next. c.phase.ensures number (counter_stands c.args.self.now number next).0
