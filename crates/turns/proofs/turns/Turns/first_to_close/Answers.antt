use Rattle.std.proofs.Common.{ap}
use Rattle.turns.specs.Turns.{places_pending}
use Rattle.turns.proofs.turns.Turns.first_to_close.Goals as goal

pub returns-else-self-clause-first : goal.returns-else-self-clause-first
returns-else-self-clause-first c = ap places_pending (c.requires.unwatched c.if-self.false).none
