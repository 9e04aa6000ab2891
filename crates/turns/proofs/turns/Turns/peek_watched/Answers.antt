use Rattle.turns.proofs.turns.Turns.peek_watched.Goals as goal

pub shown-requires-clause-open : goal.shown-requires-clause-open
shown-requires-clause-open c = c.is_silent.ensures.open c.loop-self-test.false
