use Rattle.std.proofs.Common.{arith}
use Rattle.turns.proofs.MarkedPlaces.{first_is}
use Rattle.turns.proofs.pending.first_pending.Goals as goal

pub returns-then-pending-place-clause-first : goal.returns-then-pending-place-clause-first
returns-then-pending-place-clause-first c = first_is c.loop-place.place (omega arith) c.args.pending.now (omega arith) c.loop-place.invariant c.if-pending-place.true
