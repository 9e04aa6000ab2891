use Rattle.turns.proofs.MarkedPlaces.{NoneBefore}
use Rattle.turns.proofs.pending.first_pending.Given as goal

abbrev pub invariant-loop-place : goal.invariant-loop-place
invariant-loop-place l = NoneBefore l.pending l.place
