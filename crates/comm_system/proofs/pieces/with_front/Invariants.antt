use Rattle.std.proofs.Common.{◌≡◌, ◌∷◌, take}
use Rattle.comm_system.proofs.pieces.with_front.Given as goal

abbrev pub invariant-loop-one : goal.invariant-loop-one
invariant-loop-one l = l.all.items ≡ l.fn.side ∷ take l.one-index l.sides
