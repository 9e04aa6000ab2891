use Rattle.std.proofs.Common.{◌≡◌, map}
use Rattle.comm_system.specs.OwnerRows.{choices}
use Rattle.comm_system.specs.PieceViews.{sides_seen}
use Rattle.comm_system.proofs.pieces.choices.Given as goal

abbrev pub invariant-loop-index : goal.invariant-loop-index
invariant-loop-index l = map sides_seen l.all.items ≡ choices l.index
