use Rattle.std.proofs.Common.{◌≡◌, ◌++◌, drop, map}
use Rattle.comm_system.specs.PieceViews.{direction_seen, piece_in, piece_seen, sides_seen}
use Rattle.comm_system.proofs.pieces.push_pieces.Given as goal

abbrev pub invariant-loop-one : goal.invariant-loop-one
invariant-loop-one l =
    map piece_seen l.all.items ++ map (piece_in (direction_seen l.range)) (map sides_seen (drop l.one-index l.sides))
    ≡ map piece_seen l.initial.all.items ++ map (piece_in (direction_seen l.range)) (map sides_seen l.sides)
