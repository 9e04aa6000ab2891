-- Pieces as plain data.
use Rattle.std.specs.Prelude.{List, map}
use Rattle.std.specs.Global.{Vec}
use Rattle.comm_system.specs.OwnerRows.{Direction, Piece, above, below}
use Rattle.comm_system.specs.declared.pieces.Direction.{Direction as HeldDirection}
use Rattle.comm_system.specs.declared.pieces.Direction.TheVariants.{Above, Below}
use Rattle.comm_system.specs.declared.pieces.Piece.{Piece as HeldPiece}

abbrev pub direction_seen : HeldDirection → Direction
direction_seen Below = below
direction_seen Above = above

abbrev pub sides_seen : Vec HeldDirection → List Direction
sides_seen v = map direction_seen v.items

abbrev pub piece_in : Direction → List Direction → Piece
piece_in range producers = record { range = range; producers = producers }

abbrev pub piece_seen : HeldPiece → Piece
piece_seen p = piece_in (direction_seen p.range) (sides_seen p.producers)
