use Rattle.std.proofs.Common.{◌≡◌, take}
use Rattle.std.specs.List.{flat_map}
use Rattle.f77_program.specs.Pieces.{names_view, piece_names, pieces_view}
use Rattle.f77_program.proofs.pieces.names_in.Given as goal

abbrev pub invariant-loop-piece : goal.invariant-loop-piece
invariant-loop-piece l = names_view l.names.items ≡ flat_map (piece_names l.known) (pieces_view (take l.piece-index l.pieces))
