use Rattle.std.proofs.Common.{◌≡◌, take}
use Rattle.std.specs.List.{flat_map}
use Rattle.f77_program.specs.Operands.{forms_of}
use Rattle.f77_program.specs.Pieces.{piece_expressions, pieces_view}
use Rattle.f77_program.proofs.pieces.expressions_in.Given as goal

abbrev pub invariant-loop-piece : goal.invariant-loop-piece
invariant-loop-piece l = forms_of l.expressions.items ≡ flat_map (piece_expressions l.known l.printed) (pieces_view (take l.piece-index l.pieces))
