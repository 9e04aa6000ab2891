use Rattle.std.proofs.Common.{map, length}
use Rattle.std.specs.Vec.Iter.{into_iter_items}
use Rattle.f77_forms.specs.View.{definition_of}
use Rattle.f77_forms.specs.State.{piece_of}
use Rattle.f77_forms.specs.Statements.{listed, definition_next}
use Rattle.f77_forms.proofs.Listed.{Rests}
use Rattle.f77_forms.proofs.statement.definitions_from.Given as goal

-- those so far, and the pieces to come
abbrev pub invariant-loop-pieces : goal.invariant-loop-pieces
invariant-loop-pieces l = Rests definition_next (listed definition_next (map piece_of (into_iter_items l.fn.pieces))) (map definition_of l.definitions.items) (map piece_of (into_iter_items l.pieces))

abbrev pub decreases-loop-pieces : goal.decreases-loop-pieces
decreases-loop-pieces l = length (into_iter_items l.pieces)
