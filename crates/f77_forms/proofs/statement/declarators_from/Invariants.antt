use Rattle.std.proofs.Common.{map, length}
use Rattle.std.specs.Vec.Iter.{into_iter_items}
use Rattle.f77_forms.specs.View.{declarator_of}
use Rattle.f77_forms.specs.State.{piece_of}
use Rattle.f77_forms.specs.Statements.{listed, declarator_next}
use Rattle.f77_forms.proofs.Listed.{Rests}
use Rattle.f77_forms.proofs.statement.declarators_from.Given as goal

-- those so far, and the pieces to come
abbrev pub invariant-loop-alloc : goal.invariant-loop-alloc
invariant-loop-alloc l = Rests (declarator_next l.bounded) (listed (declarator_next l.bounded) (map piece_of (into_iter_items l.fn.pieces))) (map declarator_of l.declarators.items) (map piece_of (into_iter_items l.pieces))

abbrev pub decreases-loop-alloc : goal.decreases-loop-alloc
decreases-loop-alloc l = length (into_iter_items l.pieces)
