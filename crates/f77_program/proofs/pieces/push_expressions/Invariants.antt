use Rattle.std.proofs.Common.{◌≡◌, ◌++◌, map, take}
use Rattle.f77_forms.specs.View as view
use Rattle.f77_program.specs.Pieces as spec
use Rattle.f77_program.proofs.pieces.push_expressions.Given as goal

abbrev pub invariant-loop-e : goal.invariant-loop-e
invariant-loop-e l = spec.pieces_view l.pieces.items ≡ spec.pieces_view l.initial.pieces.items ++ map spec.expressed (map view.expression_of (take l.e-index l.expressions))
