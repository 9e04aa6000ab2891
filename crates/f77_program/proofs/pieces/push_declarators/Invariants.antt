use Rattle.std.proofs.Common.{◌≡◌, ◌++◌, map, take}
use Rattle.std.specs.List.{flat_map}
use Rattle.f77_forms.specs.View as view
use Rattle.f77_program.specs.Pieces as spec
use Rattle.f77_program.proofs.pieces.push_declarators.Given as goal

abbrev pub invariant-loop-declarator : goal.invariant-loop-declarator
invariant-loop-declarator l = spec.pieces_view l.pieces.items ≡ spec.pieces_view l.initial.pieces.items ++ flat_map spec.declarator_pieces (map view.declarator_of (take l.declarator-index l.declarators))
