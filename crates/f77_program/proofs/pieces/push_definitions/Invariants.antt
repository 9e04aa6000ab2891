use Rattle.std.proofs.Common.{◌≡◌, ◌++◌, map, take}
use Rattle.std.specs.List.{flat_map}
use Rattle.f77_forms.specs.View as view
use Rattle.f77_program.specs.Pieces as spec
use Rattle.f77_program.proofs.pieces.push_definitions.Given as goal

abbrev pub invariant-loop-definition : goal.invariant-loop-definition
invariant-loop-definition l = spec.pieces_view l.pieces.items ≡ spec.pieces_view l.initial.pieces.items ++ flat_map spec.definition_pieces (map view.definition_of (take l.definition-index l.definitions))
