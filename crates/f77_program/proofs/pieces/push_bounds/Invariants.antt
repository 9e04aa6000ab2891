use Rattle.std.proofs.Common.{◌≡◌, ◌++◌, map, take}
use Rattle.std.specs.List.{flat_map}
use Rattle.f77_forms.specs.View as view
use Rattle.f77_program.specs.Pieces as spec
use Rattle.f77_program.proofs.pieces.push_bounds.Given as goal

abbrev pub invariant-loop-bound : goal.invariant-loop-bound
invariant-loop-bound l = spec.pieces_view l.pieces.items ≡ spec.pieces_view l.initial.pieces.items ++ flat_map spec.bound_pieces (map view.bound_of (take l.bound-index l.bounds))
