use Rattle.std.proofs.Common.{◌≡◌, ◌++◌, map, take}
use Rattle.std.specs.List.{flat_map}
use Rattle.f77_forms.specs.View as view
use Rattle.f77_program.specs.Pieces as spec
use Rattle.f77_program.proofs.pieces.push_items.Given as goal

abbrev pub invariant-loop-item : goal.invariant-loop-item
invariant-loop-item l = spec.pieces_view l.pieces.items ≡ spec.pieces_view l.initial.pieces.items ++ flat_map spec.item_pieces (map view.printed_of (take l.item-index l.items))
