use Rattle.std.proofs.Common.{◌≡◌, ◌++◌, take}
use Rattle.std.specs.List.{flat_map}
use Rattle.f77_scene.specs.Expressions.{name_in}
use Rattle.f77_program.specs.Operands.{forms_of}
use Rattle.f77_program.specs.Pieces.{names_view}
use Rattle.f77_program.proofs.pieces.push_names.Given as goal

abbrev pub invariant-loop-part : goal.invariant-loop-part
invariant-loop-part l = names_view l.names.items ≡ names_view l.initial.names.items ++ flat_map (name_in l.known) (forms_of (take l.part-index l.part-items))
