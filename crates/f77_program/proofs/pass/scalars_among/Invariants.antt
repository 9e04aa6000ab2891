use Rattle.std.proofs.Common.{◌≡◌, take}
use Rattle.f77_program.specs.Passed.{scalars_among}
use Rattle.f77_program.specs.Pieces.{names_view}
use Rattle.f77_program.proofs.pass.scalars_among.Given as goal

abbrev pub invariant-loop-name : goal.invariant-loop-name
invariant-loop-name l = names_view l.scalars.items ≡ scalars_among l.known (names_view (take l.name-index l.names))
