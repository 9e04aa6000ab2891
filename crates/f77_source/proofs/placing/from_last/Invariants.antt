use Rattle.std.proofs.Common.{◌≡◌, drop, reverse}
use Rattle.f77_program.specs.Pieces.{names_view}
use Rattle.f77_source.proofs.placing.from_last.Given as goal

abbrev pub invariant-loop-place : goal.invariant-loop-place
invariant-loop-place l = l.names ≡ reverse (names_view (drop l.place l.texts))
