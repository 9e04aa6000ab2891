use Rattle.std.proofs.Common.{◌≡◌, map, drop}
use Rattle.f77_scene.specs.Tests.{left_open}
use Rattle.f77_program.specs.Known.{open_of}
use Rattle.f77_program.proofs.statements.left_open.Given as goal

abbrev pub invariant-loop-place : goal.invariant-loop-place
invariant-loop-place l = left_open l.label (map open_of (drop l.place l.opened)) ≡ left_open l.label (map open_of l.opened)
