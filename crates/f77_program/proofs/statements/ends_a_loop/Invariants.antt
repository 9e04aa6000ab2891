use Rattle.std.proofs.Common.{◌≡◌, map, drop}
use Rattle.f77_scene.specs.Tests.{ends_a_loop}
use Rattle.f77_program.specs.Known.{open_of}
use Rattle.f77_program.proofs.statements.ends_a_loop.Given as goal

abbrev pub invariant-loop-open : goal.invariant-loop-open
invariant-loop-open l = ends_a_loop l.label (map open_of (drop l.open-index l.opened)) ≡ ends_a_loop l.label (map open_of l.opened)
