use Rattle.std.proofs.Common.{◌≡◌, map, vec_len}
use Rattle.f77_scene.specs.Tests.{left_open}
use Rattle.f77_program.specs.Known.{open_of}
use Rattle.f77_program.proofs.known.close.Given as goal

abbrev pub invariant-loop-opened : goal.invariant-loop-opened
invariant-loop-opened l = left_open l.label (map open_of l.opened.items) ≡ left_open l.label (map open_of l.initial.opened.items)

abbrev pub decreases-loop-opened : goal.decreases-loop-opened
decreases-loop-opened l = vec_len l.opened
