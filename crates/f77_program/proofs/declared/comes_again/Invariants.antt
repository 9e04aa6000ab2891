use Rattle.std.proofs.Common.{◌≡◌, ◌++◌, drop}
use Rattle.f77_scene.specs.Scene as scene
use Rattle.f77_program.specs.Bases.{base_of}
use Rattle.f77_program.specs.Pieces.{names_view}
use Rattle.f77_program.proofs.declared.comes_again.Given as goal

abbrev pub invariant-loop-name : goal.invariant-loop-name
invariant-loop-name l = scene.comes_again (base_of l.known l.integer ++ l.front) (names_view (drop l.name-index l.names)) ≡ scene.comes_again (base_of l.known l.integer) (names_view l.names)
