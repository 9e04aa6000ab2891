use Rattle.std.proofs.Common.{◌≡◌, ◌||◌, take, filter}
use Rattle.f77_program.specs.Numbered.{texts_of}
use Rattle.f77_scene.specs.Scene.{is_array, is_among}
use Rattle.f77_source.proofs.variable.variables_of.Given as goal

abbrev pub invariant-loop-name : goal.invariant-loop-name
invariant-loop-name l = l.names ≡ filter (λ n. is_array l.known n || is_among l.known.scalars n) (texts_of (take l.name-index l.name-items))
