use Rattle.std.proofs.Common.{◌≡◌, map, take}
use Rattle.f77_forms.specs.View.{bound_of}
use Rattle.f77_scene.specs.Limits as limits
use Rattle.f77_program.proofs.pass.bounds_among.Given as goal

abbrev pub invariant-loop-bound : goal.invariant-loop-bound
invariant-loop-bound l = l.values.items ≡ map (limits.bounds_of l.known) (map bound_of (take l.bound-index l.bounds))
