use Rattle.std.proofs.Common.{◌≡◌, drop, map}
use Rattle.std.specs.List.{flat_map}
use Rattle.f77_forms.specs.View.{bound_of}
use Rattle.f77_scene.specs.Limits.{bounds_past}
use Rattle.f77_program.specs.Firsts.{first_of}
use Rattle.f77_program.proofs.limits.declarator_past.Given as goal

abbrev pub invariant-loop-bound : goal.invariant-loop-bound
invariant-loop-bound l = first_of (flat_map (bounds_past l.known) (map bound_of (drop l.bound-index l.declarator.bounds.items))) ≡ first_of (flat_map (bounds_past l.known) (map bound_of l.declarator.bounds.items))
