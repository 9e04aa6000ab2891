use Rattle.std.proofs.Common.{◌≡◌, drop, map}
use Rattle.std.specs.List.{flat_map}
use Rattle.f77_forms.specs.View.{declarator_of}
use Rattle.f77_scene.specs.Limits.{declarator_past}
use Rattle.f77_program.specs.Firsts.{first_of}
use Rattle.f77_program.proofs.limits.declarators_past.Given as goal

abbrev pub invariant-loop-declarator : goal.invariant-loop-declarator
invariant-loop-declarator l = first_of (flat_map (declarator_past l.known) (map declarator_of (drop l.declarator-index l.declarators))) ≡ first_of (flat_map (declarator_past l.known) (map declarator_of l.declarators))
