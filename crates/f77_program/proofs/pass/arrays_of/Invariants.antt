use Rattle.std.proofs.Common.{◌≡◌, map, take}
use Rattle.f77_forms.specs.View.{declarator_of}
use Rattle.f77_scene.specs.Behind as behind
use Rattle.f77_program.specs.Passed.{array_of}
use Rattle.f77_program.proofs.pass.arrays_of.Given as goal

abbrev pub invariant-loop-declarator : goal.invariant-loop-declarator
invariant-loop-declarator l = map array_of l.arrays.items ≡ behind.arrays_of l.known (map declarator_of (take l.declarator-index l.declarators))
