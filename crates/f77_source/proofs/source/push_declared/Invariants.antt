use Rattle.std.proofs.Common.{◌≡◌, ◌++◌, map, take}
use Rattle.f77_forms.specs.View.{declarator_of}
use Rattle.f77_scene.specs.Statements.{declarator_names}
use Rattle.f77_source.proofs.source.push_declared.Given as goal

abbrev pub invariant-loop-declarator : goal.invariant-loop-declarator
invariant-loop-declarator l = l.names ≡ l.initial.names ++ declarator_names (map declarator_of (take l.declarator-index l.declarators))
