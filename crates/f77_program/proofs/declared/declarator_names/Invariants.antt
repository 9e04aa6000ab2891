use Rattle.std.proofs.Common.{◌≡◌, ◌++◌, drop, map}
use Rattle.f77_forms.specs.View.{declarator_of}
use Rattle.f77_program.specs.Bases.{names_declared}
use Rattle.f77_program.specs.Pieces.{names_view}
use Rattle.f77_program.proofs.declared.declarator_names.Given as goal

abbrev pub invariant-loop-declarator : goal.invariant-loop-declarator
invariant-loop-declarator l = names_view l.names.items ++ names_declared l.bounded (map declarator_of (drop l.declarator-index l.declarators)) ≡ names_declared l.bounded (map declarator_of l.declarators)
