use Rattle.std.proofs.Common.{◌≡◌, take, map}
use Rattle.f77_forms.specs.View.{definition_of}
use Rattle.f77_program.specs.Pieces.{names_view}
use Rattle.f77_program.proofs.declared.definition_names.Given as goal

abbrev pub invariant-loop-definition : goal.invariant-loop-definition
invariant-loop-definition l = names_view l.names.items ≡ map (λ d. d.name) (map definition_of (take l.definition-index l.definitions))
