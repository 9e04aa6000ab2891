use Rattle.std.proofs.Common.{◌≡◌, ◌++◌, drop, map, reverse}
use Rattle.f77_forms.specs.View.{expression_of}
use Rattle.f77_program.specs.Operands.{forms_of}
use Rattle.f77_program.proofs.parts.push_last_first.Given as goal

abbrev pub invariant-loop-place : goal.invariant-loop-place
invariant-loop-place l = forms_of l.waiting.items ≡ forms_of l.initial.waiting.items ++ reverse (map expression_of (drop l.place l.arguments))
