use Rattle.std.proofs.Common.{◌≡◌, ◌++◌, length, reverse}
use Rattle.std.specs.List.{flat_map}
use Rattle.f77_forms.specs.View.{expression_of}
use Rattle.f77_scene.specs.Expressions.{parts_of}
use Rattle.f77_program.specs.Operands.{forms_of}
use Rattle.f77_program.proofs.parts.parts_of.Given as goal

abbrev pub invariant-loop-part : goal.invariant-loop-part
invariant-loop-part l = forms_of l.parts.items ++ flat_map parts_of (reverse (forms_of l.waiting.items)) ≡ parts_of (expression_of l.e)

abbrev pub decreases-loop-part : goal.decreases-loop-part
decreases-loop-part l = length (flat_map parts_of (reverse (forms_of l.waiting.items)))
