use Rattle.std.proofs.Common.{◌≡◌, drop}
use Rattle.std.specs.List.{list_any}
use Rattle.f77_scene.specs.Tests.{is_unknown_call}
use Rattle.f77_program.specs.Operands.{forms_of}
use Rattle.f77_program.proofs.marks.has_unknown_call.Given as goal

abbrev pub invariant-loop-part : goal.invariant-loop-part
invariant-loop-part l = list_any (is_unknown_call l.known) (forms_of (drop l.part-index l.parts)) ≡ list_any (is_unknown_call l.known) (forms_of l.parts)
