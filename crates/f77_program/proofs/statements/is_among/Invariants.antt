use Rattle.std.proofs.Common.{◌≡◌, drop}
use Rattle.std.specs.List.{list_any}
use Rattle.f77_scene.specs.Tests.{is_named}
use Rattle.f77_program.specs.Operands.{forms_of}
use Rattle.f77_program.proofs.statements.is_among.Given as goal

abbrev pub invariant-loop-part : goal.invariant-loop-part
invariant-loop-part l = list_any (is_named l.name) (forms_of (drop l.part-index l.parts)) ≡ list_any (is_named l.name) (forms_of l.parts)
