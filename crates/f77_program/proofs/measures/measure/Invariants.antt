use Rattle.std.proofs.Common.{◌≡◌, reverse, drop}
use Rattle.f77_program.specs.Measures.{measure_of}
use Rattle.f77_program.specs.Operands.{forms_of}
use Rattle.f77_program.specs.Stacks.{stacked}
use Rattle.f77_program.proofs.measures.measure.Given as goal

abbrev pub invariant-loop-place : goal.invariant-loop-place
invariant-loop-place l = l.stack.items ≡ reverse (stacked (measure_of l.known) (drop l.place (forms_of l.parts)))
