use Rattle.std.proofs.Common.{◌≡◌, drop}
use Rattle.f77_program.specs.Measures.{inner_reaches}
use Rattle.f77_program.specs.Reaches.{also}
use Rattle.f77_program.proofs.measures.inner_reaches.Given as goal

abbrev pub invariant-loop-argument : goal.invariant-loop-argument
invariant-loop-argument l = also l.reach (inner_reaches (drop l.argument-index l.arguments)) ≡ inner_reaches l.arguments
