use Rattle.std.proofs.Common.{◌≡◌, drop}
use Rattle.f77_program.specs.Measures.{linear_reaches}
use Rattle.f77_program.specs.Reaches.{also}
use Rattle.f77_program.proofs.measures.linear_reaches.Given as goal

abbrev pub invariant-loop-argument : goal.invariant-loop-argument
invariant-loop-argument l = also l.reach (linear_reaches (drop l.argument-index l.arguments)) ≡ linear_reaches l.arguments
