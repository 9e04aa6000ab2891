use Rattle.std.proofs.Common.{◌≡◌, drop}
use Rattle.f77_program.specs.Linear.{first_past}
use Rattle.f77_program.proofs.linear.first_past.Given as goal

abbrev pub invariant-loop-coefficient : goal.invariant-loop-coefficient
invariant-loop-coefficient l = first_past (drop l.coefficient-index l.pairs) ≡ first_past l.pairs
