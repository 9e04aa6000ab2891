use Rattle.std.proofs.Common.{◌≡◌, drop}
use Rattle.f77_program.specs.Measures.{chosen_from}
use Rattle.f77_program.proofs.measures.chosen_among.Given as goal

abbrev pub invariant-loop-argument : goal.invariant-loop-argument
invariant-loop-argument l = chosen_from l.minimum l.value (drop l.argument-index l.others) ≡ chosen_from l.minimum l.initial.value l.others
