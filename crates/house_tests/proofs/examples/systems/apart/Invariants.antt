use Rattle.std.proofs.Common.{◌≡◌}
use Rattle.house_tests.proofs.examples.systems.apart.Given as goal

abbrev pub invariant-loop-coef : goal.invariant-loop-coef
invariant-loop-coef l = l.system.vars ≡ 1
