use Rattle.std.proofs.Common.{◌≡◌}
use Rattle.house_tests.proofs.systems.system_of.Given as goal

-- the number of variables stays
abbrev pub invariant-loop-row : goal.invariant-loop-row
invariant-loop-row l = l.system.vars ≡ 3
