use Rattle.std.proofs.Common.{◌≡◌}
use Rattle.comm_system.proofs.PathGroups.{first_left}
use Rattle.comm_system.proofs.paths.first_access.Given as goal

abbrev pub invariant-loop-reference : goal.invariant-loop-reference
invariant-loop-reference l = first_left l.variable l.references l.reference-index ≡ first_left l.variable l.references 0
