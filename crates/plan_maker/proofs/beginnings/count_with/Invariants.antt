use Rattle.std.proofs.Common.{◌≤◌}
use Rattle.plan_maker.proofs.beginnings.count_with.Given as goal

abbrev pub invariant-loop-index : goal.invariant-loop-index
invariant-loop-index l = l.count ≤ l.index
