use Rattle.std.proofs.Common.{◌≡◌, ◌++◌}
use Rattle.range_check.specs.RangeSystems.{in_steps}
use Rattle.range_check.proofs.systems.push_numbers.Given as goal

abbrev pub invariant-loop-index : goal.invariant-loop-index
invariant-loop-index l = l.order.items ≡ l.initial.order.items ++ in_steps l.first l.step l.index
