use Rattle.std.proofs.Common.{◌≡◌, ◌-◌, ◌≤◌}
use Rattle.std.specs.List.{range_with_len}
use Rattle.comm_system.proofs.pair_systems.unknowns_from.Given as goal

abbrev pub invariant-loop-number : goal.invariant-loop-number
invariant-loop-number l = record {
  low : l.fn.first ≤ l.number;
  is : l.all.items ≡ range_with_len l.fn.first (l.number - l.fn.first);
}
