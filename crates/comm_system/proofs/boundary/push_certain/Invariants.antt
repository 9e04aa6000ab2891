use Rattle.std.proofs.Common.{◌≡◌, ◌≤◌, ◌+◌, ◌++◌, drop, length, map}
use Rattle.conflict_rules.specs.Boundaries.{boundaries_where}
use Rattle.comm_system.specs.Certain.{certain_on}
use Rattle.conflict_rules.specs.Slots.{is_certain}
use Rattle.comm_system.specs.PhaseViews.{phase_seen}
use Rattle.comm_system.specs.SideViews.{boundary_seen}
use Rattle.conflict_rules.specs.SideViews.{side_seen}
use Rattle.conflict_rules.specs.SlotViews.{level_seen}
use Rattle.comm_system.proofs.boundary.push_certain.Given as goal

abbrev pub invariant-loop-index : goal.invariant-loop-index
invariant-loop-index l = record {
  found : map boundary_seen l.found.items ++ boundaries_where (is_certain (side_seen l.side) (level_seen l.level)) (side_seen l.side) (l.index + 1) (map phase_seen (drop l.index l.phases))
      ≡ map boundary_seen l.initial.found.items ++ certain_on (side_seen l.side) (level_seen l.level) (map phase_seen l.phases);
  few : length l.found.items ≤ length l.initial.found.items + l.index;
}
