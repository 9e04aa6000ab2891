use Rattle.std.proofs.Common.{◌≡◌, ◌+◌, ◌*◌, ◌≤◌, drop, map}
use Rattle.comm_system.specs.OwnerRows.{owners_unknowns}
use Rattle.comm_system.specs.OwnerViews.{placed_seen}
use Rattle.comm_system.proofs.owner_rows.owners_unknowns.Given as goal

abbrev pub invariant-loop-one : goal.invariant-loop-one
invariant-loop-one l = record {
  sum : l.count + owners_unknowns (map placed_seen (drop l.one-index l.placed)) ≡ owners_unknowns (map placed_seen l.placed);
  few : l.count ≤ 2 * l.one-index;
}
