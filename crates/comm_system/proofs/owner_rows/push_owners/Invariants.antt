use Rattle.std.proofs.Common.{◌≡◌, ◌+◌, ◌++◌, drop, map}
use Rattle.nest_rows.proofs.RowLists.{AreLeft}
use Rattle.comm_system.specs.OwnerRows.{owner_numbers, owners_have, owners_unknowns}
use Rattle.comm_system.specs.OwnerViews.{placed_seen}
use Rattle.comm_system.proofs.owner_rows.push_owners.Given as goal

abbrev pub invariant-loop-one : goal.invariant-loop-one
invariant-loop-one l = record {
  rows : AreLeft (owners_have l.workers l.first (map placed_seen l.placed)) l.initial.system l.system (owners_have l.workers l.q (map placed_seen (drop l.one-index l.placed)));
  numbers : l.numbers.items ++ owner_numbers l.q (map placed_seen (drop l.one-index l.placed)) ≡ owner_numbers l.first (map placed_seen l.placed);
  room : l.q + owners_unknowns (map placed_seen (drop l.one-index l.placed)) ≡ l.first + owners_unknowns (map placed_seen l.placed);
}
