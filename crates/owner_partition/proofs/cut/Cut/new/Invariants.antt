use Rattle.std.proofs.Common.{◌≡◌, map, take}
use Rattle.owner_partition.specs.Marks.{is_closed}
use Rattle.owner_partition.proofs.cut.Cut.new.Given as goal

abbrev pub invariant-loop-mark : goal.invariant-loop-mark
invariant-loop-mark l = l.closed.items ≡ map is_closed (take l.mark-index l.mark-items)
