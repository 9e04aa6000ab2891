use Rattle.std.proofs.Common.{◌≡◌, drop, max}
use Rattle.nest_tree.specs.View.{statements_from}
use Rattle.own_scalars.specs.OwnScalars.{last_stored}
use Rattle.own_scalars.proofs.scalars.+last.Given as goal

abbrev pub invariant-last_stored-loop-item : goal.invariant-last_stored-loop-item
invariant-last_stored-loop-item l = max l.last (last_stored (statements_from (drop l.item-index l.items))) ≡ last_stored (statements_from l.items)
