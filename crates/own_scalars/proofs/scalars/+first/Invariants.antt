use Rattle.std.proofs.Common.{◌≡◌, drop}
use Rattle.nest_tree.specs.View.{statements_from}
use Rattle.own_scalars.specs.OwnScalars.{is_private}
use Rattle.own_scalars.proofs.scalars.+first.Given as goal

abbrev pub invariant-are_stored_first-loop-item : goal.invariant-are_stored_first-loop-item
invariant-are_stored_first-loop-item l = is_private l.scalar (statements_from (drop l.item-index l.items)) ≡ is_private l.scalar (statements_from l.items)
