use Rattle.std.proofs.Common.{◌≡◌, drop}
use Rattle.nest_tree.specs.View.{statements_from}
use Rattle.own_scalars.specs.OwnScalars.{path_length}
use Rattle.own_scalars.proofs.scalars.+path.Given as goal

abbrev pub invariant-path_length-loop-item : goal.invariant-path_length-loop-item
invariant-path_length-loop-item l = path_length l.scalar (statements_from (drop l.item-index l.body)) ≡ path_length l.scalar (statements_from l.body)
