use Rattle.std.proofs.Common.{◌≡◌, drop}
use Rattle.nest_tree.specs.View.{statements_from}
use Rattle.own_scalars.specs.Looks.{passes}
use Rattle.own_scalars.specs.OwnScalars.{some_of}
use Rattle.own_scalars.proofs.works.+some.Given as goal

abbrev pub invariant-some_of-loop-item : goal.invariant-some_of-loop-item
invariant-some_of-loop-item l = some_of (passes l.look l.scalar) (statements_from (drop l.item-index l.items)) ≡ some_of (passes l.look l.scalar) (statements_from l.items)
