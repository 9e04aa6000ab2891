use Rattle.std.proofs.Common.{◌≡◌, drop}
use Rattle.nest_tree.specs.View.{statements_from}
use Rattle.maker_anchors.specs.Anchors.{first_among}
use Rattle.maker_anchors.specs.Scopes.{sought_in}
use Rattle.maker_anchors.proofs.anchors.+found.Given as goal

abbrev pub invariant-first_among-loop-item : goal.invariant-first_among-loop-item
invariant-first_among-loop-item l = first_among (sought_in l.scope l.sought) (statements_from (drop l.item-index l.items)) ≡ first_among (sought_in l.scope l.sought) (statements_from l.items)
