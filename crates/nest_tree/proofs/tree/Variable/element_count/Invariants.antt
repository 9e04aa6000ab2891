use Rattle.std.proofs.Common.{drop}
use Rattle.nest_tree.specs.Layout.{element_count}
use Rattle.nest_tree.proofs.Places.{Counting}
use Rattle.nest_tree.proofs.tree.Variable.element_count.Given as goal

abbrev pub invariant-loop-bounds : goal.invariant-loop-bounds
invariant-loop-bounds l =
    Counting l.count l.bounds-index (drop l.bounds-index l.self.bounds.items) (element_count l.self.bounds.items)
