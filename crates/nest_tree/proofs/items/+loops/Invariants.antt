use Rattle.std.proofs.Common.{◌≡◌, ◌+◌, drop}
use Rattle.nest_tree.specs.View.{statements_from}
use Rattle.nest_tree.specs.WellFormed.{loops_of}
use Rattle.nest_tree.proofs.items.+loops.Given as goal

abbrev pub invariant-loops_in_items-loop-item : goal.invariant-loops_in_items-loop-item
invariant-loops_in_items-loop-item l = l.count + loops_of (statements_from (drop l.item-index l.items)) ≡ loops_of (statements_from l.items)
