use Rattle.std.proofs.Common.{◌≡◌, drop}
use Rattle.nest_tree.specs.View.{statements_from}
use Rattle.nest_tree.specs.Prints.{have_print}
use Rattle.nest_tree.proofs.items.+print.Given as goal

abbrev pub invariant-have_print-loop-item : goal.invariant-have_print-loop-item
invariant-have_print-loop-item l = have_print (statements_from (drop l.item-index l.items)) ≡ have_print (statements_from l.items)
