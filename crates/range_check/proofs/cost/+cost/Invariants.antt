use Rattle.std.proofs.Common.{drop, length, IsTrue}
use Rattle.nest_tree.specs.Given.{are_all_given}
use Rattle.nest_tree.specs.View.{statements_from}
use Rattle.range_check.proofs.cost.+cost.Given as goal

-- what the statements that are left name is there
abbrev pub invariant-statements_cost-loop-item : goal.invariant-statements_cost-loop-item
invariant-statements_cost-loop-item l = IsTrue (are_all_given (length l.ends) (length l.constants) (statements_from (drop l.item-index l.items)))
