use Rattle.std.proofs.Common.{◌≡◌, ◌++◌, drop}
use Rattle.nest_tree.specs.View.{statements_from}
use Rattle.maker_marks.specs.Privates.{none_of}
use Rattle.maker_marks.proofs.privates.+none.Given as goal

abbrev pub invariant-push_none-loop-item : goal.invariant-push_none-loop-item
invariant-push_none-loop-item l =
    l.lists.items ++ none_of (statements_from (drop l.item-index l.items)) ≡ l.initial.lists.items ++ none_of (statements_from l.items)
