use Rattle.std.proofs.Common.{◌≡◌, ◌+◌, drop}
use Rattle.nest_tree.specs.View.{statements_from}
use Rattle.nest_model.specs.Instances.{works_of}
use Rattle.instance_runs.proofs.room.+works.Given as goal

abbrev pub invariant-work_count-loop-item : goal.invariant-work_count-loop-item
invariant-work_count-loop-item l = l.count + works_of (statements_from (drop l.item-index l.items)) ≡ works_of (statements_from l.items)
