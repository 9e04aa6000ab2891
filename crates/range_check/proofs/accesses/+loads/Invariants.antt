use Rattle.std.proofs.Common.{◌≡◌, ◌++◌, drop}
use Rattle.nest_tree.specs.Loads.{loads_among}
use Rattle.nest_tree.specs.View.{expressions_from}
use Rattle.range_check.specs.Seen.{accesses_seen}
use Rattle.range_check.proofs.accesses.+loads.Given as goal

abbrev pub invariant-push_all_loads-loop-argument : goal.invariant-push_all_loads-loop-argument
invariant-push_all_loads-loop-argument l =
    accesses_seen l.found.items ++ loads_among (expressions_from (drop l.argument-index l.arguments)) ≡ accesses_seen l.initial.found.items ++ loads_among (expressions_from l.arguments)
