use Rattle.std.proofs.Common.{◌≡◌, ◌++◌, drop, map, false}
use Rattle.nest_tree.specs.Loads.{loads_among}
use Rattle.nest_tree.specs.View.{expressions_from}
use Rattle.nest_walk.specs.Tables.{element}
use Rattle.conflict_rules.specs.Seen.{reference_seen}
use Rattle.comm_system.specs.Seen.{referred}
use Rattle.comm_system.proofs.references.+loads.Given as goal

abbrev pub invariant-push_all_loads-loop-argument : goal.invariant-push_all_loads-loop-argument
invariant-push_all_loads-loop-argument l =
    map reference_seen l.found.items ++ map (referred l.place false) (map element (loads_among (expressions_from (drop l.argument-index l.arguments)))) ≡ map reference_seen l.initial.found.items ++ map (referred l.place false) (map element (loads_among (expressions_from l.arguments)))
