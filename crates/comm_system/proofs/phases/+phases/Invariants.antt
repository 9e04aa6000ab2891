use Rattle.std.proofs.Common.{◌≡◌, ◌++◌, drop, map}
use Rattle.nest_tree.specs.View.{statements_from}
use Rattle.nest_walk.specs.Walks.{enters_but}
use Rattle.nest_rows.specs.Views.{heads_of}
use Rattle.conflict_rules.specs.References.{phases_among}
use Rattle.comm_system.specs.PhaseViews.{phase_seen}
use Rattle.owner_partition.specs.StaticPhases.{loops_of}
use Rattle.comm_system.proofs.phases.+phases.Given as goal

abbrev pub invariant-push_all_phases-loop-item : goal.invariant-push_all_phases-loop-item
invariant-push_all_phases-loop-item l =
    map phase_seen l.found.items ++ phases_among (enters_but l.closed) (heads_of (loops_of l.outer)) (statements_from (drop l.item-index l.items))
    ≡ map phase_seen l.initial.found.items ++ phases_among (enters_but l.closed) (heads_of (loops_of l.outer)) (statements_from l.items)
