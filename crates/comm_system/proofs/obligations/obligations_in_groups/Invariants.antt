use Rattle.std.proofs.Common.{◌≡◌, ◌++◌, drop, map}
use Rattle.std.specs.List.{flat_map}
use Rattle.nest_tree.specs.View.{tree_of}
use Rattle.comm_system.specs.GroupViews.{group_seen}
use Rattle.comm_system.specs.Subjects.{obligations_in}
use Rattle.comm_system.proofs.obligations.obligations_in_groups.Given as goal

abbrev pub invariant-loop-group : goal.invariant-loop-group
invariant-loop-group l =
    l.found.items ++ flat_map (obligations_in (tree_of l.program) l.plan) (map group_seen (drop l.group-index l.groups))
    ≡ flat_map (obligations_in (tree_of l.program) l.plan) (map group_seen l.groups)
