-- Plans with a barrier in front of each phase.
use Rattle.std.specs.Prelude.{List, ◌++◌}
use Rattle.std.specs.List.{flat_map}
use Rattle.nest_tree.specs.Tree.{Tree}
use Rattle.sync_plan.specs.declared.plan.Plan.{Plan}
use Rattle.comm_system.specs.Obligations.{numbered_from, paths_tasks, trips_tasks}
use Rattle.comm_system.specs.References.{phases_of}
use Rattle.comm_system.specs.declared.obligation.Obligation.{Obligation}

-- the obligations of a plan's Doall loops, which stand in front of all others, and of its private scalars' paths, which stand behind
abbrev pub doall_obligations : Tree → Plan → List Obligation
doall_obligations tree plan = numbered_from 1
    (flat_map (trips_tasks tree plan) (phases_of tree plan.cut.marks)
    ++ flat_map (paths_tasks tree plan) (phases_of tree plan.cut.marks))
