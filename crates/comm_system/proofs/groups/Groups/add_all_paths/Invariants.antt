use Rattle.std.proofs.Common.{◌≡◌, drop, map}
use Rattle.std.specs.List.{flat_map}
use Rattle.comm_system.specs.GroupViews.{listed_seen}
use Rattle.comm_system.specs.PhaseViews.{phase_seen}
use Rattle.comm_system.specs.Subjects.{paths_subjects, with_subjects}
use Rattle.comm_system.proofs.groups.Groups.add_all_paths.Given as goal

abbrev pub invariant-loop-phase : goal.invariant-loop-phase
invariant-loop-phase l =
    with_subjects l.most (listed_seen l.self) (flat_map (paths_subjects l.cut) (map phase_seen (drop l.phase-index l.phases)))
    ≡ with_subjects l.most (listed_seen l.initial.self) (flat_map (paths_subjects l.cut) (map phase_seen l.phases))
