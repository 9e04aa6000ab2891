use Rattle.std.proofs.Common.{◌≡◌, drop}
use Rattle.std.specs.List.{flat_map}
use Rattle.comm_system.specs.GroupViews.{listed_seen}
use Rattle.comm_system.specs.PhaseViews.{phase_seen}
use Rattle.comm_system.specs.Subjects.{path_subjects, with_subjects}
use Rattle.comm_system.proofs.groups.Groups.add_paths.Given as goal

abbrev pub invariant-loop-scalar : goal.invariant-loop-scalar
invariant-loop-scalar l =
    with_subjects l.most (listed_seen l.self) (flat_map (path_subjects (phase_seen l.phase)) (drop l.scalar-index l.scalars)) ≡ with_subjects l.most (listed_seen l.initial.self) (flat_map (path_subjects (phase_seen l.phase)) l.scalars)
