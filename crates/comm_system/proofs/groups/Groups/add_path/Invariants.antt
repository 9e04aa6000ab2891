use Rattle.std.proofs.Common.{◌≡◌}
use Rattle.conflict_rules.specs.Seen.{reference_seen}
use Rattle.comm_system.specs.GroupViews.{listed_seen}
use Rattle.comm_system.specs.Subjects.{with_subjects}
use Rattle.comm_system.proofs.PathGroups.{loops_left}
use Rattle.comm_system.proofs.groups.Groups.add_path.Given as goal

abbrev pub invariant-loop-outside : goal.invariant-loop-outside
invariant-loop-outside l =
    with_subjects l.most (listed_seen l.self) (loops_left (reference_seen l.store) l.outside l.outside-end) ≡ with_subjects l.most (listed_seen l.initial.self) (loops_left (reference_seen l.store) l.initial.outside l.outside-end)
