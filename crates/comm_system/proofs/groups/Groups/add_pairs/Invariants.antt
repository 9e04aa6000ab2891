use Rattle.std.proofs.Common.{◌≡◌, drop, map}
use Rattle.comm_system.specs.GroupViews.{listed_seen}
use Rattle.comm_system.specs.KeptViews.{kept_seen}
use Rattle.comm_system.specs.Subjects.{with_subjects}
use Rattle.comm_system.proofs.GroupSteps.{all_pairs}
use Rattle.comm_system.proofs.groups.Groups.add_pairs.Given as goal

abbrev pub invariant-loop-a : goal.invariant-loop-a
invariant-loop-a l =
    with_subjects l.most (listed_seen l.self) (all_pairs l.scene (map kept_seen l.seconds) (map kept_seen (drop l.a-index l.firsts)))
    ≡ with_subjects l.most (listed_seen l.initial.self) (all_pairs l.scene (map kept_seen l.seconds) (map kept_seen l.firsts))
