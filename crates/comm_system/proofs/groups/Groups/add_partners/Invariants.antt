use Rattle.std.proofs.Common.{◌≡◌, drop, map}
use Rattle.comm_system.specs.GroupViews.{listed_seen}
use Rattle.comm_system.specs.KeptViews.{kept_seen}
use Rattle.conflict_rules.specs.Seen.{reference_seen}
use Rattle.comm_system.specs.Subjects.{with_subjects}
use Rattle.comm_system.proofs.GroupSteps.{partners}
use Rattle.comm_system.proofs.groups.Groups.add_partners.Given as goal

abbrev pub invariant-loop-b : goal.invariant-loop-b
invariant-loop-b l =
    with_subjects l.most (listed_seen l.self) (partners l.scene (reference_seen l.a) (map kept_seen (drop l.b-index l.seconds)))
    ≡ with_subjects l.most (listed_seen l.initial.self) (partners l.scene (reference_seen l.a) (map kept_seen l.seconds))
