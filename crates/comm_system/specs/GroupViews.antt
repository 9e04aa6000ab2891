-- Groups of systems as plain data.
use Rattle.std.specs.Prelude.{map}
use Rattle.comm_system.specs.Pairs.{Pair}
use Rattle.conflict_rules.specs.References.{Reference}
use Rattle.comm_system.specs.Subjects.{Group, Listed}
use Rattle.comm_system.specs.SubjectViews.{subject_seen}
use Rattle.comm_system.specs.declared.group.Group.{Group as HeldGroup}
use Rattle.comm_system.specs.declared.groups.Groups.{Groups}

abbrev pub group_seen : HeldGroup → Group
group_seen g = record { number = g.number; subject = subject_seen g.subject }

abbrev pub listed_seen : Groups → Listed
listed_seen g = record { groups = map group_seen g.items.items; next = g.next }

-- an access with another
abbrev pub paired : Reference → Reference → Pair
paired a b = record { first = a; second = b }
