-- Subjects as plain data.
use Rattle.std.specs.Prelude.{map}
use Rattle.comm_system.specs.Pairs.{Pair}
use Rattle.comm_system.specs.Paths.{PathLoop}
use Rattle.comm_system.specs.PhaseViews.{phase_seen}
use Rattle.comm_system.specs.declared.path_loop.PathLoop.{PathLoop as HeldLoop}
use Rattle.conflict_rules.specs.Seen.{reference_seen}
use Rattle.comm_system.specs.Seen.{pair_of}
use Rattle.conflict_rules.specs.SideViews.{producer_seen}
use Rattle.comm_system.specs.SlotViews.{slot_seen}
use Rattle.comm_system.specs.Subjects.{Subject, of_path, of_slot, of_trips}
use Rattle.comm_system.specs.declared.subject.Subject.{Subject as HeldSubject}
use Rattle.comm_system.specs.declared.subject.Subject.TheVariants.{Slot, Trips, ZeroTrip}
use Rattle.comm_system.specs.declared.subject.Scene.{Scene}
use Rattle.comm_system.specs.declared.subject.Scene.TheVariants.{Slot as AtSlot, Trips as InTrips}

abbrev pub path_loop_seen : HeldLoop → PathLoop
path_loop_seen p = record { store = reference_seen p.store.now; outside = p.outside }

abbrev pub subject_seen : HeldSubject → Subject
subject_seen (Trips phase a b) = of_trips (phase_seen phase.now) (pair_of a.now b.now)
subject_seen (Slot slot waits a b) = of_slot (slot_seen slot) waits.left waits.right
    (map producer_seen waits.producers.items) (pair_of a.now b.now)
subject_seen (ZeroTrip p) = of_path (path_loop_seen p)

-- a pair of accesses there
abbrev pub subject_at : Scene → Pair → Subject
subject_at (InTrips phase) pair = of_trips (phase_seen phase.now) pair
subject_at (AtSlot slot waits) pair = of_slot (slot_seen slot) waits.now.left waits.now.right
    (map producer_seen waits.now.producers.items) pair
