-- Groups of obligations may be shared among threads.
use denote.Ref.{NamedLft}
use denote.Param.Send.{IsSync, array_sync, recorded_sync, sendable, struct_sync}
use denote.Struct.Declared.{shape}
use denote.Struct.Struct.{Struct}
use Rattle.std.proofs.Crossing.{crosses}
use Rattle.nest_tree.proofs.Crosses.{Nest-sync, Item-sync}
use Rattle.nest_tree.proofs.tree.Guard.TheSendSync as guard
use Rattle.nest_rows.specs.contracts.terms.Around as Around
use Rattle.comm_system.proofs.reference.Target.TheSendSync as target
use Rattle.conflict_rules.specs.contracts.reference.Reference as Reference
use Rattle.owner_partition.specs.contracts.outer_loops.Six as Six
use Rattle.owner_partition.specs.contracts.outer_loops.OuterLoops as OuterLoops
use Rattle.owner_partition.specs.contracts.static_phase.StaticPhase as StaticPhase
use Rattle.comm_system.specs.contracts.phase.Phase as Phase
use Rattle.comm_system.specs.contracts.slot.Slot as Slot
use Rattle.comm_system.specs.contracts.subject.Subject as Subject
use Rattle.comm_system.specs.contracts.group.Group as Group
use Rattle.comm_system.proofs.waits.Waits.TheSendSync as waits

pub Around-sync : (a : NamedLft) → IsSync (Around.the_row a)
Around-sync a = let n = Nest-sync in search (sendable, crosses) depth 20

pub Reference-sync : (a : NamedLft) → IsSync (Reference.the_row a)
Reference-sync a = search (sendable, crosses, Around-sync, target.the_field_sync, guard.the_sync, guard.the_field_sync) depth 20

Around-field-sync : (a : NamedLft) → IsSync (Around.the_field a).row
Around-field-sync a = let n = Nest-sync in search (sendable, crosses) depth 20

Six-field-sync : (a : NamedLft) → IsSync (Six.the_field a).row
Six-field-sync a = struct_sync (shape (Six.the_type a)) (array_sync (Around.the_field a).row 6 (Around-field-sync a), tt)

Six-sync : (a : NamedLft) → IsSync (Six.the_row a)
Six-sync a = recorded_sync (Struct (shape (Six.the_type a))) (Six.the_type a).D (Six.the_type a).to (Six.the_type a).to_one (Six-field-sync a)

OuterLoops-field-sync : (a : NamedLft) → IsSync (OuterLoops.the_field a).row
OuterLoops-field-sync a = search (sendable, crosses, Six-sync) depth 20

StaticPhase-field-sync : (a : NamedLft) → IsSync (StaticPhase.the_field a).row
StaticPhase-field-sync a = let i = Item-sync in struct_sync (shape (StaticPhase.the_type a)) (search (sendable, crosses) depth 20, (OuterLoops-field-sync a, tt))

pub Phase-sync : (a : NamedLft) → IsSync (Phase.the_row a)
Phase-sync a = search (sendable, crosses, StaticPhase-field-sync, Reference-sync) depth 20

pub Slot-sync : (b a : NamedLft) → IsSync (Slot.the_row b a)
Slot-sync b a = search (sendable, crosses, Phase-sync) depth 20

pub Subject-sync : (b a p : NamedLft) → IsSync (Subject.the_field b a p).row
Subject-sync b a p = search (sendable, crosses, Phase-sync, Reference-sync, Slot-sync, waits.the_field_sync) depth 20

pub Group-sync : (b a p : NamedLft) → IsSync (Group.the_row b a p)
Group-sync b a p = let s = Subject-sync b a p in search (sendable, crosses) depth 20
