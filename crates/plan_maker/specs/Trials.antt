-- The systems of slots under kinds.
use Rattle.std.specs.Prelude.{◌≡◌, ◌++◌, List}
use Rattle.std.specs.List.{flat_map}
use Rattle.nest_tree.specs.Tree.{Tree}
use Rattle.sync_plan.specs.declared.plan.Kind.{Kind}
use Rattle.sync_plan.specs.declared.plan.Plan.{Plan}
use Rattle.comm_system.specs.Obligations.{Slot, slot_signature}
use Rattle.comm_system.specs.References.{phases_of}
use Rattle.farkas_cert.specs.declared.certificate.Certificate.{Certificate}
use Rattle.plan_maker.specs.Asked.{AreRefuted, Asked, slot_asked}

-- what is asked of a slot, and of slots, where these kinds stand in front of the phases of a plan
abbrev pub asked_of_slot : Tree → Plan → List Kind → Slot → List Asked
asked_of_slot tree plan kinds slot = slot_asked tree plan slot
    (slot_signature plan.version kinds (phases_of tree plan.cut.marks) slot)

abbrev pub slots_asked : Tree → Plan → List Kind → List Slot → List Asked
slots_asked tree plan kinds slots = flat_map (asked_of_slot tree plan kinds) slots

-- certificates that refute these systems, behind others
pub record HasMoreCertificates (questions : List Asked) (old new : List Certificate) : Type 0 where
  pub more : List Certificate
  pub behind : new ≡ old ++ more
  pub refuted : AreRefuted questions more
