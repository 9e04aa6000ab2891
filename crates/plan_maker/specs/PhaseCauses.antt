-- Why other kinds don't stand in front of a phase.
use Rattle.std.specs.Prelude.{ℕ, ◌≡◌, ◌==◌, Bool, true, List, ◌∷◌, ◌++◌}
use Rattle.std.specs.List.{list_any}
use Rattle.farkas_cert.specs.declared.certificate.Certificate.{Certificate}
use Rattle.nest_tree.specs.Tree.{Tree}
use Rattle.sync_plan.specs.declared.plan.Kind.{Kind}
use Rattle.sync_plan.specs.declared.plan.Plan.{Plan}
use Rattle.comm_system.specs.Boundaries.{Boundary}
use Rattle.comm_system.specs.Certain.{certain_of}
use Rattle.comm_system.specs.Obligations.{Slot}
use Rattle.comm_system.specs.References.{phases_of}
use Rattle.plan_maker.specs.declared.cause.Cause.{Cause}
use Rattle.plan_maker.specs.Asked.{AreRefuted, Asked, IsCause}
use Rattle.plan_maker.specs.Trials.{asked_of_slot, slots_asked}

-- the boundary in front of the phase with this number is among these
abbrev pub touches : ℕ → List Boundary → Bool
touches u boundaries = list_any (λ (b : Boundary). b.phase == u) boundaries

-- with these kinds in front of the phases, the first system that is kept, of these that are asked about first and then of these slots, is one of a slot that has the boundary in front of the phase with this number among its certain ones
pub record IsPhaseCause (tree : Tree) (plan : Plan) (kinds : List Kind) (u : ℕ) (first : List Asked)
    (slots : List Slot) (cause : Cause) : Type 0 where
  pub before : List Slot
  pub slot : Slot
  pub behind : List Slot
  pub split : slots ≡ before ++ slot ∷ behind
  pub certain : touches u (certain_of slot (phases_of tree plan.cut.marks)) ≡ true
  pub certificates : List Certificate
  pub refuted : AreRefuted (first ++ slots_asked tree plan kinds before) certificates
  pub kept : IsCause (asked_of_slot tree plan kinds slot) cause
