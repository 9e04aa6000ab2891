-- Accepted plans are ordered, and have each private scalar stored first.
use Rattle.std.proofs.Common.{List, [], ◌∷◌, subst, inl, inr}
use Rattle.std.specs.List.{Contains}
use Rattle.farkas_cert.specs.declared.certificate.Certificate.{Certificate}
use Rattle.farkas_cert.specs.Inequalities.{HasNoWholeSolution}
use Rattle.farkas_cert.proofs.Exclusion.{good_excludes}
use Rattle.nest_tree.specs.Tree.{Tree}
use Rattle.nest_tree.specs.WellFormed.{IsWellFormed}
use Rattle.nest_model.specs.Ranges.{IsInRange}
use Rattle.sync_plan.specs.declared.plan.Plan.{Plan}
use Rattle.sync_plan.specs.Ordered.{IsOrdered}
use Rattle.sync_plan.specs.Stored.{AreStoredFirst}
use Rattle.comm_system.specs.Obligations.{obligations_of}
use Rattle.comm_system.specs.declared.obligation.Obligation.{Obligation}
use Rattle.comm_system.proofs.Lists.{contains_cases, contains_nothing}
use Rattle.comm_laws.proofs.ObligationOrder.{ordered_by, stored_by}
use Rattle.plan_checker.specs.Accepted.{AreCertified, IsAccepted}

-- an obligation with a good certificate has no whole solution
certified_unsolved : (os : List Obligation) (cs : List Certificate) (o : Obligation) → AreCertified os cs → Contains os o → HasNoWholeSolution o.system
certified_unsolved [] cs o certified c = absurd (contains_nothing o c)
certified_unsolved (k ∷ os) [] o certified c = absurd certified
certified_unsolved (k ∷ os) (d ∷ cs) o certified c = elim (contains_cases k o os c) [
  | inl same ↦ subst (λ (p : Obligation). HasNoWholeSolution p.system) same (λ x solution. good_excludes k.system d x certified.0 solution)
  | inr later ↦ certified_unsolved os cs o certified.1 later
]

pub accepted_ordered : (tree : Tree) (plan : Plan) → IsWellFormed tree → IsInRange tree → IsAccepted tree plan → IsOrdered tree plan
accepted_ordered tree plan formed ranged accepted =
    ordered_by tree plan formed ranged accepted.fits (λ o c. certified_unsolved (obligations_of tree plan) plan.certificates o accepted.certified c)

-- what is private is stored first, whatever the subscripts
pub accepted_stored : (tree : Tree) (plan : Plan) → IsWellFormed tree → IsAccepted tree plan → AreStoredFirst tree plan
accepted_stored tree plan formed accepted =
    stored_by tree plan formed accepted.fits (λ o c. certified_unsolved (obligations_of tree plan) plan.certificates o accepted.certified c)
