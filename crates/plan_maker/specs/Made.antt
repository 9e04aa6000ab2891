-- What a made plan is.
use Rattle.std.specs.Prelude.{ℕ, ◌≡◌, List, length, replicate}
use Rattle.std.specs.List.{AllZip}
use Rattle.farkas_cert.specs.declared.certificate.Certificate.{Certificate}
use Rattle.nest_tree.specs.Tree.{Tree}
use Rattle.sync_plan.specs.Barriers.{least_version}
use Rattle.sync_plan.specs.declared.plan.Conditions.TheVariants.{Values}
use Rattle.sync_plan.specs.declared.plan.Kind.{Kind}
use Rattle.sync_plan.specs.declared.plan.Kind.TheVariants.{Barrier}
use Rattle.sync_plan.specs.declared.plan.Plan.{Plan}
use Rattle.plan_checker.specs.Accepted.{IsAccepted}
use Rattle.plan_maker.specs.declared.reasons.Reasons.{Reasons}
use Rattle.maker_anchors.specs.Anchors.{maker_anchors}
use Rattle.plan_maker.specs.Candidates.{ArePlaces, kinds_taken, weaker_from}
use Rattle.plan_maker.specs.Bars.{IsLoopReason, IsReasonedCut, all_attempts, open_loops}
use Rattle.plan_maker.specs.Numbers.{IsHeld}
use Rattle.plan_maker.specs.Weakest.{IsPhaseReason, candidates_in}

-- a made plan, for so many workers, with its reasons: one for each try of each loop that is Outer or Single, and one for each phase and weaker candidate, in order; its version is the least from two on that holds its cut
pub record IsMade (tree : Tree) (workers : ℕ) (plan : Plan) (reasons : Reasons) : Type 0 where
  pub version : plan.version ≡ least_version plan.cut
  pub conditions : plan.conditions ≡ Values
  pub workers_are : plan.workers ≡ workers
  pub accepted : IsAccepted tree plan
  pub numbers : IsHeld plan
  pub cut : IsReasonedCut tree plan.cut
  pub loops : AllZip (IsLoopReason tree) (all_attempts tree (open_loops 1 plan.cut.marks))
      reasons.loops.items
  pub anchors : plan.anchors ≡ maker_anchors tree plan.cut.marks workers
  pub taken : List ℕ
  pub places : ArePlaces (candidates_in tree plan) taken
  pub kinds : plan.kinds ≡ kinds_taken (candidates_in tree plan) taken
  pub phases : AllZip (IsPhaseReason tree plan taken) (weaker_from 0 taken) reasons.phases.items

-- the plan with the same cut and anchors and a barrier in front of each phase
pub record IsBarrierPlan (tree : Tree) (workers : ℕ) (plan : Plan) : Type 0 where
  pub version : plan.version ≡ least_version plan.cut
  pub conditions : plan.conditions ≡ Values
  pub workers_are : plan.workers ≡ workers
  pub accepted : IsAccepted tree plan
  pub numbers : IsHeld plan
  pub cut : IsReasonedCut tree plan.cut
  pub anchors : plan.anchors ≡ maker_anchors tree plan.cut.marks workers
  pub kinds : plan.kinds ≡ replicate (length plan.anchors) Barrier

-- a plan with these kinds and certificates
abbrev pub with_found : Plan → List Kind → List Certificate → Plan
with_found plan kinds certificates = record plan { kinds = kinds; certificates = certificates }
