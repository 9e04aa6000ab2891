-- The weakest kinds that were found in front of the phases of a plan.
use Rattle.std.specs.Prelude.{ℕ, suc, ◌≡◌, ◌++◌, List, slice_set}
use Rattle.std.specs.List.{AllZip}
use Rattle.nest_tree.specs.Tree.{Tree}
use Rattle.sync_plan.specs.declared.plan.Kind.{Kind}
use Rattle.sync_plan.specs.declared.plan.Plan.{Plan}
use Rattle.comm_system.specs.Obligations.{slots_of}
use Rattle.comm_system.specs.References.{phases_of}
pub use Rattle.maker_candidates.specs.Candidates.{candidates_in}
use Rattle.plan_maker.specs.declared.maker.Weakest.{Weakest}
use Rattle.plan_maker.specs.declared.reasons.PhaseReason.{PhaseReason}
use Rattle.plan_maker.specs.Asked.{AreRefuted, Asked, all_paths_asked, all_trips_asked}
use Rattle.plan_maker.specs.Candidates.{ArePlaces, Choice, candidate, kinds_taken, weaker_from}
use Rattle.plan_maker.specs.PhaseCauses.{IsPhaseCause}
use Rattle.plan_maker.specs.Trials.{slots_asked}

-- what is asked of a plan with other kinds
abbrev pub asked_under : Tree → Plan → List Kind → List Asked
asked_under tree plan kinds = all_trips_asked tree plan
    ++ slots_asked tree plan kinds (slots_of (phases_of tree plan.cut.marks))
    ++ all_paths_asked tree plan

-- the plan with a weaker candidate in front of a phase has a system that is kept: this is its first, and one of a slot that has the boundary in front of that phase among its certain ones
pub record IsPhaseReason (tree : Tree) (plan : Plan) (taken : List ℕ) (c : Choice)
    (reason : PhaseReason) : Type 0 where
  pub phase : reason.phase ≡ suc c.phase
  pub kind : reason.kind ≡ candidate (candidates_in tree plan) c
  pub cause : IsPhaseCause tree plan (kinds_taken (candidates_in tree plan)
      (slice_set taken c.phase c.place)) (suc c.phase) (all_trips_asked tree plan)
      (slots_of (phases_of tree plan.cut.marks)) reason.cause

pub record IsWeakest (tree : Tree) (plan : Plan) (w : Weakest) : Type 0 where
  pub taken : List ℕ
  pub places : ArePlaces (candidates_in tree plan) taken
  pub kinds : w.kinds.items ≡ kinds_taken (candidates_in tree plan) taken
  pub certified : AreRefuted (asked_under tree plan w.kinds.items) w.certificates.items
  pub reasons : AllZip (IsPhaseReason tree plan taken) (weaker_from 0 taken) w.reasons.items
