-- The plan of a program that is asked for, and why there is none.
use Rattle.std.specs.Prelude.{ℕ, ℤ, ◌≡◌, ◌==◌, ⊤, Bool, true, false, List, Option, Some, None, if◌then◌else◌}
use Rattle.command_words.specs.declared.request.PlanChoice.{PlanChoice}
use Rattle.command_words.specs.declared.request.PlanChoice.TheVariants.{Barrier, Given, Made}
use Rattle.f77_scene.specs.Scene.{Name}
use Rattle.nest_model.specs.Ranges.{IsInRange}
use Rattle.nest_tree.specs.Tree.{Tree}
use Rattle.sync_plan.specs.Fit.{IsFit}
use Rattle.sync_plan.specs.declared.plan.Plan.{Plan}
use Rattle.plan_checker.specs.Accepted.{IsAccepted}
use Rattle.plan_checker.specs.Failures.{first_failure}
use Rattle.plan_checker.specs.declared.refusal.PlanRefusal.{PlanRefusal}
use Rattle.plan_checker.specs.declared.refusal.PlanRefusal.TheVariants.{Shape}
use Rattle.plan_maker.specs.Made.{IsBarrierPlan, IsMade}
use Rattle.plan_maker.specs.declared.reasons.Reasons.{Reasons}
use Rattle.plan_input.specs.Sources.{HasProgramWith, behind_end}
use Rattle.plan_input.specs.Errors as sources
use Rattle.plan_input.specs.Errors.{IsPlanError, IsPlanErrorBy, IsTextOf}
use Rattle.plan_input.specs.declared.error.InputError.{InputError}
use Rattle.plan_input.specs.declared.error.InputError.TheVariants.{NoMemory}

-- only comments may stand behind END, where no plan does
abbrev pub stands_alone : PlanChoice → Bool
stands_alone Made = true
stands_alone Barrier = true
stands_alone Given = false

-- the plan has the workers that are asked for, where a number is
abbrev pub HasWorkers : Option ℕ → Plan → Type 0
HasWorkers None plan = ⊤
HasWorkers (Some workers) plan = plan.workers ≡ workers

-- The bytes are the text of this plan, which has the workers that are asked for and is accepted for the program.
pub record IsTaken (asked : Option ℕ) (tree : Tree) (bytes : List ℕ) (plan : Plan) : Type 0 where
  pub text : IsTextOf plan bytes
  pub workers_are : HasWorkers asked plan
  pub accepted : IsAccepted tree plan

-- The plan that is asked for, for so many workers: one that is made, for some reasons; one with its cut, its anchors and barriers; or the one whose text these bytes, those behind END, are.
abbrev pub IsPlanFor : PlanChoice → ℕ → Tree → List ℕ → Plan → Type 0
IsPlanFor Made workers tree bytes plan = (reasons : Reasons) × IsMade tree workers plan reasons
IsPlanFor Barrier workers tree bytes plan = IsBarrierPlan tree workers plan
IsPlanFor Given workers tree bytes plan = IsTaken (Some workers) tree bytes plan

-- The bytes begin with a source whose program is this one, all of whose subscripts are in range, and this is the plan that is asked for.
pub record IsPlanned (workers : ℕ) (choice : PlanChoice) (bytes : List ℕ)
    (settings : List (Name × ℤ)) (tree : Tree) (plan : Plan) : Type 0 where
  pub clear : sources.IsClear (stands_alone choice) bytes
  pub source : HasProgramWith settings bytes tree
  pub inside : IsInRange tree
  pub plan_is : IsPlanFor choice workers tree (behind_end bytes) plan

-- the first reason against a plan: other workers than are asked for, or else its first failure for the program
abbrev pub first_reason : Option ℕ → Tree → Plan → Option PlanRefusal
first_reason None tree plan = first_failure tree plan
first_reason (Some workers) tree plan =
    if plan.workers == workers then first_failure tree plan else Some (Shape 1)

-- Bytes are refused as a plan that is to be accepted for a program, with the workers that are asked for: their first line that no plan's text has, or else the first reason against the plan whose text they are. Memory may run out in place of each.
abbrev pub IsRefused : Option ℕ → Tree → List ℕ → InputError → Type 0
IsRefused asked tree = IsPlanErrorBy (first_reason asked tree)

-- There is no plan: where one is made since memory ran out, else since the one that is given is refused.
abbrev pub IsPlanErrorFor : PlanChoice → ℕ → Tree → List ℕ → InputError → Type 0
IsPlanErrorFor Made workers tree bytes error = error ≡ NoMemory
IsPlanErrorFor Barrier workers tree bytes error = error ≡ NoMemory
IsPlanErrorFor Given workers tree bytes error = IsRefused (Some workers) tree bytes error

-- There is no plan that is asked for: for the source, or else for the plan.
pub data IsError (workers : ℕ) (choice : PlanChoice) (bytes : List ℕ) (settings : List (Name × ℤ))
    (error : InputError) : Type 0 where
  source : (is : sources.IsError (stands_alone choice) bytes settings error)
      → IsError workers choice bytes settings error
  plan : (tree : Tree) (clear : sources.IsClear (stands_alone choice) bytes)
      (has : HasProgramWith settings bytes tree) (inside : IsInRange tree)
      (is : IsPlanErrorFor choice workers tree (behind_end bytes) error)
      → IsError workers choice bytes settings error

-- The bytes begin with a source whose program is this one, all of whose subscripts are in range, and what stands behind END is the text of this plan, which fits the program.
pub record IsBehind (bytes : List ℕ) (settings : List (Name × ℤ)) (tree : Tree) (plan : Plan) :
    Type 0 where
  pub source : HasProgramWith settings bytes tree
  pub inside : IsInRange tree
  pub text : IsTextOf plan (behind_end bytes)
  pub fits : IsFit tree plan

-- There is no such plan: for the source, or else for what stands behind it.
pub data IsErrorBehind (bytes : List ℕ) (settings : List (Name × ℤ)) (error : InputError) :
    Type 0 where
  source : (is : sources.IsError false bytes settings error) → IsErrorBehind bytes settings error
  plan : (tree : Tree) (has : HasProgramWith settings bytes tree) (inside : IsInRange tree)
      (is : IsPlanError tree (behind_end bytes) error) → IsErrorBehind bytes settings error
