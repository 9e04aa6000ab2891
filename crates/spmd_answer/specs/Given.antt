-- A plan that is given as bytes: the line with which it is refused, and when it is proved.
use Rattle.std.specs.Prelude.{ℕ, ◌≡◌, List, Option}
use Rattle.asked_plan.specs.Plans.{first_reason}
use Rattle.nest_tree.specs.Tree.{Tree}
use Rattle.sync_plan.specs.declared.plan.Plan.{Plan}
use Rattle.plan_checker.specs.Proved.{IsProved, first_unproved}
use Rattle.plan_checker.specs.declared.refusal.PlanRefusal.{PlanRefusal}
use Rattle.plan_input.specs.ErrorText.{text_of_error}
use Rattle.plan_input.specs.Errors.{IsRefusedBy, IsTextOf}
use Rattle.plan_input.specs.declared.error.InputError.{InputError}

-- The line with which bytes are refused as a plan, by the first reason against a plan.
pub record IsRefusedWith (reason_of : Plan → Option PlanRefusal) (bytes : List ℕ) (text : List ℕ) :
    Type 0 where
  pub error : InputError
  pub is : IsRefusedBy reason_of bytes error
  pub text_is : text ≡ text_of_error error

-- The same of a plan that is to be accepted for the program, with the workers that are asked for.
abbrev pub IsRefusedPlan : Option ℕ → Tree → List ℕ → List ℕ → Type 0
IsRefusedPlan asked tree = IsRefusedWith (first_reason asked tree)

-- The same of a plan that is to be proved on the program.
abbrev pub IsUnprovedPlan : Tree → List ℕ → List ℕ → Type 0
IsUnprovedPlan tree = IsRefusedWith (first_unproved tree)

-- The bytes are the text of this plan, which is proved on the program.
pub record IsProvedPlan (tree : Tree) (bytes : List ℕ) (plan : Plan) : Type 0 where
  pub text : IsTextOf plan bytes
  pub proved : IsProved tree plan
