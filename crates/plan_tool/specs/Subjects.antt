-- The plan that something is told of, what is told, and why nothing is.
use Rattle.std.specs.Prelude.{ℕ, ℤ, ◌≡◌, List}
use Rattle.asked_plan.specs.Plans.{IsBehind, IsPlanned, IsError, IsErrorBehind}
use Rattle.comm_system.specs.Obligations.{obligations_of}
use Rattle.explain_plan.specs.Untold as explain
use Rattle.f77_scene.specs.Scene.{Name}
use Rattle.nest_tree.specs.Tree.{Tree}
use Rattle.plan_checker.specs.declared.refusal.PlanRefusal.{PlanRefusal}
use Rattle.plan_input.specs.declared.error.InputError.{InputError}
use Rattle.plan_input.specs.declared.error.InputError.TheVariants.{Misfit, NoMemory}
use Rattle.plan_systems.specs.SystemsText.{systems_text}
use Rattle.plan_words.specs.declared.request.Subject.{Subject}
use Rattle.plan_words.specs.declared.request.Subject.TheVariants.{Behind, For}
use Rattle.reason_witness.specs.Reasons.{AreReasons}
use Rattle.reason_witness.specs.declared.account.Account.{Account}
use Rattle.sync_plan.specs.declared.plan.Plan.{Plan}

-- The plan of the source that the bytes begin with: the one behind it, or the one that is asked for.
abbrev pub IsPlanOf : Subject → List ℕ → List (Name × ℤ) → Tree → Plan → Type 0
IsPlanOf Behind bytes settings tree plan = IsBehind bytes settings tree plan
IsPlanOf (For workers choice) bytes settings tree plan =
    IsPlanned workers choice bytes settings tree plan

-- There is no such plan.
abbrev pub IsErrorFor : Subject → List ℕ → List (Name × ℤ) → InputError → Type 0
IsErrorFor Behind bytes settings error = IsErrorBehind bytes settings error
IsErrorFor (For workers choice) bytes settings error = IsError workers choice bytes settings error

-- What is told is of that plan, and there is one true reason for each question that it raises.
pub record IsAccount (subject : Subject) (bytes : List ℕ) (settings : List (Name × ℤ)) (tree : Tree)
    (a : Account) : Type 0 where
  pub plan : IsPlanOf subject bytes settings tree a.plan
  pub reasons : AreReasons tree a

-- Nothing is told: since memory ran out; since there is no plan; or since it is refused, and for no obligation.
pub data IsUntold (subject : Subject) (bytes : List ℕ) (settings : List (Name × ℤ))
    (error : InputError) : Type 0 where
  memory : (is : error ≡ NoMemory) → IsUntold subject bytes settings error
  planless : (is : IsErrorFor subject bytes settings error) → IsUntold subject bytes settings error
  failed : (tree : Tree) (plan : Plan) (has : IsPlanOf subject bytes settings tree plan)
      (refusal : PlanRefusal) (is : explain.IsUntold tree plan refusal)
      (told : error ≡ Misfit refusal) → IsUntold subject bytes settings error

-- The text is that of the obligations of that plan.
pub record AreSystems (subject : Subject) (bytes : List ℕ) (settings : List (Name × ℤ))
    (text : List ℕ) : Type 0 where
  pub tree : Tree
  pub plan : Plan
  pub plan_is : IsPlanOf subject bytes settings tree plan
  pub text_is : text ≡ systems_text (obligations_of tree plan)
