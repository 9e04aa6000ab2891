-- Why nothing is told, by what a call refused.
use Rattle.std.proofs.Common.{◌≡◌, ℕ, ℤ, List, refl, inl, inr}
use Rattle.explain_plan.specs.Untold as explain
use Rattle.f77_lines.specs.declared.refusal.LineRefusal.{LineRefusal}
use Rattle.f77_lines.specs.declared.refusal.LineRefusal.TheVariants as lines
use Rattle.f77_scene.specs.Scene.{Name}
use Rattle.nest_tree.specs.Tree.{Tree}
use Rattle.plan_checker.specs.declared.refusal.PlanRefusal.{PlanRefusal}
use Rattle.plan_checker.specs.declared.refusal.PlanRefusal.TheVariants as misfits
use Rattle.plan_input.specs.Errors.{IsToldAs}
use Rattle.plan_input.specs.declared.error.InputError.{InputError}
use Rattle.plan_input.specs.declared.error.InputError.TheVariants as errors
use Rattle.asked_plan.specs.Plans as plans
use Rattle.plan_tool.specs.Subjects.{IsPlanOf, IsErrorFor, IsUntold, failed, memory}
use Rattle.plan_words.specs.declared.request.Subject.{Subject}
use Rattle.plan_words.specs.declared.request.Subject.TheVariants.{Behind, For}
use Rattle.sync_plan.specs.declared.plan.Plan.{Plan}

pub untold_lines : (subject : Subject) (bytes : List ℕ) (settings : List (Name × ℤ)) (refusal : LineRefusal) (error : InputError) → refusal ≡ lines.NoMemory → IsToldAs lines.NoMemory errors.Line refusal error → IsUntold subject bytes settings error
untold_lines subject bytes settings refusal error is told = elim told [
  | inl none ↦ memory none.1
  | inr own ↦ absurd (own.0 is)
]

pub untold_plan : (subject : Subject) (bytes : List ℕ) (settings : List (Name × ℤ)) (tree : Tree) (plan : Plan) (refusal : PlanRefusal) (error : InputError) → IsPlanOf subject bytes settings tree plan → explain.IsUntold tree plan refusal → IsToldAs misfits.NoMemory errors.Misfit refusal error → IsUntold subject bytes settings error
untold_plan subject bytes settings tree plan refusal error has is told = elim told [
  | inl none ↦ memory none.1
  | inr own ↦ failed tree plan has refusal is own.1
]

pub memory_error : (subject : Subject) (bytes : List ℕ) (settings : List (Name × ℤ)) → IsErrorFor subject bytes settings errors.NoMemory
memory_error Behind bytes settings = plans.IsErrorBehind.source (λ memoryful. absurd (memoryful refl))
memory_error (For workers choice) bytes settings = plans.IsError.source (λ memoryful. absurd (memoryful refl))
