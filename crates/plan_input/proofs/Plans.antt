-- Why bytes are refused as a plan, by what a reader and a checker found.
use Rattle.std.proofs.Common.{◌≡◌, ◌≢◌, ℕ, List, Option, Some, refl, inl, inr}
use Rattle.sync_plan.specs.declared.plan.Plan.{Plan}
use Rattle.plan_text.specs.Refused.{RefusesText}
use Rattle.plan_text.specs.declared.syntax.PlanSyntax.{PlanSyntax}
use Rattle.plan_text.specs.declared.syntax.PlanSyntax.TheVariants as syntaxes
use Rattle.plan_checker.specs.declared.refusal.PlanRefusal.{PlanRefusal}
use Rattle.plan_checker.specs.declared.refusal.PlanRefusal.TheVariants as misfits
use Rattle.plan_input.specs.Errors.{IsPlanErrorBy, IsTextOf, IsToldAs, no_text, unfit}
use Rattle.plan_input.specs.declared.error.InputError.{InputError}
use Rattle.plan_input.specs.declared.error.InputError.TheVariants.{Misfit, NoMemory, Syntax}

-- of bytes that are no plan's text
pub of_syntax : (reason_of : Plan → Option PlanRefusal) (bytes : List ℕ) (syntax : PlanSyntax) (error : InputError) → RefusesText bytes syntax → IsToldAs syntaxes.NoMemory Syntax syntax error → IsPlanErrorBy reason_of bytes error
of_syntax reason_of bytes (syntaxes.Line n) error is told = λ memoryful. elim told [
  | inl none ↦ absurd (memoryful none.1)
  | inr own ↦ no_text n is own.1
]
of_syntax reason_of bytes syntaxes.NoMemory error is told = λ memoryful. elim told [
  | inl none ↦ absurd (memoryful none.1)
  | inr own ↦ absurd (own.0 refl)
]

-- of the text of a plan against which this is the first reason
pub of_reason : (reason_of : Plan → Option PlanRefusal) (bytes : List ℕ) (plan : Plan) (reason : PlanRefusal) (error : InputError) → IsTextOf plan bytes → (reason ≢ misfits.NoMemory → reason_of plan ≡ Some reason) → IsToldAs misfits.NoMemory Misfit reason error → IsPlanErrorBy reason_of bytes error
of_reason reason_of bytes plan reason error text first told = λ memoryful. elim told [
  | inl none ↦ absurd (memoryful none.1)
  | inr own ↦ unfit plan text reason (first own.0) own.1
]
