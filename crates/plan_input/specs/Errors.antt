-- When an error is that of a source, and when that of what stands behind it.
use Rattle.std.specs.Prelude.{ℕ, ℤ, ◌≡◌, ◌≢◌, ◌⊎◌, Bool, true, false, List, [], Option, Some, None}
use Rattle.std.specs.Option.{option_map, option_or}
use Rattle.f77_lines.specs.Columns.{lines_of}
use Rattle.f77_lines.specs.Listing as listing
use Rattle.f77_lines.specs.Statements.{Entry}
use Rattle.f77_lines.specs.declared.refusal.LineRefusal.TheVariants.{AfterEnd}
use Rattle.f77_scene.specs.Fault as scene
use Rattle.f77_scene.specs.Reading.{first_fault_in, program_in}
use Rattle.f77_scene.specs.Scene.{Name}
use Rattle.f77_program.specs.declared.refusal.Fault.{Fault}
use Rattle.f77_program.specs.declared.refusal.Fault.TheVariants as faults
use Rattle.f77_program.specs.declared.refusal.Refusal.TheVariants as refusals
use Rattle.nest_tree.specs.Limits.{first_limit}
use Rattle.nest_tree.specs.Tree.{Tree}
use Rattle.sync_plan.specs.declared.plan.Plan.{Plan}
use Rattle.plan_text.specs.PlanText.{HasText, plan_text}
use Rattle.plan_text.specs.Refused.{IsFirstAlien}
use Rattle.plan_text.specs.declared.syntax.PlanSyntax.TheVariants as syntaxes
use Rattle.plan_checker.specs.Refusals.{first_refusal}
use Rattle.plan_checker.specs.declared.refusal.PlanRefusal.{PlanRefusal}
use Rattle.plan_input.specs.declared.error.InputError.{InputError}
use Rattle.plan_input.specs.declared.error.InputError.TheVariants.{Limit, Line, Misfit, NoMemory, Range, Statement, Syntax}
use Rattle.range_check.specs.Outside.{outside_of}

-- A refusal is told as this error: want of memory as such, and each other one as its own.
abbrev pub IsToldAs : {Refusal : Type 0} → Refusal → (Refusal → InputError) → Refusal → InputError
    → Type 0
IsToldAs no_memory own refusal error =
    ((refusal ≡ no_memory) × (error ≡ NoMemory)) ⊎ ((refusal ≢ no_memory) × (error ≡ own refusal))

-- An error is this first one, unless memory ran out, which it may in place of any answer.
abbrev pub IsFirst : Option InputError → InputError → Type 0
IsFirst first error = error ≢ NoMemory → first ≡ Some error

-- ---- a source

-- a fault of a statement, as a refusal names it
abbrev pub named : scene.Fault → Fault
named scene.not_in_profile = faults.NotInProfile
named scene.literal_too_large = faults.LiteralTooLarge
named scene.syntax = faults.Syntax
named scene.unknown = faults.Unknown
named scene.not_integer = faults.NotInteger
named scene.loop_variable = faults.LoopVariable
named scene.rank = faults.Rank
named scene.bad_divisor = faults.BadDivisor
named scene.not_affine = faults.NotAffine
named scene.zero_step = faults.ZeroStep
named scene.do_label = faults.DoLabel
named (scene.past_limit number) = faults.Count number

-- the error of a fault of a source, or of its settings
abbrev pub error_of_fault : scene.Refusal → InputError
error_of_fault (scene.bad_line refusal) = Line refusal
error_of_fault (scene.bad_statement fault line) = Statement (refusals.Statement (named fault) line)
error_of_fault (scene.bad_setting index) = Statement (refusals.BadSetting index)

-- the first line behind END that is no comment
abbrev pub first_behind_end : List ℕ → Option ℕ
first_behind_end bytes = listing.first_behind bytes (listing.size_to_end (lines_of bytes))

-- the same where only comments may stand behind END, and else none
abbrev pub first_stray : Bool → List ℕ → Option ℕ
first_stray true bytes = first_behind_end bytes
first_stray false bytes = None

-- the first error of a source's lines: their first fault, or else the first line behind END that is no comment, where only comments may stand there
abbrev pub error_of_lines : Bool → List ℕ → Option InputError
error_of_lines alone bytes = option_or (option_map Line (listing.first_line_fault bytes))
    (option_map (λ n. Line (AfterEnd n)) (first_stray alone bytes))

-- the first error of what is listed: the first fault of a statement, or else the first setting that names no constant, or else the first limit that its program passes
abbrev pub error_of_listed : List Entry → List (Name × ℤ) → Option InputError
error_of_listed entries settings = option_or
    (option_map error_of_fault (first_fault_in entries settings))
    (option_map Limit (first_limit (program_in entries settings)))

-- the first error of a source with settings, whatever stands behind END and wherever its subscripts lie
abbrev pub first_source_error : List ℕ → List (Name × ℤ) → Option InputError
first_source_error bytes settings =
    option_or (error_of_lines false bytes) (error_of_listed (listing.entries_of bytes) settings)

-- the first error of a source with settings that is to be run: of its lines, where only comments may stand behind END of those there too; or else of what they list; or else its first subscript out of range
abbrev pub first_error : Bool → List ℕ → List (Name × ℤ) → Option InputError
first_error alone bytes settings =
    option_or (error_of_lines alone bytes)
    (option_or (error_of_listed (listing.entries_of bytes) settings)
    (option_map Range (outside_of (program_in (listing.entries_of bytes) settings))))

-- The error of a source without settings, whatever stands behind END and wherever its subscripts lie.
abbrev pub IsSourceError : List ℕ → InputError → Type 0
IsSourceError bytes error = IsFirst (first_source_error bytes []) error

-- The error of a source with settings that is to be run.
abbrev pub IsError : Bool → List ℕ → List (Name × ℤ) → InputError → Type 0
IsError alone bytes settings error = IsFirst (first_error alone bytes settings) error

-- Where only comments may stand behind END, and the lines have no fault, only comments do.
abbrev pub IsClear : Bool → List ℕ → Type 0
IsClear alone bytes =
    alone ≡ true → listing.first_line_fault bytes ≡ None → first_behind_end bytes ≡ None

-- ---- a plan behind it

-- The bytes are the text of this plan.
pub record IsTextOf (plan : Plan) (bytes : List ℕ) : Type 0 where
  pub shown : HasText plan
  pub bytes_are : bytes ≡ plan_text plan

-- Bytes are refused as a plan, by the first reason against a plan: with their first line that no plan's text has, or with the first reason against the plan whose text they are.
pub data IsRefusedBy (reason_of : Plan → Option PlanRefusal) (bytes : List ℕ) (error : InputError) :
    Type 0 where
  no_text : (number : ℕ) (first : IsFirstAlien bytes number)
      (is : error ≡ Syntax (syntaxes.Line number)) → IsRefusedBy reason_of bytes error
  unfit : (plan : Plan) (text : IsTextOf plan bytes) (reason : PlanRefusal)
      (first : reason_of plan ≡ Some reason) (is : error ≡ Misfit reason)
      → IsRefusedBy reason_of bytes error

-- The same, unless memory ran out.
abbrev pub IsPlanErrorBy : (Plan → Option PlanRefusal) → List ℕ → InputError → Type 0
IsPlanErrorBy reason_of bytes error = error ≢ NoMemory → IsRefusedBy reason_of bytes error

-- The same by the first reason why a plan doesn't fit a program.
abbrev pub IsPlanError : Tree → List ℕ → InputError → Type 0
IsPlanError tree = IsPlanErrorBy (first_refusal tree)
