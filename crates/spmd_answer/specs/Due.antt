-- What is due for a request: the status and the text, from the request, its settings and the bytes of the source alone.
use Rattle.std.specs.Prelude.{ℕ, ℤ, ◌≡◌, ◌==◌, ◌-◌, Bool, true, false, List, [], ◌∷◌, ◌++◌, Option, Some, None, codes, if◌then◌else◌, zero, suc, pos, ◌+ℤ◌, ◌-ℤ◌}
use Rattle.std.specs.Fmt.{signed_decimal}
use Rattle.std.specs.Option.{option_map}
use Rattle.asked_plan.specs.Plans.{IsPlanFor, IsTaken}
use Rattle.nest_tree.specs.Layout.{count_of as as_count}
use Rattle.nest_tree.specs.Tree.{Tree}
use Rattle.nest_model.specs.Memory.{output_of}
use Rattle.f77_lines.specs.Listing.{entries_of}
use Rattle.f77_program.specs.declared.refusal.Refusal.{Refusal}
use Rattle.f77_program.specs.declared.refusal.Refusal.TheVariants as refusals
use Rattle.f77_program.specs.declared.refusal.Refusal.TheVariants.{BadSetting}
use Rattle.f77_scene.specs.Reading.{program_in}
use Rattle.f77_scene.specs.Scene.{Name}
use Rattle.command_words.specs.Sweeps.{Sweep}
use Rattle.command_words.specs.Wanted.{Wanted, sequential, verify, swept, planned, run, bench}
use Rattle.command_words.specs.declared.request.PlanChoice.TheVariants.{Made, Barrier, Given}
use Rattle.plan_input.specs.Sources.{behind_end}
use Rattle.plan_input.specs.Statuses.{status_of}
use Rattle.plan_input.specs.ErrorText.{text_of_error}
use Rattle.plan_input.specs.Errors.{first_error}
use Rattle.plan_input.specs.declared.status.Status.{Status}
use Rattle.plan_input.specs.declared.status.Status.TheVariants.{Done, PlanRefused}
use Rattle.plan_input.specs.declared.error.InputError.{InputError}
use Rattle.plan_input.specs.declared.error.InputError.TheVariants as errors
use Rattle.plan_text.specs.PlanText.{plan_text}
use Rattle.plan_maker.specs.Made.{IsMade}
use Rattle.plan_maker.specs.declared.reasons.Reasons.{Reasons}
use Rattle.reason_text.specs.ReasonText.{reason_text}
use Rattle.plan_checker.specs.Proved.{first_unfit}
use Rattle.plan_checker.specs.RefusalText.{text_of_refusal as text_of_reason}
use Rattle.plan_checker.specs.declared.refusal.PlanRefusal.{PlanRefusal}
use Rattle.sync_plan.specs.declared.plan.Plan.{Plan}
use Rattle.spmd_answer.specs.Bench.{bench_head}
use Rattle.spmd_answer.specs.Given.{IsProvedPlan, IsRefusedPlan, IsUnprovedPlan}
use Rattle.spmd_answer.specs.declared.source.Behind.{Behind}
use Rattle.spmd_answer.specs.declared.source.Behind.TheVariants.{Comments, PlanText, SweptPlan}

-- a status and the text that is due with it
pub record Due : Type 0 where
  pub status : Status
  pub text : List ℕ

-- a text with its line end
abbrev pub line : List ℕ → List ℕ
line text = text ++ 10 ∷ []

-- a plan that is refused with this line
abbrev pub plan_refused : List ℕ → Due
plan_refused text = record { status = PlanRefused; text = line text }

-- all was done, with this text
abbrev pub done : List ℕ → Due
done text = record { status = Done; text = text }

-- due with an error: its status, and the line that tells it
abbrev pub due_for : InputError → Due
due_for error = record { status = status_of error; text = line (text_of_error error) }

-- a setting, by its number from 1, that isn't taken
abbrev pub wrong_setting : ℕ → Due
wrong_setting index = due_for (errors.Statement (BadSetting index))

-- a sweep that isn't taken
abbrev pub wrong_sweep : Due
wrong_sweep = due_for errors.BadSweep

-- a setting, by its number from 1, that no named constant has; a sweep's own is the first, and isn't counted among those of the words
abbrev pub setting_error : Behind → ℕ → InputError
setting_error Comments index = errors.Statement (BadSetting index)
setting_error PlanText index = errors.Statement (BadSetting index)
setting_error SweptPlan index =
    if index == 1 then errors.BadSweep else errors.Statement (BadSetting (index - 1))

-- a refusal of a statement or of a setting, as it is told
abbrev pub statement_error : Behind → Refusal → InputError
statement_error behind (refusals.Statement fault line) =
    errors.Statement (refusals.Statement fault line)
statement_error behind (BadSetting index) = setting_error behind index
statement_error behind refusals.NoMemory = errors.Statement refusals.NoMemory

-- an error of a source as it is told
abbrev pub told_as : Behind → InputError → InputError
told_as behind (errors.Statement refusal) = statement_error behind refusal
told_as behind error = error

-- due with an error of a source
abbrev pub due_of_error : Behind → InputError → Due
due_of_error behind error = due_for (told_as behind error)

-- only comments may stand behind END
abbrev pub is_alone : Behind → Bool
is_alone Comments = true
is_alone PlanText = false
is_alone SweptPlan = false

-- due with the first refusal of a source, where there is one: of its lines, of what stands behind END, of its statements, of the settings' names, of its limits, of its subscripts
abbrev pub due_of_refusal : Behind → List ℕ → List (Name × ℤ) → Option Due
due_of_refusal behind bytes settings =
    option_map (due_of_error behind) (first_error (is_alone behind) bytes settings)

-- what may stand behind the END line for a request
abbrev pub behind_of : Wanted → Behind
behind_of (sequential settings) = Comments
behind_of (verify settings) = PlanText
behind_of (swept s settings) = SweptPlan
behind_of (planned workers settings) = Comments
behind_of (run workers Made by settings) = Comments
behind_of (run workers Barrier by settings) = Comments
behind_of (run workers Given by settings) = PlanText
behind_of (bench workers points sweeps) = Comments

-- a plan is made for a request: then more than one text may be due
abbrev pub makes_plan : Wanted → Bool
makes_plan (sequential settings) = false
makes_plan (verify settings) = false
makes_plan (swept s settings) = false
makes_plan (planned workers settings) = true
makes_plan (run workers Made by settings) = true
makes_plan (run workers Barrier by settings) = true
makes_plan (run workers Given by settings) = false
makes_plan (bench workers points sweeps) = true

-- a request is for a run by a plan, which leaves a receipt
abbrev pub is_run : Wanted → Bool
is_run (sequential settings) = false
is_run (verify settings) = false
is_run (swept s settings) = false
is_run (planned workers settings) = false
is_run (run workers choice by settings) = true
is_run (bench workers points sweeps) = true

-- the settings with which a source is read where a sweep's constant has this value: its name is the first that is looked up, and its value the last, which counts
abbrev pub settings_at : Sweep → List (Name × ℤ) → ℤ → List (Name × ℤ)
settings_at s settings value = (s.name, value) ∷ settings ++ (s.name, value) ∷ []

-- those with which the source of a request is read: of a sweep with its lowest value
abbrev pub settings_for : Wanted → List (Name × ℤ) → List (Name × ℤ)
settings_for (sequential words) settings = settings
settings_for (verify words) settings = settings
settings_for (swept s words) settings = settings_at s settings s.low
settings_for (planned workers words) settings = settings
settings_for (run workers choice by words) settings = settings
settings_for (bench workers points sweeps) settings = settings

-- what a source is with each value of a sweep: what is due with its first refusal, where there is one, and its program
abbrev pub Readings : Type 0
Readings = Sweep → ℤ → Option Due × Tree

abbrev pub readings : List (Name × ℤ) → List ℕ → Readings
readings settings bytes s value = (
  due_of_refusal SweptPlan bytes (settings_at s settings value),
  program_in (entries_of bytes) (settings_at s settings value),
)

-- why a plan doesn't fit a program, or that it is accepted for it
abbrev pub fit_text : Option PlanRefusal → List ℕ
fit_text None = line (codes "ACCEPTED")
fit_text (Some reason) = line (text_of_reason reason)

-- the same of a plan that is proved on a program, for a reading, which may be refused first
abbrev pub reading_text : Tree → Plan → Option Due × Tree → List ℕ
reading_text proved plan (Some refusal, tree) = refusal.text
reading_text proved plan (None, tree) = fit_text (first_unfit proved plan tree)

-- a value, and the text for it
abbrev pub value_line : (ℤ → List ℕ) → ℤ → List ℕ
value_line text value = signed_decimal value ++ 32 ∷ text value

-- each of so many values from this one on, and the text for it
abbrev pub value_lines : (ℤ → List ℕ) → ℤ → ℕ → List ℕ
value_lines text low zero = []
value_lines text low (suc n) = value_lines text low n ++ value_line text (low +ℤ pos n)

-- how many values a sweep has
abbrev pub count_in : Sweep → ℕ
count_in s = as_count (s.high -ℤ s.low +ℤ pos 1)

-- each value of a sweep, and what is due with it
abbrev pub swept_text : Tree → Plan → (ℤ → Option Due × Tree) → Sweep → List ℕ
swept_text proved plan at s =
    value_lines (λ value. reading_text proved plan (at value)) s.low (count_in s)

-- What is written of a run by this plan, with these bytes behind the program's END line: of `run` the plan's text and then the sequential output; of `bench` the sizes, how many waits of each kind the plan has, and then the output.
abbrev pub IsTextBy : Wanted → Tree → List ℕ → Plan → List ℕ → Type 0
IsTextBy (sequential settings) tree bytes plan text = ⊥
IsTextBy (verify settings) tree bytes plan text = ⊥
IsTextBy (swept s settings) tree bytes plan text = ⊥
IsTextBy (planned workers settings) tree bytes plan text = ⊥
IsTextBy (run workers choice by settings) tree bytes plan text =
    IsPlanFor choice workers tree bytes plan × (text ≡ plan_text plan ++ output_of tree)
IsTextBy (bench workers points sweeps) tree bytes plan text = IsPlanFor Made workers tree bytes plan
    × (text ≡ bench_head workers points sweeps plan ++ output_of tree)

-- What is written for a request on a program, with these bytes behind its END line: of a sequential run the output; that the plan is accepted; of a sweep, whose source has these readings, a line for each value, by a plan that is proved on the program; of a plan that is made the plan's text and then that of its reasons; of a run what is written of it by some plan.
abbrev pub IsTextFor : Wanted → Tree → Readings → List ℕ → List ℕ → Type 0
IsTextFor (sequential settings) tree at bytes text = text ≡ output_of tree
IsTextFor (verify settings) tree at bytes text =
    (plan : Plan) × IsTaken None tree bytes plan × (text ≡ line (codes "ACCEPTED"))
IsTextFor (swept s settings) tree at bytes text =
    (plan : Plan) × IsProvedPlan tree bytes plan × (text ≡ swept_text tree plan (at s) s)
IsTextFor (planned workers settings) tree at bytes text = (made : Plan) × (reasons : Reasons)
    × IsMade tree workers made reasons × (text ≡ plan_text made ++ reason_text tree reasons)
IsTextFor (run workers choice by settings) tree at bytes text =
    (plan : Plan) × IsTextBy (run workers choice by settings) tree bytes plan text
IsTextFor (bench workers points sweeps) tree at bytes text =
    (plan : Plan) × IsTextBy (bench workers points sweeps) tree bytes plan text

-- The line with which the plan is refused that stands behind END: no request has one where no plan may stand there.
abbrev pub IsRefusalFor : Wanted → Tree → List ℕ → List ℕ → Type 0
IsRefusalFor (sequential settings) tree bytes reason = ⊥
IsRefusalFor (verify settings) tree bytes reason = IsRefusedPlan None tree bytes reason
IsRefusalFor (swept s settings) tree bytes reason = IsUnprovedPlan tree bytes reason
IsRefusalFor (planned workers settings) tree bytes reason = ⊥
IsRefusalFor (run workers Made by settings) tree bytes reason = ⊥
IsRefusalFor (run workers Barrier by settings) tree bytes reason = ⊥
IsRefusalFor (run workers Given by settings) tree bytes reason =
    IsRefusedPlan (Some workers) tree bytes reason
IsRefusalFor (bench workers points sweeps) tree bytes reason = ⊥

-- Due for a request on a program, whose source has these readings, and these bytes behind its END line.
pub data IsDueOn (wanted : Wanted) (tree : Tree) (at : Readings) (bytes : List ℕ) (due : Due) :
    Type 0 where
  unaccepted : (reason : List ℕ) (is : IsRefusalFor wanted tree bytes reason)
      (due_is : due ≡ plan_refused reason) → IsDueOn wanted tree at bytes due
  written : (text : List ℕ) (is : IsTextFor wanted tree at bytes text) (due_is : due ≡ done text)
      → IsDueOn wanted tree at bytes due

-- a refusal, where there is one, or else what is due without
abbrev pub IsFirstOr : Option Due → (Due → Type 0) → Due → Type 0
IsFirstOr (Some refusal) IsElse due = due ≡ refusal
IsFirstOr None IsElse due = IsElse due

-- Due for a request with these settings, from the source's bytes.
abbrev pub IsDueOf : Wanted → List (Name × ℤ) → List ℕ → Due → Type 0
IsDueOf wanted settings bytes due =
    IsFirstOr (due_of_refusal (behind_of wanted) bytes (settings_for wanted settings))
    (IsDueOn wanted (program_in (entries_of bytes) (settings_for wanted settings))
    (readings settings bytes) (behind_end bytes)) due
