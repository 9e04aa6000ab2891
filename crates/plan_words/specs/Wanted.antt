-- The request that words stand for, and why words are refused.
use Rattle.std.specs.Prelude.{◌≡◌, ◌≢◌, ◌≤◌, ◌⊎◌, ⊤, ℕ, Bool, false, true, List, [], Option, Some, None, codes, if◌then◌else◌, option_and_then, option_map}
use Rattle.std.specs.List.{list_any}
use Rattle.std.specs.Str.{bytes_eq}
use Rattle.clap.specs.Words.{Row, Text, fault_of, first_of, subcommand_of}
use Rattle.clap.specs.Walk.{texts}
use Rattle.command_words.specs.Wanted.{choice_of, is_shown, settings_of, workers_of}
use Rattle.command_words.specs.declared.request.PlanChoice.{PlanChoice}
use Rattle.command_words.specs.declared.request.PlanChoice.TheVariants.{Barrier, Given, Made}
use Rattle.command_words.specs.declared.request.Refused.{Refused}
use Rattle.command_words.specs.declared.request.Refused.TheVariants.{Faulty, NoMemory, Shown, WrongSweep}
use Rattle.plan_words.specs.Rule.{plan_app}
use Rattle.plan_words.specs.declared.request.PlanRequest.{PlanRequest}
use Rattle.plan_words.specs.declared.request.PlanRequest.TheVariants as request
use Rattle.plan_words.specs.declared.request.Subject.{Subject}
use Rattle.plan_words.specs.declared.request.Subject.TheVariants.{Behind, For}

-- a request without where its texts lie in memory
pub data Wanted : Type 0 where
  explain : (subject : Subject) (json : Bool) (settings : List Text) → Wanted
  systems : (subject : Subject) (settings : List Text) → Wanted
  emit : (workers : ℕ) (choice : PlanChoice) (settings : List Text) → Wanted

abbrev pub wanted : PlanRequest → Wanted
wanted (request.Explain subject json settings) = explain subject json (texts settings.items)
wanted (request.Systems subject settings) = systems subject (texts settings.items)
wanted (request.Emit workers choice settings) = emit workers choice (texts settings.items)

-- without a number of processors no plan is told of but the one behind the source
abbrev pub behind_by : PlanChoice → Option Subject
behind_by Given = Some Behind
behind_by Made = None
behind_by Barrier = None

-- the plan that a number of processors and the name of a plan stand for: with a number the one that is named, or else the one that is made; without one the one behind the source
abbrev pub subject_by : Option Text → Option Text → Option Subject
subject_by (Some number) plan =
    option_and_then (λ n. option_map (λ choice. For n choice) (choice_of plan)) (workers_of number)
subject_by None (Some plan) = option_and_then behind_by (choice_of (Some plan))
subject_by None None = Some Behind

abbrev pub subject_of : List Row → Option Subject
subject_of rows = subject_by (first_of (codes "workers") rows) (first_of (codes "plan") rows)

-- an option without a value stands among the words
abbrev pub is_set : Option Text → Bool
is_set None = false
is_set (Some t) = bytes_eq t (codes "true")

abbrev pub explain_of : List Row → Option Wanted
explain_of rows = option_map (λ subject.
    explain subject (is_set (first_of (codes "json") rows)) (settings_of rows)) (subject_of rows)

abbrev pub systems_of : List Row → Option Wanted
systems_of rows = option_map (λ subject. systems subject (settings_of rows)) (subject_of rows)

-- a number of processors and a plan, which is the one that is made where none is named
abbrev pub emit_of : List Row → Option Wanted
emit_of rows = option_and_then (λ n. option_map (λ choice. emit n choice (settings_of rows))
    (choice_of (first_of (codes "plan") rows)))
    (option_and_then workers_of (first_of (codes "workers") rows))

abbrev pub wanted_in : Text → List Row → Option Wanted
wanted_in name rows = if bytes_eq name (codes "explain") then explain_of rows
    else (if bytes_eq name (codes "systems") then systems_of rows
    else (if bytes_eq name (codes "emit") then emit_of rows else None))

abbrev pub wanted_by : Option (Text × List Row) → Option Wanted
wanted_by sub = option_and_then (λ p. wanted_in p.0 p.1) sub

-- 1 to 64 processors
abbrev pub IsCount : ℕ → Type 0
IsCount workers = (1 ≤ workers) × (workers ≤ 64)

abbrev pub IsCountedFor : Subject → Type 0
IsCountedFor Behind = ⊤
IsCountedFor (For workers choice) = IsCount workers

abbrev pub IsCounted : Wanted → Type 0
IsCounted (explain subject json settings) = IsCountedFor subject
IsCounted (systems subject settings) = IsCountedFor subject
IsCounted (emit workers choice settings) = IsCount workers

-- The words are taken, as this request.
abbrev pub Takes : List Text → Wanted → Type 0
Takes words w = (fault_of plan_app words ≡ []) × (wanted_by (subcommand_of plan_app words) ≡ Some w)

-- The words ask for help or for the version.
abbrev pub AskToShow : List Text → Type 0
AskToShow words = list_any is_shown (fault_of plan_app words) ≡ true

-- The words are none that is offered: the rule does not take them, nor do they ask for help or for the version, or a value is none that is offered.
pub record AreFaulty (words : List Text) : Type 0 where
  pub unasked : list_any is_shown (fault_of plan_app words) ≡ false
  pub untaken : (fault_of plan_app words ≢ []) ⊎ (wanted_by (subcommand_of plan_app words) ≡ None)

-- Help or the version is shown exactly where the words ask for it, and words are faulty exactly where they are.
abbrev pub IsRefused : List Text → Refused → Type 0
IsRefused words (Shown error) = AskToShow words
IsRefused words Faulty = AreFaulty words
IsRefused words WrongSweep = ⊥
IsRefused words NoMemory = ⊤

-- where `clap` takes the words, and a value is none that is offered
abbrev pub IsValueFault : Option (Text × List Row) → Refused → Type 0
IsValueFault sub (Shown error) = ⊥
IsValueFault sub Faulty = wanted_by sub ≡ None
IsValueFault sub WrongSweep = ⊥
IsValueFault sub NoMemory = ⊤
