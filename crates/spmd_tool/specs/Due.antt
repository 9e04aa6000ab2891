-- What is due for a command: the status and the text, from its words and the bytes of the source alone.
use Rattle.std.specs.Prelude.{ℕ, ℤ, ◌≡◌, ◌≤◌, ◌⊎◌, ⊤, Bool, true, false, List, [], length, Option, Some, None, nat_lt, if◌then◌else◌}
use Rattle.std.specs.Option.{option_map, option_or}
use Rattle.nest_tree.specs.Tree.{Tree}
use Rattle.f77_lines.specs.Listing.{entries_of}
use Rattle.f77_scene.specs.Reading.{program_in}
use Rattle.f77_scene.specs.Scene.{Name}
use Rattle.sync_plan.specs.declared.plan.Plan.{Plan}
use Rattle.asked_plan.specs.Plans.{IsTaken}
use Rattle.plan_input.specs.Sources.{behind_end}
use Rattle.plan_input.specs.declared.error.InputError.TheVariants as errors
use Rattle.clap.specs.Words.{Text}
use Rattle.command_words.specs.Settings.{first_fault_from, settings_in}
use Rattle.command_words.specs.Wanted.{Wanted, sequential, verify, swept, planned, run, bench, Takes, AreFaulty, asks_to_show, has_wrong_sweep}
use Rattle.command_words.specs.declared.request.PlanChoice.TheVariants.{Made, Barrier, Given}
use Rattle.spmd_answer.specs.Bench.{bench_source}
use Rattle.spmd_answer.specs.Due as answer
use Rattle.spmd_answer.specs.Due.{Due, IsFirstOr, Readings, behind_of, due_for, due_of_refusal, readings, settings_for, wrong_setting}
use Rattle.spmd_answer.specs.Given.{IsProvedPlan}
use Rattle.spmd_answer.specs.declared.receipt.Receipt.{Receipt}
use Rattle.spmd_answer.specs.Receipts.{HasReceipt}
use Rattle.plan_input.specs.declared.status.Status.{Status}
use Rattle.plan_input.specs.declared.status.Status.TheVariants.{Done, SourceRefused, BadWords, ReadFault, WriteFault, NoMemory, PlanRefused, TooLong}

-- the most bytes of a source
abbrev pub most_bytes : ℕ
most_bytes = 4194304

-- the words of a request that are to be settings
abbrev pub settings_of : Wanted → List Text
settings_of (sequential settings) = settings
settings_of (verify settings) = settings
settings_of (swept s settings) = settings
settings_of (planned workers settings) = settings
settings_of (run workers choice by settings) = settings
settings_of (bench workers points sweeps) = []

-- the source is read for a request; `bench` has its own
abbrev pub reads : Wanted → Bool
reads (sequential settings) = true
reads (verify settings) = true
reads (swept s settings) = true
reads (planned workers settings) = true
reads (run workers choice by settings) = true
reads (bench workers points sweeps) = false

-- the bytes from which a request is answered: those of the source, or of `bench` those of its own program
abbrev pub source_for : Wanted → List ℕ → List ℕ
source_for (sequential settings) bytes = bytes
source_for (verify settings) bytes = bytes
source_for (swept s settings) bytes = bytes
source_for (planned workers settings) bytes = bytes
source_for (run workers choice by settings) bytes = bytes
source_for (bench workers points sweeps) bytes = bench_source points sweeps

-- due with a source of too many bytes
abbrev pub too_long : Due
too_long = due_for errors.TooLong

-- due with words that are none that is offered, for a sweep that has not its form, or for anything else
abbrev pub wrong_words : List Text → Due
wrong_words words = due_for (if has_wrong_sweep words then errors.BadSweep else errors.BadWords)

abbrev pub first_wrong : Wanted → Option ℕ
first_wrong wanted = first_fault_from 1 (settings_of wanted)

-- due with the first word that should be a setting and is none, or else with a source of too many bytes
abbrev pub due_of_form : Wanted → List ℕ → Option Due
due_of_form wanted bytes = option_or (option_map wrong_setting (first_wrong wanted))
    (if nat_lt most_bytes (length bytes) then Some too_long else None)

-- Due for a request, from all bytes of its source.
unfoldable pub IsDueFor : Wanted → List ℕ → Due → Type 0
IsDueFor wanted bytes due = IsFirstOr (due_of_form wanted bytes)
    (answer.IsDueOf wanted (settings_in (settings_of wanted)) bytes) due

-- What is due for words and bytes: help or the version, whose text is left open; the refusal of words that are none that is offered; or what is due for the request that they stand for.
pub data IsDue (words : List Text) (bytes : List ℕ) (due : Due) : Type 0 where
  shown : (asks : asks_to_show words ≡ true) (status_is : due.status ≡ Done) → IsDue words bytes due
  faulty : (are : AreFaulty words) (due_is : due ≡ wrong_words words) → IsDue words bytes due
  asked : (wanted : Wanted) (takes : Takes words wanted)
      (is_due : IsDueFor wanted (source_for wanted bytes) due) → IsDue words bytes due

-- no plan is made for words: then one text is due, but for help and the version
abbrev pub MakeNoPlan : List Text → Type 0
MakeNoPlan words = (wanted : Wanted) → Takes words wanted → answer.makes_plan wanted ≡ false

-- The words stand for this request, and its settings have the form of settings.
pub record AskFor (words : List Text) (wanted : Wanted) : Type 0 where
  pub takes : Takes words wanted
  pub settings_are : first_wrong wanted ≡ None

-- The same, and the source is read for it.
pub record ReadFor (words : List Text) (wanted : Wanted) : Type 0 where
  pub asked : AskFor words wanted
  pub reads_are : reads wanted ≡ true

-- The words are faulty, or one of them that should be a setting is none.
abbrev pub AreWrong : List Text → Type 0
AreWrong words = AreFaulty words ⊎ ((wanted : Wanted) × (index : ℕ) × Takes words wanted
    × (first_wrong wanted ≡ Some index))

-- the settings with which the source of a request is read
abbrev pub all_settings : Wanted → List (Name × ℤ)
all_settings wanted = settings_for wanted (settings_in (settings_of wanted))

-- the program that the bytes stand for, with the request's settings
abbrev pub program_for : Wanted → List ℕ → Tree
program_for wanted bytes = program_in (entries_of bytes) (all_settings wanted)

-- what the bytes are with each value of a sweep
abbrev pub readings_for : Wanted → List ℕ → Readings
readings_for wanted bytes = readings (settings_in (settings_of wanted)) bytes

-- behind END stands the text of an accepted plan, with the workers that are asked for, or of one that is proved, where the request takes one from there
abbrev pub HasPlan : Wanted → Tree → List ℕ → Type 0
HasPlan (sequential settings) tree bytes = ⊤
HasPlan (verify settings) tree bytes = (plan : Plan) × IsTaken None tree bytes plan
HasPlan (swept s settings) tree bytes = (plan : Plan) × IsProvedPlan tree bytes plan
HasPlan (planned workers settings) tree bytes = ⊤
HasPlan (bench workers points sweeps) tree bytes = ⊤
HasPlan (run workers Made by settings) tree bytes = ⊤
HasPlan (run workers Barrier by settings) tree bytes = ⊤
HasPlan (run workers Given by settings) tree bytes =
    (plan : Plan) × IsTaken (Some workers) tree bytes plan

-- There is the receipt of a run by a plan, where it writes what is due for a request from these bytes of its source, and else none.
abbrev pub HasReceiptFor : Wanted → List ℕ → Due → Option Receipt → Type 0
HasReceiptFor wanted bytes due receipt =
    HasReceipt wanted (program_for wanted bytes) (behind_end bytes) due receipt

-- The bytes stand for a program that is within its limits and has its subscripts in range, where its named constants have the values of the request's settings; and what stands behind END may.
pub record IsRunnable (wanted : Wanted) (bytes : List ℕ) : Type 0 where
  pub short : length bytes ≤ most_bytes
  pub unrefused : due_of_refusal (behind_of wanted) bytes (all_settings wanted) ≡ None
  pub planned : HasPlan wanted (program_for wanted bytes) (behind_end bytes)

-- The same as `IsRunnable`, but that no such plan stands behind END, where the request takes one from there.
pub record IsUnplanned (wanted : Wanted) (bytes : List ℕ) : Type 0 where
  pub short : length bytes ≤ most_bytes
  pub unrefused : due_of_refusal (behind_of wanted) bytes (all_settings wanted) ≡ None
  pub unplanned : HasPlan wanted (program_for wanted bytes) (behind_end bytes) → ⊥

-- the statuses with which a text is due: 0, 1, 2, 6 and 7
abbrev pub is_said : Status → Bool
is_said Done = true
is_said SourceRefused = true
is_said BadWords = true
is_said PlanRefused = true
is_said TooLong = true
is_said ReadFault = false
is_said WriteFault = false
is_said NoMemory = false

-- the answer is this status, unless memory ran out
abbrev pub IsOrNoMemory : Status → Status → Type 0
IsOrNoMemory status answer = (answer ≡ status) ⊎ (answer ≡ NoMemory)
