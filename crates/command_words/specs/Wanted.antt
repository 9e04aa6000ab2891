-- The request that words stand for.
use Rattle.std.specs.Prelude.{◌≡◌, ◌≤◌, ⊤, ◌≢◌, ◌⊎◌, ◌&&◌, ◌==◌, ◌||◌, length, not, ◌+◌, ◌-◌, ◌*◌, ℕ, IsTrue, Bool, true, false, List, [], ◌∷◌, Option, Some, None, codes, unwrap_or, is_none, nat_le, if◌then◌else◌, option_and_then, option_map}
use Rattle.std.specs.Char.{is_ascii_digit}
use Rattle.std.specs.List.{list_all, list_any}
use Rattle.std.specs.Str.{bytes_eq}
use Rattle.std.specs.Str.Parse.{digits_value}
use Rattle.clap.specs.Words.{Row, Text, first_of, all_of, fault_of, subcommand_of}
use Rattle.clap.specs.Walk.{texts}
use Rattle.clap.specs.declared.error.kind.ErrorKind.{ErrorKind}
use Rattle.clap.specs.declared.error.kind.ErrorKind.TheVariants.{DisplayHelp, DisplayVersion}
use Rattle.command_words.specs.Rule.{tool_app}
use Rattle.command_words.specs.Sweeps.{Sweep, are_bounds, sweep_at, sweep_of}
use Rattle.spmd_model.specs.declared.style.Style.{Style}
use Rattle.spmd_model.specs.declared.style.Style.TheVariants as style
use Rattle.command_words.specs.declared.request.Engine.{Engine}
use Rattle.command_words.specs.declared.request.Engine.TheVariants as engine
use Rattle.command_words.specs.declared.request.PlanChoice.{PlanChoice}
use Rattle.command_words.specs.declared.request.PlanChoice.TheVariants as choice
use Rattle.command_words.specs.declared.request.Request.{Request}
use Rattle.command_words.specs.declared.request.Request.TheVariants as request

-- a request without where its texts lie in memory
pub data Wanted : Type 0 where
  sequential : (settings : List Text) → Wanted
  verify : (settings : List Text) → Wanted
  swept : (over : Sweep) (settings : List Text) → Wanted
  planned : (workers : ℕ) (settings : List Text) → Wanted
  run : (workers : ℕ) (choice : PlanChoice) (by : Engine) (settings : List Text) → Wanted
  bench : (workers points sweeps : ℕ) → Wanted

abbrev pub wanted : Request → Wanted
wanted (request.Sequential settings) = sequential (texts settings.items)
wanted (request.Verify settings) = verify (texts settings.items)
wanted (request.Sweep s settings) = swept (sweep_of s) (texts settings.items)
wanted (request.Plan workers settings) = planned workers (texts settings.items)
wanted (request.Run r settings) = run r.workers r.choice r.engine (texts settings.items)
wanted (request.Bench b) = bench b.workers b.points b.sweeps

-- 1 to 64
abbrev pub within : ℕ → Option ℕ
within n = if nat_le 1 n && nat_le n 64 then Some n else None

abbrev pub is_digit : ℕ → Bool
is_digit d = nat_le 48 d && nat_le d 57

-- a number of workers: 1 to 64, in decimal digits without leading zeros
abbrev pub workers_of : Text → Option ℕ
workers_of [] = None
workers_of (d ∷ []) = if is_digit d then within (d - 48) else None
workers_of (c ∷ d ∷ []) =
    if nat_le 49 c && (nat_le c 57 && is_digit d) then within (10 * (c - 48) + (d - 48)) else None
workers_of (c ∷ d ∷ e ∷ rest) = None

abbrev pub plan_of : Text → Option PlanChoice
plan_of t = if bytes_eq t (codes "made") then Some choice.Made
    else (if bytes_eq t (codes "barrier") then Some choice.Barrier
    else (if bytes_eq t (codes "given") then Some choice.Given else None))

-- by which plan a program is run: the one that is made, where left out too
abbrev pub choice_of : Option Text → Option PlanChoice
choice_of None = Some choice.Made
choice_of (Some t) = plan_of t

-- how barriers are passed
abbrev pub style_of : Text → Option Style
style_of t = if bytes_eq t (codes "arrive") then Some style.Arrive
    else (if bytes_eq t (codes "dissemination") then Some style.Dissemination else None)

-- by arrivals, where left out too
abbrev pub barrier_of : Option Text → Option Style
barrier_of None = Some style.Arrive
barrier_of (Some t) = style_of t

-- what passes barriers in this style, which says nothing of runs that fork and join
abbrev pub engine_of : Style → Text → Option Engine
engine_of s t = if bytes_eq t (codes "core") then Some (engine.Core s)
    else (if bytes_eq t (codes "join") then Some engine.Join
    else (if bytes_eq t (codes "spmd") then Some (engine.Spmd s) else None))

-- by what a program is run: spmd, where left out too
abbrev pub by_of : Style → Option Text → Option Engine
by_of s None = Some (engine.Spmd s)
by_of s (Some t) = engine_of s t

-- a nonempty row of decimal digits that has no leading zero
abbrev pub is_numeral : Text → Bool
is_numeral [] = false
is_numeral (c ∷ cs) = list_all is_ascii_digit (c ∷ cs) && (not (c == 48) || (length cs == 0))

-- the number that a text writes so, where it lies within these bounds
abbrev pub size_of : ℕ → ℕ → Text → Option ℕ
size_of low high t = if is_numeral t && (nat_le low (digits_value 10 t)
    && nat_le (digits_value 10 t) high) then Some (digits_value 10 t) else None

-- the words behind the options
abbrev pub rest_of : Text → List Row → List Text
rest_of id rows = unwrap_or (all_of id rows) []

abbrev pub settings_of : List Row → List Text
settings_of rows = rest_of (codes "settings") rows

abbrev pub sizes_of : List Row → List Text
sizes_of rows = rest_of (codes "sizes") rows

-- with a sweep, where one is given, that has its form
abbrev pub verify_with : List Text → Option Text → Option Wanted
verify_with settings None = Some (verify settings)
verify_with settings (Some t) = option_map (λ s. swept s settings) (sweep_at t)

abbrev pub verify_of : List Row → Option Wanted
verify_of rows = verify_with (settings_of rows) (first_of (codes "sweep") rows)

abbrev pub make_of : List Row → Option Wanted
make_of rows = option_map (λ n. planned n (settings_of rows))
    (option_and_then workers_of (first_of (codes "workers") rows))

abbrev pub run_of : List Row → Option Wanted
run_of rows = option_and_then (λ n. option_and_then
    (λ p. option_and_then (λ s. option_map (λ e. run n p e (settings_of rows))
    (by_of s (first_of (codes "by") rows)))
    (barrier_of (first_of (codes "barrier") rows)))
    (choice_of (first_of (codes "plan") rows)))
    (option_and_then workers_of (first_of (codes "workers") rows))

-- 1 to 500,000 points, and 0 to 1,000,000 sweeps
abbrev pub sizes_named : List Text → Option (ℕ × ℕ)
sizes_named [] = None
sizes_named (n ∷ []) = None
sizes_named (n ∷ m ∷ []) = option_and_then
    (λ points. option_map (λ sweeps. (points, sweeps)) (size_of 0 1000000 m)) (size_of 1 500000 n)
sizes_named (n ∷ m ∷ k ∷ rest) = None

abbrev pub bench_of : List Row → Option Wanted
bench_of rows = option_and_then (λ n. option_map (λ s. bench n s.0 s.1)
    (sizes_named (sizes_of rows))) (option_and_then workers_of (first_of (codes "workers") rows))

abbrev pub wanted_in : Text → List Row → Option Wanted
wanted_in name rows = if bytes_eq name (codes "bench") then bench_of rows
    else (if bytes_eq name (codes "seq") then Some (sequential (settings_of rows))
    else (if bytes_eq name (codes "plan") then make_of rows
    else (if bytes_eq name (codes "run") then run_of rows
    else (if bytes_eq name (codes "verify") then verify_of rows else None))))

abbrev pub wanted_by : Option (Text × List Row) → Option Wanted
wanted_by sub = option_and_then (λ p. wanted_in p.0 p.1) sub

-- a sweep has 1 to 1,000 values, a plan, a run and a bench have 1 to 64 workers, and a bench 1 to 500,000 points and at most 1,000,000 sweeps
abbrev pub IsCounted : Wanted → Type 0
IsCounted (sequential settings) = ⊤
IsCounted (verify settings) = ⊤
IsCounted (swept s settings) = IsTrue (are_bounds s.low s.high)
IsCounted (planned workers settings) = (1 ≤ workers) × (workers ≤ 64)
IsCounted (run workers choice by settings) = (1 ≤ workers) × (workers ≤ 64)
IsCounted (bench workers points sweeps) =
    ((1 ≤ workers) × (workers ≤ 64)) × (((1 ≤ points) × (points ≤ 500000)) × (sweeps ≤ 1000000))

-- The words are taken, as this request.
abbrev pub Takes : List Text → Wanted → Type 0
Takes words w = (fault_of tool_app words ≡ []) × (wanted_by (subcommand_of tool_app words) ≡ Some w)

abbrev pub is_shown : ErrorKind → Bool
is_shown DisplayHelp = true
is_shown DisplayVersion = true
is_shown _ = false

-- no fault
abbrev pub is_fine : List ErrorKind → Bool
is_fine [] = true
is_fine (kind ∷ kinds) = false

-- of `verify`, with a sweep that is none
abbrev pub has_bad_sweep : Option (Text × List Row) → Bool
has_bad_sweep None = false
has_bad_sweep (Some (name, rows)) = bytes_eq name (codes "verify") && is_none (verify_of rows)

-- The rule takes the words, but a sweep among them is none.
abbrev pub has_wrong_sweep : List Text → Bool
has_wrong_sweep words =
    is_fine (fault_of tool_app words) && has_bad_sweep (subcommand_of tool_app words)

-- The words ask for help or for the version.
abbrev pub asks_to_show : List Text → Bool
asks_to_show words = list_any is_shown (fault_of tool_app words)

-- The words are none that is offered: the rule does not take them, nor do they ask for help or for the version, or a value is none that is offered.
abbrev pub AreFaulty : List Text → Type 0
AreFaulty words = (asks_to_show words ≡ false)
    × ((fault_of tool_app words ≢ []) ⊎ (wanted_by (subcommand_of tool_app words) ≡ None))
