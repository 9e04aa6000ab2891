-- Why words are refused.
use Rattle.std.specs.Prelude.{◌≡◌, ⊤, Bool, true, false, List, Option, None, if◌then◌else◌}
use Rattle.clap.specs.Words.{Row, Text, kind_of}
use Rattle.clap.specs.declared.error.Error.{Error}
use Rattle.clap.specs.declared.error.kind.ErrorKind.{ErrorKind}
use Rattle.clap.specs.declared.error.kind.ErrorKind.TheVariants.{OutOfMemory}
use Rattle.command_words.specs.Wanted.{Wanted, AreFaulty, asks_to_show, has_bad_sweep, has_wrong_sweep, is_shown, wanted_by}
use Rattle.command_words.specs.declared.request.Refused.{Refused}
use Rattle.command_words.specs.declared.request.Refused.TheVariants as refused

-- Help or the version is shown exactly where the words ask for it, and words are faulty exactly where they are: for a sweep that is none, or for anything else.
abbrev pub IsRefused : List Text → Refused → Type 0
IsRefused words (refused.Shown error) = asks_to_show words ≡ true
IsRefused words refused.Faulty = AreFaulty words × (has_wrong_sweep words ≡ false)
IsRefused words refused.WrongSweep = AreFaulty words × (has_wrong_sweep words ≡ true)
IsRefused words refused.NoMemory = ⊤

-- A mirror of private functions.

abbrev pub is_memory : ErrorKind → Bool
is_memory OutOfMemory = true
is_memory _ = false

-- what an error of `clap` is here, by its kind
abbrev pub refusal_by : ErrorKind → Error → Refused
refusal_by kind error = if is_memory kind
    then refused.NoMemory
    else (if is_shown kind then refused.Shown error else refused.Faulty)

abbrev pub refusal_of : Error → Refused
refusal_of error = refusal_by (kind_of error) error

-- where `clap` takes the words, and a value is none that is offered
abbrev pub IsValueFault : Option (Text × List Row) → Refused → Type 0
IsValueFault sub (refused.Shown error) = ⊥
IsValueFault sub refused.Faulty = (wanted_by sub ≡ None) × (has_bad_sweep sub ≡ false)
IsValueFault sub refused.WrongSweep = (wanted_by sub ≡ None) × (has_bad_sweep sub ≡ true)
IsValueFault sub refused.NoMemory = ⊤

-- of `verify`, where a sweep is none
abbrev pub IsSweepFault : Option Wanted → Refused → Type 0
IsSweepFault wanted (refused.Shown error) = ⊥
IsSweepFault wanted refused.Faulty = ⊥
IsSweepFault wanted refused.WrongSweep = wanted ≡ None
IsSweepFault wanted refused.NoMemory = ⊤
