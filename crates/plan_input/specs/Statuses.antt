-- The statuses of the process, and what is told.
use Rattle.std.specs.Prelude.{ℕ, Bool, true, false}
use Rattle.f77_program.specs.declared.refusal.Refusal.{Refusal}
use Rattle.f77_program.specs.declared.refusal.Refusal.TheVariants as refusals
use Rattle.plan_input.specs.declared.status.Status.{Status}
use Rattle.plan_input.specs.declared.status.Status.TheVariants as statuses
use Rattle.plan_input.specs.declared.error.InputError.{InputError}
use Rattle.plan_input.specs.declared.error.InputError.TheVariants.{BadSweep, BadWords, Limit, Line, Misfit, NoMemory, Range, ReadFault, Statement, Syntax, TooLong, WriteFault}

-- the number of a status, with which the process ends
abbrev pub code_of : Status → ℕ
code_of statuses.Done = 0
code_of statuses.SourceRefused = 1
code_of statuses.BadWords = 2
code_of statuses.ReadFault = 3
code_of statuses.WriteFault = 4
code_of statuses.NoMemory = 5
code_of statuses.PlanRefused = 6
code_of statuses.TooLong = 7

-- of a refusal of a statement, or of a setting
abbrev pub statement_status : Refusal → Status
statement_status (refusals.Statement fault line) = statuses.SourceRefused
statement_status (refusals.BadSetting index) = statuses.BadWords
statement_status refusals.NoMemory = statuses.SourceRefused

-- the status with which the process ends by an error
abbrev pub status_of : InputError → Status
status_of (Line refusal) = statuses.SourceRefused
status_of (Statement refusal) = statement_status refusal
status_of (Limit limit) = statuses.SourceRefused
status_of (Range outside) = statuses.SourceRefused
status_of BadWords = statuses.BadWords
status_of BadSweep = statuses.BadWords
status_of ReadFault = statuses.ReadFault
status_of WriteFault = statuses.WriteFault
status_of NoMemory = statuses.NoMemory
status_of (Syntax refusal) = statuses.PlanRefused
status_of (Misfit refusal) = statuses.PlanRefused
status_of TooLong = statuses.TooLong

-- a line on standard output tells it: all but a failed read or write, and want of memory
abbrev pub is_told : InputError → Bool
is_told (Line refusal) = true
is_told (Statement refusal) = true
is_told (Limit limit) = true
is_told (Range outside) = true
is_told BadWords = true
is_told BadSweep = true
is_told ReadFault = false
is_told WriteFault = false
is_told NoMemory = false
is_told (Syntax refusal) = true
is_told (Misfit refusal) = true
is_told TooLong = true
