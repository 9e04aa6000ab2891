-- Why a source stands for no program.
use Rattle.std.specs.Prelude.{ℕ, ℤ}
use Rattle.f77_lines.specs.declared.refusal.LineRefusal.{LineRefusal}

-- the fault of a statement, with its code in the program's output
pub data Fault : Type 0 where
  -- F2
  not_in_profile : Fault
  -- F11
  literal_too_large : Fault
  -- F1
  syntax : Fault
  -- F4
  unknown : Fault
  -- F3
  not_integer : Fault
  -- F10
  loop_variable : Fault
  -- F5
  rank : Fault
  -- F8
  bad_divisor : Fault
  -- F6
  not_affine : Fault
  -- F7
  zero_step : Fault
  -- F9
  do_label : Fault
  -- F12, with the number that passes a limit
  past_limit : (number : ℤ) → Fault

-- a fault of a line, the fault of the statement that begins at a line, or a setting by its number from 1 that names no PARAMETER
pub data Refusal : Type 0 where
  bad_line : (refusal : LineRefusal) → Refusal
  bad_statement : (fault : Fault) (line : ℕ) → Refusal
  bad_setting : (index : ℕ) → Refusal
