-- Sweeps: NAME=LOW:HIGH.
use Rattle.std.specs.Prelude.{◌==◌, ◌&&◌, ℕ, ℤ, ◌-ℤ◌, pos, int_le, int_lt, Bool, Option, Some, None, option_and_then, if◌then◌else◌}
use Rattle.std.specs.List.{before_first, after_first}
use Rattle.clap.specs.Words.{Text}
use Rattle.command_words.specs.Settings.{setting_at, value_of}
use Rattle.command_words.specs.declared.sweep.Sweep.{Sweep as Written}

-- a named constant with the lowest and the highest of the values that it is to have
pub record Sweep : Type 0 where
  pub name : Text
  pub low : ℤ
  pub high : ℤ

abbrev pub sweep_of : Written → Sweep
sweep_of s = record { name = s.name.items; low = s.low; high = s.high }

-- at least one value, and at most 1,000
abbrev pub are_bounds : ℤ → ℤ → Bool
are_bounds low high = int_le low high && int_lt (high -ℤ low) (pos 1000)

abbrev pub sweep_with : Text × ℤ → ℤ → Option Sweep
sweep_with lowest high = if are_bounds lowest.1 high
    then Some (record { name = lowest.0; low = lowest.1; high = high })
    else None

-- from the value of a setting to the one that a text writes
abbrev pub sweep_between : Text × ℤ → Text → Option Sweep
sweep_between lowest t = option_and_then (sweep_with lowest) (value_of t)

abbrev pub is_colon : ℕ → Bool
is_colon c = c == 58

-- a setting with the lowest value, and the highest value behind the first `:`
abbrev pub sweep_at : Text → Option Sweep
sweep_at t = option_and_then (λ lowest. sweep_between lowest (after_first is_colon t))
    (setting_at (before_first is_colon t))
