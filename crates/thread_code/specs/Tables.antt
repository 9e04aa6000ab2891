-- Turnings by the remainder of a rise.
use Rattle.std.specs.Prelude.{ℕ, List, slice_get}
use Rattle.std.specs.Prelude.{unwrap_or}
use Rattle.thread_code.specs.declared.turnings.Turning.{Turning}

-- that of one processor, in place of one that isn't there
abbrev pub lone : Turning
lone = record { divisor = 1; factor = 0; stride = 1 }

abbrev pub table_of : List Turning → ℕ → Turning
table_of turnings rest = unwrap_or (slice_get turnings rest) lone
