use Rattle.std.proofs.Common.{◌≡◌, ◌<◌, ℕ, length}
use Rattle.thread_code.specs.Closed.{IsTurningOf}
use Rattle.thread_code.specs.Tables.{table_of}
use Rattle.thread_code.proofs.turnings.Turnings.new.Given as goal

abbrev pub invariant-loop-rise : goal.invariant-loop-rise
invariant-loop-rise l = (length l.by_rise.items ≡ l.rise) × ((r : ℕ) → r < l.rise → IsTurningOf l.workers r (table_of l.by_rise.items r))
