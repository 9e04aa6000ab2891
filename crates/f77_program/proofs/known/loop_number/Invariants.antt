use Rattle.std.proofs.Common.{◌≡◌, drop, map}
use Rattle.f77_program.specs.Known.{open_of, opened_as}
use Rattle.f77_program.proofs.known.loop_number.Given as goal

abbrev pub invariant-loop-open : goal.invariant-loop-open
invariant-loop-open l = opened_as (drop l.open-index (map open_of l.opened)) l.name ≡ opened_as (map open_of l.opened) l.name
