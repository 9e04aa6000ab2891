use Rattle.std.proofs.Common.{◌≡◌, take}
use Rattle.presolve.specs.Renamed.{number_in_64, renamed_step}
use Rattle.std.specs.Prelude.{map}
use Rattle.presolve.proofs.renumbering.whole_certificate.Given as goal

abbrev pub invariant-loop-step : goal.invariant-loop-step
invariant-loop-step l = l.steps.items ≡ map (renamed_step (number_in_64 l.count l.numbers)) (take l.step-index l.given)
