use Rattle.std.proofs.Common.{◌≡◌, ◌+◌, take}
use Rattle.presolve.specs.Columns.{AreRising}
use Rattle.presolve.specs.Renamed.{renamed_step}
use Rattle.presolve.specs.Rows.{StepsNameKept, kept_number}
use Rattle.std.specs.Prelude.{map}
use Rattle.presolve.proofs.renumbering.kept_certificate.Given as goal

abbrev pub invariant-loop-step : goal.invariant-loop-step
invariant-loop-step l = AreRising 1 (l.count + 1) l.numbers → (l.steps.items ≡ map (renamed_step (kept_number l.count l.numbers)) (take l.step-index l.given)) × StepsNameKept l.count l.numbers (take l.step-index l.given)
