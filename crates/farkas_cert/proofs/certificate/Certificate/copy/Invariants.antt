use Rattle.std.proofs.Common.{◌≡◌, take}
use Rattle.farkas_cert.proofs.certificate.Certificate.copy.Given as goal

abbrev pub invariant-loop-step : goal.invariant-loop-step
invariant-loop-step l = l.steps.items ≡ take l.step-index l.given
