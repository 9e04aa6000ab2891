-- The units of the steps that are left.
use Rattle.std.proofs.Common.{◌≡◌, ℕ, ◌+◌, ◌<◌, List, [], ◌∷◌, length, get_or, drop, add-one, arith}
use Rattle.std.proofs.Math.Seq.{drop-cons}
use Rattle.farkas_cert.specs.declared.certificate.Step.{Step}
use Rattle.farkas_cert.specs.Units.{most_units}

pub most_units_step : (vars i : ℕ) (steps : List Step) (step : Step) → i < length steps → step ≡ get_or steps i step → most_units vars (drop i steps) ≡ most_units vars (step ∷ []) + most_units vars (drop (i + 1) steps)
most_units_step vars i steps step within at = rw (add-one i, drop-cons steps i step within, ← at) (omega arith)
