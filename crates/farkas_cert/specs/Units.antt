-- What the check of a certificate costs. A unit is one multiplication with its addition, or one division.
use Rattle.std.specs.Prelude.{ℕ, ◌+◌, ◌*◌, pos, List, [], ◌∷◌, length, ◌≡◌, refl}
pub use Rattle.cert_arithmetic.specs.Units.{RoseWithin}
use Rattle.farkas_cert.specs.declared.certificate.Step.{Step}

-- how many terms the steps have in all
abbrev pub term_count : List Step → ℕ
term_count [] = 0
term_count (step ∷ steps) = length step.terms + term_count steps

-- one for each term and each step, at each coefficient and at the bound
abbrev pub most_units : ℕ → List Step → ℕ
most_units vars steps = (term_count steps + length steps) * (vars + 1)

-- two steps with three terms, over two variables
pub most_units-example : most_units 2 (record { divisor = pos 2; terms = (1, pos 1) ∷ [] }
    ∷ record { divisor = pos 1; terms = (2, pos 1) ∷ (3, pos 1) ∷ [] } ∷ []) ≡ 15
most_units-example = refl
