-- Certificates with other numbers of rows.
use Rattle.std.specs.Prelude.{ℕ, ◌+◌, ◌-◌, ◌^◌, ◌==◌, min, ℤ, List, map, length, slice_index_or, if◌then◌else◌}
use Rattle.farkas_cert.specs.declared.certificate.Certificate.{Certificate}
use Rattle.farkas_cert.specs.declared.certificate.CertRefusal.{CertRefusal}
use Rattle.farkas_cert.specs.declared.certificate.CertRefusal.TheVariants.{NegativeMultiplier, BadRow, BadDivisor, Wide, NoContradiction, NoMemory}
use Rattle.farkas_cert.specs.declared.certificate.Step.{Step}
use Rattle.presolve.specs.Columns.{whole_entry}
use Rattle.presolve.specs.Presolution.{Presolution}

-- each number of a row becomes this one
abbrev pub renamed_terms : (ℕ → ℕ) → List (ℕ × ℤ) → List (ℕ × ℤ)
renamed_terms to terms = map (λ t. (to t.0, t.1)) terms

abbrev pub renamed_step : (ℕ → ℕ) → Step → Step
renamed_step to step = record { divisor = step.divisor; terms = renamed_terms to step.terms }

abbrev pub renamed : (ℕ → ℕ) → Certificate → Certificate
renamed to certificate = record { steps = map (renamed_step to) certificate.steps }

-- whole_number, where it fits 64 bits; else the greatest of these
abbrev pub number_in_64 : ℕ → List ℕ → ℕ → ℕ
number_in_64 count numbers number = if number == 0
    then 0
    else slice_index_or numbers (number - 1)
    (min (number - 1 - length numbers + (count + 1)) (2 ^ 64 - 1))

-- a fault of what is left, told of the whole system, whose rows' numbers are told as 64 bits hold them
abbrev pub fault_in_64 : Presolution → CertRefusal → CertRefusal
fault_in_64 p (NegativeMultiplier n) = NegativeMultiplier n
fault_in_64 p (BadRow n) = BadRow n
fault_in_64 p (BadDivisor n) = BadDivisor n
fault_in_64 p (Wide n e) = Wide n (whole_entry p.vars p.columns (e - 1) + 1)
fault_in_64 p (NoContradiction n) = NoContradiction (number_in_64 p.count p.numbers n)
fault_in_64 p NoMemory = NoMemory
