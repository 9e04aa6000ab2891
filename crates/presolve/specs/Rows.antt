-- A system without some of its rows.
use Rattle.std.specs.Prelude.{ℕ, zero, suc, ◌+◌, ◌-◌, ◌==◌, ◌≤◌, ℤ, true, nat_le, List, [], ◌∷◌, map, length, slice_index_or, if◌then◌else◌, ◌≡◌}
use Rattle.farkas_cert.specs.declared.system.Row.{Row}
use Rattle.farkas_cert.specs.declared.certificate.Step.{Step}
use Rattle.farkas_cert.specs.declared.certificate.Certificate.{Certificate}
use Rattle.farkas_cert.specs.declared.certificate.CertRefusal.{CertRefusal}
use Rattle.farkas_cert.specs.declared.certificate.CertRefusal.TheVariants.{NegativeMultiplier, BadRow, BadDivisor, Wide, NoContradiction, NoMemory}
use Rattle.farkas_cert.specs.Inequalities.{Inequalities}
use Rattle.farkas_cert.specs.Combination.{row_at}
use Rattle.presolve.specs.Columns.{AreRising, is_kept}

-- the rows with these numbers, from 1
abbrev pub rows_at : List ℕ → List Row → List Row
rows_at numbers rows = map (row_at rows) numbers

abbrev pub with_rows : List ℕ → Inequalities → Inequalities
with_rows numbers system = record { vars = system.vars; rows = rows_at numbers system.rows }

-- the numbers rise, and the last of the rows is among them
pub record KeepsLast (numbers : List ℕ) (rows : List Row) : Type 0 where
  pub rising : AreRising 1 (length rows + 1) numbers
  pub last : slice_index_or numbers (length numbers - 1) 0 ≡ length rows

-- the number, in the system of so many rows, of a row among those that are kept and the made ones behind them
abbrev pub whole_number : ℕ → List ℕ → ℕ → ℕ
whole_number count numbers zero = 0
whole_number count numbers (suc i) = slice_index_or numbers i (i - length numbers + count + 1)

abbrev pub renumbered_terms : ℕ → List ℕ → List (ℕ × ℤ) → List (ℕ × ℤ)
renumbered_terms count numbers terms = map (λ t. (whole_number count numbers t.0, t.1)) terms

abbrev pub renumbered_step : ℕ → List ℕ → Step → Step
renumbered_step count numbers step =
    record { divisor = step.divisor; terms = renumbered_terms count numbers step.terms }

abbrev pub renumbered : ℕ → List ℕ → Certificate → Certificate
renumbered count numbers certificate =
    record { steps = map (renumbered_step count numbers) certificate.steps }

-- a fault, told for the whole system
abbrev pub renumbered_fault : ℕ → List ℕ → CertRefusal → CertRefusal
renumbered_fault count numbers (NegativeMultiplier n) = NegativeMultiplier n
renumbered_fault count numbers (BadRow n) = BadRow n
renumbered_fault count numbers (BadDivisor n) = BadDivisor n
renumbered_fault count numbers (Wide n e) = Wide n e
renumbered_fault count numbers (NoContradiction n) = NoContradiction (whole_number count numbers n)
renumbered_fault count numbers NoMemory = NoMemory

-- the place of a number, from 0
abbrev pub place_in : List ℕ → ℕ → ℕ
place_in [] r = 0
place_in (n ∷ numbers) r = if n == r then 0 else suc (place_in numbers r)

-- the number among the rows that are kept
abbrev pub kept_number : ℕ → List ℕ → ℕ → ℕ
kept_number count numbers r = if nat_le r count
    then (if nat_le 1 r then suc (place_in numbers r) else 0)
    else r - count + length numbers

-- each given row that a certificate names is kept
abbrev pub NamesKept : ℕ → List ℕ → List (ℕ × ℤ) → Type 0
NamesKept count numbers [] = Unit {0}
NamesKept count numbers (t ∷ terms) =
    (1 ≤ t.0 → t.0 ≤ count → is_kept numbers t.0 ≡ true) × NamesKept count numbers terms

abbrev pub StepsNameKept : ℕ → List ℕ → List Step → Type 0
StepsNameKept count numbers [] = Unit {0}
StepsNameKept count numbers (step ∷ steps) =
    NamesKept count numbers step.terms × StepsNameKept count numbers steps

-- the certificate in the numbers of the rows that are kept
abbrev pub kept_certificate : ℕ → List ℕ → Certificate → Certificate
kept_certificate count numbers certificate = record {
  steps = map
      (λ step. record {
        divisor = step.divisor;
        terms = map (λ t. (kept_number count numbers t.0, t.1)) step.terms;
      }) certificate.steps;
}
