-- The first fault of a certificate.
use Rattle.std.specs.Prelude.{ℕ, ◌+◌, ◌-◌, ℤ, pos, negsuc, int_lt, int_rem, Bool, ◌&&◌, if◌then◌else◌, List, [], ◌∷◌, ◌++◌, length, Option, Some, None, slice_get, ◌≡◌, refl}
use Rattle.std.specs.Option.{option_or}
use Rattle.std.specs.Ordering.{int_eq}
use Rattle.std.specs.List.{list_all, range_with_len}
pub use Rattle.cert_arithmetic.specs.Terms.{has_negative, names_bad_row}
use Rattle.farkas_cert.specs.declared.system.Row.{Row}
use Rattle.farkas_cert.specs.declared.certificate.Step.{Step}
use Rattle.farkas_cert.specs.declared.certificate.Certificate.{Certificate}
use Rattle.farkas_cert.specs.declared.certificate.CertRefusal.{CertRefusal}
use Rattle.farkas_cert.specs.declared.certificate.CertRefusal.TheVariants.{NegativeMultiplier, BadRow, BadDivisor, Wide, NoContradiction}
use Rattle.farkas_cert.specs.Inequalities.{Inequalities}
use Rattle.farkas_cert.specs.Combination.{products_at, sum_at, made_row, stays_narrow}

-- the first of these entries whose products or running sums pass the limit
abbrev pub first_wide : ℕ → List Row → List (ℕ × ℤ) → List ℕ → Option ℕ
first_wide vars rows terms [] = None
first_wide vars rows terms (k ∷ entries) = if stays_narrow (pos 0) (products_at vars rows terms k)
    then first_wide vars rows terms entries
    else Some k

-- the divisor is at least 1 and divides each summed coefficient
abbrev pub divides : ℕ → List Row → Step → Bool
divides vars rows step = int_lt (pos 0) step.divisor
    && list_all (λ k. int_eq (int_rem (sum_at vars rows step.terms k) step.divisor) (pos 0))
    (range_with_len 0 vars)

-- what is wrong with the numbers of step n: first an entry (told from 1) past the limit, then the divisor
abbrev pub number_fault : ℕ → List Row → ℕ → Step → Option ℕ → Option CertRefusal
number_fault vars rows n step (Some k) = Some (Wide n (k + 1))
number_fault vars rows n step None = if divides vars rows step then None else Some (BadDivisor n)

-- what is wrong with step n, the first of these: a multiplier, a row that it names, its numbers
abbrev pub step_fault : ℕ → List Row → ℕ → Step → Option CertRefusal
step_fault vars rows n step =
    if has_negative step.terms then Some (NegativeMultiplier n)
    else if names_bad_row (length rows) step.terms then Some (BadRow n)
    else number_fault vars rows n step (first_wide vars rows step.terms
    (range_with_len 0 (vars + 1)))

-- the row has only zero coefficients and a negative bound
abbrev pub is_contradiction : Row → Bool
is_contradiction row = list_all (λ a. int_eq a (pos 0)) row.coefs && int_lt row.bound (pos 0)

-- the last row is no contradiction, or there is none
abbrev pub last_fault : ℕ → Option Row → Option CertRefusal
last_fault count None = Some (NoContradiction 0)
last_fault count (Some row) = if is_contradiction row then None else Some (NoContradiction count)

-- the first fault of the steps from n on, over the rows before them, and then of the last row
abbrev pub fault_from : ℕ → List Row → ℕ → List Step → Option CertRefusal
fault_from vars rows n [] = last_fault (length rows) (slice_get rows (length rows - 1))
fault_from vars rows n (step ∷ steps) = option_or (step_fault vars rows n step)
    (fault_from vars (rows ++ made_row vars rows step ∷ []) (n + 1) steps)

-- the first fault of a certificate, if it has one
abbrev pub first_fault : Inequalities → Certificate → Option CertRefusal
first_fault system certificate = fault_from system.vars system.rows 1 certificate.steps

-- 2 * x <= 1 and - 2 * x <= - 1: each halved, then both added, is 0 <= - 1
pub first_fault-rounding : first_fault (record {
  vars = 1;
  rows = record { coefs = pos 2 ∷ []; bound = pos 1 }
      ∷ record { coefs = negsuc 1 ∷ []; bound = negsuc 0 } ∷ [];
})
    (record {
      steps = record { divisor = pos 2; terms = (1, pos 1) ∷ [] }
          ∷ record { divisor = pos 2; terms = (2, pos 1) ∷ [] }
          ∷ record { divisor = pos 1; terms = (3, pos 1) ∷ (4, pos 1) ∷ [] } ∷ [];
    }) ≡ None
first_fault-rounding = refl

-- with the divisor 3 the first step is refused
pub first_fault-divisor : first_fault (record
    { vars = 1; rows = record { coefs = pos 2 ∷ []; bound = pos 1 } ∷ [] })
    (record { steps = record { divisor = pos 3; terms = (1, pos 1) ∷ [] } ∷ [] })
    ≡ Some (BadDivisor 1)
first_fault-divisor = refl

-- 2 ^ 126 itself is taken, and one more, at the bound, is not
pub first_fault-at_limit : first_fault (record {
  vars = 1;
  rows = record {
    coefs = pos 0 ∷ [];
    bound = negsuc 85070591730234615865843651857942052863;
  } ∷ [];
})
    (record { steps = record { divisor = pos 1; terms = (1, pos 1) ∷ [] } ∷ [] }) ≡ None
first_fault-at_limit = refl

pub first_fault-past_limit : first_fault
    (record {
      vars = 1;
      rows = record {
        coefs = pos 0 ∷ [];
        bound = negsuc 85070591730234615865843651857942052864;
      } ∷ [];
    })
    (record { steps = record { divisor = pos 1; terms = (1, pos 1) ∷ [] } ∷ [] }) ≡ Some (Wide 1 2)
first_fault-past_limit = refl
