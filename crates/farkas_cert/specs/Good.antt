-- Good certificates.
use Rattle.std.specs.Prelude.{ℕ, ◌-◌, ◌≤◌, ◌<◌, pos, ◌≤ℤ◌, ◌<ℤ◌, int_rem, IsTrue, IsSomeAnd, List, [], ◌∷◌, ◌++◌, length, slice_get, ◌≡◌}
use Rattle.std.specs.List.{All}
use Rattle.farkas_cert.specs.declared.system.Row.{Row}
use Rattle.farkas_cert.specs.declared.certificate.Step.{Step}
use Rattle.farkas_cert.specs.declared.certificate.Certificate.{Certificate}
use Rattle.farkas_cert.specs.Inequalities.{Inequalities}
use Rattle.farkas_cert.specs.Combination.{products_at, sum_at, made_row, stays_narrow}

-- multipliers of at least 0, rows that stand before, narrow numbers, and a divisor of at least 1 that divides each summed coefficient
pub record IsGoodStep (vars : ℕ) (rows : List Row) (step : Step) : Type 0 where
  pub multipliers : All (λ t. pos 0 ≤ℤ t.1) step.terms
  pub named : All (λ t. (1 ≤ t.0) × (t.0 ≤ length rows)) step.terms
  pub narrow : (k : ℕ) → k ≤ vars → IsTrue
      (stays_narrow (pos 0) (products_at vars rows step.terms k))
  pub divisor : pos 1 ≤ℤ step.divisor
  pub divides : (k : ℕ) → k < vars → int_rem (sum_at vars rows step.terms k) step.divisor ≡ pos 0

-- each step is good over the rows before it: these, and those that the steps before it make
abbrev pub AreGoodSteps : ℕ → List Row → List Step → Type 0
AreGoodSteps vars rows [] = Unit {0}
AreGoodSteps vars rows (step ∷ steps) =
    IsGoodStep vars rows step × AreGoodSteps vars (rows ++ made_row vars rows step ∷ []) steps

-- these rows, then those that the steps make
abbrev pub rows_after : ℕ → List Row → List Step → List Row
rows_after vars rows [] = rows
rows_after vars rows (step ∷ steps) = rows_after vars (rows ++ made_row vars rows step ∷ []) steps

-- only zero coefficients, and a negative bound
abbrev pub IsContradiction : Row → Type 0
IsContradiction row = All (λ a. a ≡ pos 0) row.coefs × (row.bound <ℤ pos 0)

-- the last of these rows is a contradiction
abbrev pub EndInContradiction : List Row → Type 0
EndInContradiction rows = IsSomeAnd (slice_get rows (length rows - 1)) IsContradiction

-- each step is good, and the last row of all is a contradiction
pub record IsGood (system : Inequalities) (certificate : Certificate) : Type 0 where
  pub steps : AreGoodSteps system.vars system.rows certificate.steps
  pub last : EndInContradiction (rows_after system.vars system.rows certificate.steps)
