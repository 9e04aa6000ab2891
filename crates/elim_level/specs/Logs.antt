-- Derivations: how the rows of the levels are made, as steps of a certificate.
use Rattle.std.specs.Prelude.{ℕ, ◌≤◌, IsTrue, List, ◌∷◌, ◌++◌, map, length, option_to_list, ◌≡◌}
use Rattle.std.specs.List.{All}
use Rattle.farkas_cert.specs.declared.system.Row.{Row}
use Rattle.farkas_cert.specs.declared.certificate.Step.{Step}
use Rattle.farkas_cert.specs.Inequalities.{Inequalities}
use Rattle.farkas_cert.specs.Combination.{row_at, made_row, is_narrow}
use Rattle.farkas_cert.specs.Good.{IsGoodStep, AreGoodSteps, rows_after}
use Rattle.elim_rows.specs.declared.derivation.Derivation.{Derivation}
use Rattle.elim_level.specs.declared.level.Held.{Held}
use Rattle.elim_rows.specs.declared.candidate.Candidate.{Candidate}
use Rattle.elim_rows.specs.declared.candidate.Origin.{Origin}
use Rattle.elim_rows.specs.declared.candidate.Origin.TheVariants.{Numbered, Made}
use Rattle.elim_rows.specs.Reduction.{IsReduced}

-- the step of a derivation
abbrev pub step_of : Derivation → Step
step_of d = record { divisor = d.divisor; terms = d.first ∷ option_to_list d.second }

-- the system's rows, then those that the derivations make
abbrev pub all_rows : Inequalities → List Derivation → List Row
all_rows system log = rows_after system.vars system.rows (map step_of log)

-- the derivations are good steps
abbrev pub IsLog : Inequalities → List Derivation → Type 0
IsLog system log = AreGoodSteps system.vars system.rows (map step_of log)

-- the log was carried on, or left as it was
abbrev pub IsContinued : List Derivation → List Derivation → Type 0
IsContinued old new = (more : List Derivation) × (new ≡ old ++ more)

-- the row has this number
abbrev pub IsNumber : List Row → ℕ → Row → Type 0
IsNumber rows number row = (1 ≤ number) × (number ≤ length rows) × (row_at rows number ≡ row)

-- a coefficient for each variable, and all numbers narrow
pub record IsSuited (vars : ℕ) (row : Row) : Type 0 where
  pub full : length row.coefs ≡ vars
  pub coefs : All (λ a. IsTrue (is_narrow a)) row.coefs
  pub bound : IsTrue (is_narrow row.bound)

-- the row has this number, or is what this derivation makes
abbrev pub IsOrigin : Inequalities → List Derivation → Row → Origin → Type 0
IsOrigin system log row (Numbered number) = IsNumber (all_rows system log) number row
IsOrigin system log row (Made d) = IsGoodStep system.vars (all_rows system log) (step_of d)
    × (made_row system.vars (all_rows system log) (step_of d) ≡ row)

-- a candidate that can be held
pub record IsFounded (system : Inequalities) (log : List Derivation) (candidate : Candidate) :
    Type 0 where
  pub suited : IsSuited system.vars candidate.row
  pub origin : IsOrigin system log candidate.row candidate.origin

-- a row in its lowest terms, with its number
pub record IsHeld (system : Inequalities) (log : List Derivation) (held : Held) : Type 0 where
  pub suited : IsSuited system.vars held.row
  pub number : IsNumber (all_rows system log) held.number held.row
  pub lowest : IsReduced held.row held.row

-- the rows of a level
abbrev pub rows_of : List Held → List Row
rows_of level = map (λ h. h.row) level
