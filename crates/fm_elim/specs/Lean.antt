-- Certificates that hold nothing but what they need.
use Rattle.std.specs.Prelude.{ℕ, ◌+◌, ◌-◌, ◌≤◌, ◌<◌, Bool, true, false, IsSomeAnd, List, map, length, slice_get, slice_index, slice_index_or, ◌⊎◌, ◌≡◌}
use Rattle.std.specs.List.{All, Any}
use Rattle.farkas_cert.specs.declared.certificate.Step.{Step}
use Rattle.farkas_cert.specs.declared.certificate.Certificate.{Certificate}
use Rattle.farkas_cert.specs.Inequalities.{Inequalities}
use Rattle.elim_rows.specs.declared.derivation.Derivation.{Derivation}
use Rattle.elim_level.specs.Logs.{step_of}

-- a term of the step names the row with this number
abbrev pub Names : Step → ℕ → Type 0
Names step number = Any (λ t. t.0 ≡ number) step.terms

-- each step but the last is named by a term of a later step
abbrev pub IsLean : Inequalities → Certificate → Type 0
IsLean system certificate = (k : ℕ) → k + 1 < length certificate.steps
    → (later : ℕ) × (k < later) × IsSomeAnd (slice_get certificate.steps later)
    (λ step. Names step (length system.rows + k + 1))

-- the row with this number, from 1, is marked
abbrev pub IsMarked : List Bool → ℕ → Type 0
IsMarked marks number = slice_index_or marks (number - 1) false ≡ true

-- the rows that these terms name were marked, and no other
pub record AreMarkedToo (old : List Bool) (terms : Step) (new : List Bool) : Type 0 where
  pub kept : (number : ℕ) → IsMarked old number → IsMarked new number
  pub named : All (λ t. IsMarked new t.0) terms.terms
  pub only : (number : ℕ) → 1 ≤ number → IsMarked new number
      → IsMarked old number ⊎ Names terms number

-- what the last derivation needs is marked, as far as the derivations from this place on tell: its own row, and the rows that a marked derivation names; and of the derived rows no other
pub record AreNeeded (given : ℕ) (log : List Derivation) (low : ℕ) (marks : List Bool) :
    Type 0 where
  pub whole : length marks ≡ given + length log
  pub last : IsMarked marks (given + length log)
  pub named : (k : ℕ) (d : Derivation) → low ≤ k → k < length log → IsMarked marks (given + k + 1)
      → All (λ t. IsMarked marks t.0) (step_of (slice_index_or log k d)).terms
  pub only : (k : ℕ) (d : Derivation) → k + 1 < length log → IsMarked marks (given + k + 1)
      → (later : ℕ) × (k < later) × (low ≤ later) × (later < length log)
      × IsMarked marks (given + later + 1) × Names (step_of (slice_index_or log later d))
      (given + k + 1)

-- the step with a new number for each row
abbrev pub renamed : (ℕ → ℕ) → Step → Step
renamed f step = record { divisor = step.divisor; terms = map (λ t. (f t.0, t.1)) step.terms }

-- the step by new numbers of the rows
abbrev pub renumbered : List ℕ → Step → Step
renumbered numbers step = renamed (λ n. slice_index numbers (n - 1)) step
