-- The rows that steps name, and how long they are.
use Rattle.std.specs.Prelude.{ℕ, ◌+◌, ◌==◌, ◌≤◌, ◌<◌, ◌⊎◌, ℤ, Bool, false, List, ◌++◌, drop, length, slice_index, ◌≡◌}
use Rattle.std.specs.List.{list_any}
use Rattle.farkas_cert.specs.declared.certificate.Step.{Step}
use Rattle.farkas_cert.specs.declared.system.Row.{Row}
use Rattle.farkas_cert.specs.Fault.{fault_from}

-- a term names the row with this number
abbrev pub terms_name : ℕ → List (ℕ × ℤ) → Bool
terms_name r terms = list_any (λ t. t.0 == r) terms

-- a step does
abbrev pub steps_name : ℕ → List Step → Bool
steps_name r steps = list_any (λ step. terms_name r step.terms) steps

-- of numbers, one for each made row behind so many rows: each is this one now, or stays where no term names its row
abbrev pub AreTakenDown : ℕ → ℕ → List (ℕ × ℤ) → List ℕ → List ℕ → Type 0
AreTakenDown count number terms old new =
    (length new ≡ length old) × ((j : ℕ) → j < length old
    → (slice_index new j ≡ number) ⊎ ((slice_index new j ≡ slice_index old j)
    × (terms_name (count + j + 1) terms ≡ false)))

-- no step behind the one with its number names a made row
abbrev pub AreLast : ℕ → List Step → List ℕ → Type 0
AreLast count steps last =
    (length last ≡ length steps) × ((j : ℕ) → j < length steps
    → (slice_index last j ≤ length steps)
    × (steps_name (count + j + 1) (drop (slice_index last j) steps) ≡ false))

-- with other made rows, behind so many rows, the steps that are left come to the same
abbrev pub AreForgotten : ℕ → List Step → List Row → List Row → Type 0
AreForgotten count steps old new =
    (length new ≡ length old) × ((vars : ℕ) (rows : List Row) (n : ℕ) → length rows ≡ count
    → fault_from vars (rows ++ new) n (drop (length old) steps)
    ≡ fault_from vars (rows ++ old) n (drop (length old) steps))
