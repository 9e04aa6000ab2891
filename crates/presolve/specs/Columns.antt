-- A system without columns that are 0 in each row.
use Rattle.std.specs.Prelude.{ℕ, zero, suc, ◌+◌, ◌-◌, ◌==◌, ◌≤◌, ◌<◌, ℤ, pos, Bool, false, ◌||◌, List, [], ◌∷◌, map, length, slice_index_or, if◌then◌else◌, ◌≡◌}
use Rattle.std.specs.List.{All}
use Rattle.farkas_cert.specs.declared.system.Row.{Row}
use Rattle.farkas_cert.specs.declared.certificate.CertRefusal.{CertRefusal}
use Rattle.farkas_cert.specs.declared.certificate.CertRefusal.TheVariants.{NegativeMultiplier, BadRow, BadDivisor, Wide, NoContradiction, NoMemory}
use Rattle.farkas_cert.specs.Inequalities.{Inequalities, AreFull}

-- columns, by their places from 0, rise from this place on, and stand before so many
abbrev pub AreRising : ℕ → ℕ → List ℕ → Type 0
AreRising from vars [] = Unit {0}
AreRising from vars (k ∷ keep) = (from ≤ k) × (k < vars) × AreRising (k + 1) vars keep

abbrev pub is_kept : List ℕ → ℕ → Bool
is_kept [] k = false
is_kept (j ∷ keep) k = j == k || is_kept keep k

-- of values, those of the columns that are kept
abbrev pub kept : List ℕ → List ℤ → List ℤ
kept keep values = map (λ k. slice_index_or values k (pos 0)) keep

abbrev pub kept_row : List ℕ → Row → Row
kept_row keep row = record { coefs = kept keep row.coefs; bound = row.bound }

abbrev pub with_columns : List ℕ → Inequalities → Inequalities
with_columns keep system = record { vars = length keep; rows = map (kept_row keep) system.rows }

-- each column that isn't kept is 0
abbrev pub IsZeroOutside : ℕ → List ℕ → Row → Type 0
IsZeroOutside vars keep row =
    (k : ℕ) → k < vars → is_kept keep k ≡ false → slice_index_or row.coefs k (pos 0) ≡ pos 0

pub record KeepsAll (keep : List ℕ) (system : Inequalities) : Type 0 where
  pub rising : AreRising 0 system.vars keep
  pub full : AreFull system.vars system.rows
  pub none : All (IsZeroOutside system.vars keep) system.rows

-- the entry, from 0, in the system with all columns for one in that with those that are kept: the bound's stays the bound's
abbrev pub whole_entry : ℕ → List ℕ → ℕ → ℕ
whole_entry vars keep j = slice_index_or keep j vars

-- a fault, told for the system with all columns: an entry is told from 1
abbrev pub whole_fault : ℕ → List ℕ → CertRefusal → CertRefusal
whole_fault vars keep (NegativeMultiplier n) = NegativeMultiplier n
whole_fault vars keep (BadRow n) = BadRow n
whole_fault vars keep (BadDivisor n) = BadDivisor n
whole_fault vars keep (Wide n e) = Wide n (whole_entry vars keep (e - 1) + 1)
whole_fault vars keep (NoContradiction n) = NoContradiction n
whole_fault vars keep NoMemory = NoMemory

-- from this column on so many: the values of those that are kept, one behind another, and these for the others
abbrev pub spread : (ℕ → ℤ) → ℕ → ℕ → List ℕ → List ℤ → List ℤ
spread fill from zero keep xs = []
spread fill from (suc n) [] xs = fill from ∷ spread fill (from + 1) n [] xs
spread fill from (suc n) (k ∷ keep) [] = fill from ∷ spread fill (from + 1) n [] []
spread fill from (suc n) (k ∷ keep) (x ∷ xs) = if k == from
    then x ∷ spread fill (from + 1) n keep xs
    else fill from ∷ spread fill (from + 1) n (k ∷ keep) (x ∷ xs)
