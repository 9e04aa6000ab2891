-- The levels of Fourier's elimination, as sets of rows.
use Rattle.std.specs.Prelude.{ℕ, zero, suc, ◌+◌, ◌*◌, ◌<◌, ℤ, pos, ◌≤ℤ◌, ◌<ℤ◌, List, length, slice_index, ◌⊎◌, ◌≡◌}
use Rattle.std.specs.List.{All, AllPairs, Contains}
use Rattle.farkas_cert.specs.declared.system.Row.{Row}
use Rattle.farkas_cert.specs.Inequalities.{Inequalities}
use Rattle.elim_rows.specs.Reduction.{IsReduced}
use Rattle.elim_rows.specs.Pairs.{coef_of, IsPair, combination}
use Rattle.elim_rows.specs.Candidates.{IsEmpty}

-- what a level has of raw rows: each is reduced, of rows with equal coefficients the one with the least bound stays, and a row without coefficients only where its bound is negative
pub record IsLevelRow (raws : Row → Type 0) (row : Row) : Type 0 where
  pub reduced : (raw : Row) × raws raw × IsReduced raw row
  pub least : (raw other : Row) → raws raw → IsReduced raw other → other.coefs ≡ row.coefs
      → row.bound ≤ℤ other.bound
  pub useful : IsEmpty row → row.bound <ℤ pos 0

-- the raw row is the least combination of a pair of opposite sign of these rows
pub record IsCombined (variable : ℕ) (rows : Row → Type 0) (raw : Row) : Type 0 where
  pub upper : Row
  pub lower : Row
  pub m : ℤ
  pub n : ℤ
  pub has_upper : rows upper
  pub has_lower : rows lower
  pub pair : IsPair variable upper lower m n
  pub made : raw ≡ combination m upper n lower

-- the raw rows of the next level: the rows without the variable, and the least combinations of the pairs of opposite sign
abbrev pub IsRaw : ℕ → (Row → Type 0) → Row → Type 0
IsRaw variable rows raw = (rows raw × (coef_of variable raw ≡ pos 0)) ⊎ IsCombined variable rows raw

-- a derived row of level k: level 0 keeps the system's rows, and level k removes the k-th variable of the order
abbrev pub IsDerived : Inequalities → List ℕ → ℕ → Row → Type 0
IsDerived system order zero row = IsLevelRow (λ r. Contains system.rows r) row
IsDerived system order (suc k) row =
    IsLevelRow (IsRaw (slice_index order k) (λ r. IsDerived system order k r)) row

-- the levels 0 to k keep no row without coefficients
abbrev pub IsClearTo : Inequalities → List ℕ → ℕ → Type 0
IsClearTo system order k =
    (j : ℕ) (row : Row) → j < suc k → IsDerived system order j row → IsEmpty row → ⊥

-- more than so many different rows are in the set
abbrev pub HasMoreThan : ℕ → (Row → Type 0) → Type 0
HasMoreThan limit set =
    (rows : List Row) × (limit < length rows) × AllPairs (λ r s. r ≡ s → ⊥) rows × All set rows

-- the set has exactly so many rows
pub record HasCount (set : Row → Type 0) (count : ℕ) : Type 0 where
  pub rows : List Row
  pub has : (r : Row) → set r → Contains rows r
  pub only : (r : Row) → Contains rows r → set r
  pub apart : AllPairs (λ r s. r ≡ s → ⊥) rows
  pub counted : length rows ≡ count

-- level k + 1 is formed of so many pairs: of each row of level k that bounds the removed variable from above, with each that bounds it from below
pub record HasPairs (system : Inequalities) (order : List ℕ) (k pairs : ℕ) : Type 0 where
  pub uppers : ℕ
  pub lowers : ℕ
  pub above : HasCount (λ r. IsDerived system order k r
      × (pos 0 <ℤ coef_of (slice_index order k) r)) uppers
  pub below : HasCount (λ r. IsDerived system order k r
      × (coef_of (slice_index order k) r <ℤ pos 0)) lowers
  pub product : pairs ≡ uppers * lowers

-- the levels 1 to k are formed of so many pairs in all
abbrev pub IsWork : Inequalities → List ℕ → ℕ → ℕ → Type 0
IsWork system order zero pairs = pairs ≡ 0
IsWork system order (suc k) pairs = (before : ℕ) × (here : ℕ) × IsWork system order k before
    × HasPairs system order k here × (pairs ≡ before + here)
