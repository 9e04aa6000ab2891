-- Rows of which no two have equal coefficients, and how one more is put among them.
use Rattle.std.specs.Prelude.{ℕ, ◌<◌, ℤ, pos, ◌≤ℤ◌, ◌<ℤ◌, List, length, slice_index_or, slice_set, None, if◌then◌else◌, ◌⊎◌, ◌≡◌}
use Rattle.std.specs.List.{All, AllPairs, Contains}
use Rattle.farkas_cert.specs.declared.system.Row.{Row}
use Rattle.farkas_cert.specs.Combination.{no_row}
use Rattle.elim_rows.specs.declared.chains.Link.{Link}
use Rattle.elim_rows.specs.declared.candidate.Candidate.{Candidate}
use Rattle.elim_rows.specs.declared.candidate.Origin.{Origin}
use Rattle.elim_rows.specs.declared.candidate.Origin.TheVariants.{Numbered, Made}
use Rattle.std.specs.Ordering.{int_eq}
use Rattle.elim_rows.specs.Chains.{hash_of, link_at, AreChained}
use Rattle.elim_rows.specs.Candidates.{Covers, IsUseful, rows_among}

-- the rows differ in their coefficients, and their links have the hashes of these
pub record IsTable (rows : List Row) (links : List Link) (latest : List ℕ) : Type 0 where
  pub chained : AreChained links latest
  pub count : length links ≡ length rows
  pub hashes : (k : ℕ) → k < length rows → (link_at links k).hash
      ≡ hash_of (slice_index_or rows k no_row).coefs
  pub distinct : AllPairs (λ r s. r.coefs ≡ s.coefs → ⊥) rows

-- the candidate was put among the others: it was added, or took the place of one with its coefficients, or one of them says as much
pub record IsPut (old : List Candidate) (candidate : Candidate) (new : List Candidate) :
    Type 0 where
  pub only : All (λ c. Contains old c ⊎ ((c ≡ candidate) × IsUseful candidate.row)) new
  pub keeps : (row : Row) → Covers (rows_among old) row → Covers (rows_among new) row
  pub has : Covers (rows_among new) candidate.row

-- a row with these coefficients and this bound, and where it comes from
abbrev pub candidate_with : List ℤ → ℤ → Origin → Candidate
candidate_with coefs bound origin =
    record { row = record { coefs = coefs; bound = bound }; origin = origin }

-- the candidate at the place got the bound and the origin, if that bound is less than its own
abbrev pub IsLowered : List Candidate → ℕ → ℤ → Origin → List Candidate → Type 0
IsLowered old place bound origin new = (d : Candidate)
    → (((slice_index_or old place d).row.bound ≤ℤ bound) × (new ≡ old))
    ⊎ ((bound <ℤ (slice_index_or old place d).row.bound)
    × (new ≡ slice_set old place (candidate_with (slice_index_or old place d).row.coefs bound
    origin)))

-- where a given row, with its number, comes from when it is divided
abbrev pub origin_of : ℕ → ℤ → Origin
origin_of number divisor = if int_eq divisor (pos 1)
    then Numbered number
    else Made (record { divisor = divisor; first = (number, pos 1); second = None })
