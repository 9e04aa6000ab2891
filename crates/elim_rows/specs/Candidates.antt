-- Rows of candidates: which say something, and what they cover.
use Rattle.std.specs.Prelude.{◌<◌, pos, ◌≤ℤ◌, ◌<ℤ◌, List, ◌⊎◌, ◌≡◌, ◌≤◌, [], map, ◌∷◌, ◌++◌}
use Rattle.std.specs.List.{All, Contains}
use Rattle.farkas_cert.specs.declared.system.Row.{Row}
use Rattle.elim_rows.specs.declared.candidate.Candidate.{Candidate}

-- only zero coefficients
abbrev pub IsEmpty : Row → Type 0
IsEmpty row = All (λ a. a ≡ pos 0) row.coefs

-- a row without coefficients has a negative bound
abbrev pub IsUseful : Row → Type 0
IsUseful row = IsEmpty row → row.bound <ℤ pos 0

-- the list has a row that says as much: it has the same coefficients and no greater bound, or none is needed
abbrev pub Covers : List Row → Row → Type 0
Covers rows row = (IsEmpty row × (pos 0 ≤ℤ row.bound))
    ⊎ ((least : Row) × Contains rows least × (least.coefs ≡ row.coefs) × (least.bound ≤ℤ row.bound))

-- the candidate was added, or left out since its row says nothing
abbrev pub IsAdded : List Candidate → Candidate → List Candidate → Type 0
IsAdded old candidate new = ((new ≡ old ++ candidate ∷ [])
    × (IsEmpty candidate.row → candidate.row.bound <ℤ pos 0))
    ⊎ ((new ≡ old) × IsEmpty candidate.row × (pos 0 ≤ℤ candidate.row.bound))

-- the rows of candidates
abbrev pub rows_among : List Candidate → List Row
rows_among candidates = map (λ c. c.row) candidates
