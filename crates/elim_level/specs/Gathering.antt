-- Candidates of the next level: where they come from, and what they cover.
use Rattle.std.specs.Prelude.{ℕ, ◌*◌, ◌≤◌, ◌<◌, ℤ, pos, ◌<ℤ◌, int_lt, unsigned_abs, IsTrue, List, [], map, length, ◌⊎◌, ◌≡◌}
use Rattle.std.specs.List.{All, AllPairs, Contains, filter}
use Rattle.std.specs.Ordering.{int_eq}
use Rattle.farkas_cert.specs.declared.system.Row.{Row}
use Rattle.farkas_cert.specs.Inequalities.{Inequalities}
use Rattle.farkas_cert.specs.Combination.{is_narrow}
use Rattle.elim_rows.specs.declared.derivation.Derivation.{Derivation}
use Rattle.elim_level.specs.declared.level.Held.{Held}
use Rattle.elim_rows.specs.declared.candidate.Candidate.{Candidate}
use Rattle.elim_rows.specs.declared.candidate.Origin.TheVariants.{Numbered}
use Rattle.elim_rows.specs.Reduction.{IsReduced}
use Rattle.elim_rows.specs.Pairs.{coef_of, IsPair, combination, IsNarrow, IsWide}
use Rattle.elim_rows.specs.Candidates.{Covers, rows_among, IsUseful}
use Rattle.elim_level.specs.Logs.{IsFounded, IsHeld}

-- all coefficients and the bound are at most so large in size
pub record IsWithin (size : ℕ) (row : Row) : Type 0 where
  pub coefs : All (λ a. unsigned_abs a ≤ size) row.coefs
  pub bound : unsigned_abs row.bound ≤ size

-- the first row bounds the variable from above, the other from below, and their coefficients are narrow
pub record IsOpposed (variable : ℕ) (upper lower : Row) : Type 0 where
  pub from_one : 1 ≤ variable
  pub known : variable ≤ length upper.coefs
  pub same : length lower.coefs ≡ length upper.coefs
  pub above : pos 0 <ℤ coef_of variable upper
  pub below : coef_of variable lower <ℤ pos 0
  pub upper_narrow : IsTrue (is_narrow (coef_of variable upper))
  pub lower_narrow : IsTrue (is_narrow (coef_of variable lower))

-- the least combination of the two rows is nowhere wide
pub record IsNarrowPair (variable : ℕ) (upper lower : Row) : Type 0 where
  pub narrow : (m n : ℤ) → IsPair variable upper lower m n
      → IsNarrow (length upper.coefs) m upper n lower

-- it is wide somewhere
abbrev pub IsTooWide : ℕ → Row → Row → Type 0
IsTooWide variable upper lower = (m : ℤ) × (n : ℤ) × IsPair variable upper lower m n
    × IsWide (length upper.coefs) m upper n lower

-- the raw row is the least combination of the two rows
pub record IsPaired (variable : ℕ) (upper lower raw : Row) : Type 0 where
  pub m : ℤ
  pub n : ℤ
  pub pair : IsPair variable upper lower m n
  pub made : raw ≡ combination m upper n lower

-- the candidate is the least combination of the two rows, reduced, and can be held wherever they are
pub record IsMade (variable : ℕ) (upper lower : Held) (candidate : Candidate) : Type 0 where
  pub raw : Row
  pub paired : IsPaired variable upper.row lower.row raw
  pub reduced : IsReduced raw candidate.row
  pub founded : (system : Inequalities) (log : List Derivation) → IsHeld system log upper
      → IsHeld system log lower → IsFounded system log candidate

-- a row that is held already, as a candidate
abbrev pub candidate_of : Held → Candidate
candidate_of held = record { row = held.row; origin = Numbered held.number }

-- the rows of a level without the variable
abbrev pub apart_of : ℕ → List Held → List Held
apart_of variable level = filter (λ h. int_eq (coef_of variable h.row) (pos 0)) level

-- the rows that bound the variable from above, and those that bound it from below
pub record IsSplit (variable : ℕ) (level uppers lowers : List Held) : Type 0 where
  pub uppers_from : uppers ≡ filter (λ h. int_lt (pos 0) (coef_of variable h.row)) level
  pub lowers_from : lowers ≡ filter (λ h. int_lt (coef_of variable h.row) (pos 0)) level

-- how many pairs the rows have of one that bounds the variable from above and one that bounds it from below
abbrev pub pair_count : ℕ → List Held → ℕ
pair_count variable level = length (filter (λ h. int_lt (pos 0) (coef_of variable h.row)) level)
    * length (filter (λ h. int_lt (coef_of variable h.row) (pos 0)) level)

-- the rows have what the pair makes
abbrev pub CoversPair : ℕ → List Row → Row → Row → Type 0
CoversPair variable rows upper lower = (raw : Row) → IsPaired variable upper lower raw
    → (row : Row) × IsReduced raw row × Covers rows row

-- more than so many candidates in the set have coefficients of their own
pub record HasApart (limit : ℕ) (set : Candidate → Type 0) : Type 0 where
  pub kept : List Candidate
  pub many : limit < length kept
  pub all : All set kept
  pub apart : AllPairs (λ a b. a.row.coefs ≡ b.row.coefs → ⊥) kept

-- an old candidate, or made of the upper row and one of the lower ones
abbrev pub IsJoint : ℕ → Held → List Held → List Candidate → Candidate → Type 0
IsJoint variable upper lowers old c = Contains old c
    ⊎ (IsUseful c.row × ((lower : Held) × Contains lowers lower × IsMade variable upper lower c))

-- the pairs of one upper row were joined to the old candidates
pub record IsJoined (variable : ℕ) (upper : Held) (lowers : List Held) (old new : List Candidate) :
    Type 0 where
  pub only : All (IsJoint variable upper lowers old) new
  pub keeps : (row : Row) → Covers (rows_among old) row → Covers (rows_among new) row
  pub pairs : All (λ l. CoversPair variable (rows_among new) upper.row l.row) lowers

-- a row without the variable, or made of an upper and a lower row
abbrev pub IsSource : ℕ → List Held → List Held → List Held → Candidate → Type 0
IsSource variable apart uppers lowers c = IsUseful c.row
    × (Contains (map candidate_of apart) c ⊎ ((upper : Held) × (lower : Held)
    × Contains uppers upper × Contains lowers lower × IsMade variable upper lower c))

-- the candidates come of the rows without the variable and of the pairs, and cover them all
pub record IsGathered (variable : ℕ) (apart uppers lowers : List Held)
    (candidates : List Candidate) : Type 0 where
  pub only : All (IsSource variable apart uppers lowers) candidates
  pub carried : All (λ h. Covers (rows_among candidates) h.row) apart
  pub pairs : All (λ u. All (λ l. CoversPair variable (rows_among candidates) u.row l.row) lowers)
      uppers

-- the candidate is the reduction of one of the raw rows, and says something
abbrev pub IsSound : (Row → Type 0) → Candidate → Type 0
IsSound raws c = IsUseful c.row × ((raw : Row) × raws raw × IsReduced raw c.row)

-- the raw row's reduction is covered
abbrev pub IsCovered : List Candidate → Row → Type 0
IsCovered candidates raw = (row : Row) × IsReduced raw row × Covers (rows_among candidates) row

-- the candidates come of raw rows, and cover these of them
pub record AreTaken (system : Inequalities) (log : List Derivation) (raws : Row → Type 0)
    (rows : List Row) (candidates : List Candidate) : Type 0 where
  pub sound : All (IsSound raws) candidates
  pub founded : All (IsFounded system log) candidates
  pub covered : All (IsCovered candidates) rows

-- the candidates come of the system's rows, and cover these of them
abbrev pub AreGiven : Inequalities → List Row → List Candidate → Type 0
AreGiven system rows candidates = AreTaken system [] (Contains system.rows) rows candidates
