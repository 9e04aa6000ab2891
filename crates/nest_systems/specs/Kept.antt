-- The rows and columns of a system of constraints that play a part.
use Rattle.std.specs.Prelude.{ℕ, ◌+◌, ◌-◌, ◌*◌, ◌==◌, ◌≤◌, ◌<◌, ℤ, pos, nat_le, true, false, List, [], ◌∷◌, ◌++◌, length, map, slice_index_or, if◌then◌else◌, ◌≡◌, refl}
use Rattle.std.specs.List.{All, flat_map}
use Rattle.farkas_cert.specs.declared.system.Row.{Row}
use Rattle.presolve.specs.Columns.{is_kept}
use Rattle.nest_rows.specs.declared.constraint.Constraint.{Constraint}
use Rattle.nest_rows.specs.declared.constraint.Sign.TheVariants.{Plus, Minus}
use Rattle.nest_systems.specs.declared.kept.KeptRows.{KeptRows}
use Rattle.nest_rows.specs.Constraints.{coefficient}
use Rattle.nest_rows.specs.Groups.{equal}

-- the row over these columns alone, by their places from 0; unknowns are numbered from 1
abbrev pub row_over : List ℕ → Constraint → Row
row_over columns c =
    record { coefs = map (λ k. coefficient c.terms (k + 1)) columns; bound = c.bound }

-- the number of an unknown among those of these columns, which are numbered from this one on; 0 where it isn't among them
abbrev pub number_among : ℕ → List ℕ → ℕ → ℕ
number_among next [] n = 0
number_among next (k ∷ columns) n = if k + 1 == n then next else number_among (next + 1) columns n

-- the unknowns that terms name
abbrev pub unknowns_in : List (ℕ × ℤ) → List ℕ
unknowns_in terms = map (λ t. t.0) terms

-- those that constraints name
abbrev pub named_in : List Constraint → List ℕ
named_in constraints = flat_map (λ (c : Constraint). unknowns_in c.terms) constraints

-- each unknown that a term names has its column
abbrev pub NamesKept : ℕ → List ℕ → Constraint → Type 0
NamesKept vars columns c =
    (k : ℕ) → k < vars → is_kept columns k ≡ false → is_kept (unknowns_in c.terms) (k + 1) ≡ false

-- one of so many constants, which are numbered from 1
abbrev pub IsConstant : ℕ → ℕ → Type 0
IsConstant constants n = (1 ≤ n) × (n ≤ constants)

-- beside the old ones there are those of so many constants that are among these unknowns
pub record HasTaken (constants : ℕ) (unknowns old new : List ℕ) : Type 0 where
  pub within : All (IsConstant constants) old → All (IsConstant constants) new
  pub before : (n : ℕ) → is_kept old n ≡ true → is_kept new n ≡ true
  pub taken : (n : ℕ) → IsConstant constants n → is_kept unknowns n ≡ true → is_kept new n ≡ true

-- the two constraints for the value of a constant, and their rows' numbers, where constants from 1 on have these values
abbrev pub value_of : List ℤ → ℕ → List Constraint
value_of values n = if nat_le n (length values)
    then equal Plus n (slice_index_or values (n - 1) (pos 0))
    ∷ equal Minus n (slice_index_or values (n - 1) (pos 0)) ∷ []
    else []

abbrev pub numbers_of : ℕ → ℕ → List ℕ
numbers_of count n = if nat_le n count then (2 * n - 1) ∷ 2 * n ∷ [] else []

-- behind the old rows stand those of these constraints, over the columns that are kept, with these numbers
pub record HasKept (constraints : List Constraint) (places : List ℕ) (old new : KeptRows) :
    Type 0 where
  pub columns : new.columns ≡ old.columns
  pub numbers : new.numbers.items ≡ old.numbers.items ++ places
  pub system : new.system ≡ record {
    vars = old.system.vars;
    rows = old.system.rows ++ map (row_over old.columns.now) constraints;
  }

-- x1 + 2 * x3 <= 5 over the first and the third unknown
pub row_over-example : row_over (0 ∷ 2 ∷ [])
    (record { terms = (3, pos 2) ∷ (1, pos 1) ∷ []; bound = pos 5 })
    ≡ record { coefs = pos 1 ∷ pos 2 ∷ []; bound = pos 5 }
row_over-example = refl
