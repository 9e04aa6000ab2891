-- Sums of unknowns that are at most a number, as rows of a system.
use Rattle.std.specs.Prelude.{ℕ, ◌==◌, Bool, ◌&&◌, ℤ, pos, negsuc, ◌+ℤ◌, ◌≤ℤ◌, List, [], ◌∷◌, map, if◌then◌else◌, ◌≡◌, refl}
use Rattle.std.specs.List.{list_all, range_with_len}
use Rattle.nest_tree.specs.Form.{dot, is_small}
use Rattle.farkas_cert.specs.Combination.{is_narrow}
use Rattle.farkas_cert.specs.Inequalities.{Inequalities}
use Rattle.farkas_cert.specs.declared.system.Row.{Row}
use Rattle.nest_rows.specs.declared.constraint.Constraint.{Constraint}

-- how often an unknown is counted in a sum
abbrev pub coefficient : List (ℕ × ℤ) → ℕ → ℤ
coefficient [] n = pos 0
coefficient ((m, c) ∷ terms) n = (if m == n then c else pos 0) +ℤ coefficient terms n

-- the row over so many unknowns, and the system
abbrev pub row_of : ℕ → Constraint → Row
row_of vars c =
    record { coefs = map (coefficient c.terms) (range_with_len 1 vars); bound = c.bound }

abbrev pub system_of : ℕ → List Constraint → Inequalities
system_of vars constraints = record { vars = vars; rows = map (row_of vars) constraints }

-- each coefficient is within plus or minus 2147483647, and the bound at most 2 ^ 126 in size
abbrev pub is_tame : Constraint → Bool
is_tame c = list_all (λ t. is_small t.1) c.terms && is_narrow c.bound

-- the unknowns have these values by number, and the sum is at most the bound
abbrev pub IsMet : List ℤ → Constraint → Type 0
IsMet values c = dot c.terms values ≤ℤ c.bound

-- 2 * x1 - x3 + x1 <= 5 over three unknowns
pub row_of-example : row_of 3 (record {
  terms = (1, pos 2) ∷ (3, negsuc 0) ∷ (1, pos 1) ∷ [];
  bound = pos 5;
}) ≡ record { coefs = pos 3 ∷ pos 0 ∷ negsuc 0 ∷ []; bound = pos 5 }
row_of-example = refl
