-- Systems of inequalities over whole numbers, and what solves them.
use Rattle.std.specs.Prelude.{ℕ, ℤ, pos, negsuc, ◌+ℤ◌, ◌*ℤ◌, ◌≤ℤ◌, List, [], ◌∷◌, length, ◌≡◌, refl}
use Rattle.std.specs.List.{All}
use Rattle.farkas_cert.specs.declared.system.Row.{Row}

-- the left side of an inequality, a . x: the sum of coefficients times values
abbrev pub left_side : List ℤ → List ℤ → ℤ
left_side [] xs = pos 0
left_side (a ∷ coefs) [] = pos 0
left_side (a ∷ coefs) (x ∷ xs) = a *ℤ x +ℤ left_side coefs xs

-- so many variables, and rows over them
pub record Inequalities : Type 0 where
  pub vars : ℕ
  pub rows : List Row

-- each row has a coefficient for each variable
abbrev pub AreFull : ℕ → List Row → Type 0
AreFull vars rows = All (λ r. length r.coefs ≡ vars) rows

-- the row holds at x
abbrev pub Holds : Row → List ℤ → Type 0
Holds row x = left_side row.coefs x ≤ℤ row.bound

-- a whole solution: a whole number for each variable, such that each row holds
pub record IsWholeSolution (system : Inequalities) (x : List ℤ) : Type 0 where
  pub values : length x ≡ system.vars
  pub rows : All (λ r. Holds r x) system.rows

-- a rational solution, x / d: whole numbers and one divisor of at least 1
pub record IsRationalSolution (system : Inequalities) (x : List ℤ) (d : ℤ) : Type 0 where
  pub values : length x ≡ system.vars
  pub divisor : pos 1 ≤ℤ d
  pub rows : All (λ r. left_side r.coefs x ≤ℤ (r.bound *ℤ d)) system.rows

abbrev pub HasNoWholeSolution : Inequalities → Type 0
HasNoWholeSolution system = (x : List ℤ) → IsWholeSolution system x → ⊥

-- 2 * 3 - 5 is 1
pub left_side-example : left_side (pos 2 ∷ negsuc 0 ∷ []) (pos 3 ∷ pos 5 ∷ []) ≡ pos 1
left_side-example = refl
