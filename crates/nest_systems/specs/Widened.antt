-- Solutions of what is left of a system.
use Rattle.std.specs.Prelude.{ℤ, List, ◌≡◌}
use Rattle.farkas_cert.specs.Inequalities.{Inequalities, IsWholeSolution}
use Rattle.presolve.specs.Columns.{kept}
use Rattle.presolve.specs.Presolution.{Presolution}

-- each whole solution of what is left solves the whole system, with some values in the columns that are left out
abbrev pub Widens : Inequalities → Presolution → Type 0
Widens whole p = (xs : List ℤ) → IsWholeSolution p.system xs
    → (ys : List ℤ) × (kept p.columns ys ≡ xs) × IsWholeSolution whole ys
