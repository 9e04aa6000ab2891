-- When a point is taken for a solution.
use Rattle.std.specs.Prelude.{ℤ, ◌*ℤ◌, FitsSigned, ⊤, List, [], ◌∷◌}
use Rattle.std.specs.Int.{w128}
use Rattle.std.specs.List.{All}
use Rattle.farkas_cert.specs.Inequalities.{Inequalities, IsWholeSolution, left_side}

-- no product of a coefficient with its value, and no sum of these from some place to the last, passes 128 bits
abbrev pub SumsFit : List ℤ → List ℤ → Type 0
SumsFit [] xs = ⊤
SumsFit (a ∷ coefs) [] = ⊤
SumsFit (a ∷ coefs) (x ∷ xs) =
    SumsFit coefs xs × (FitsSigned w128 (a *ℤ x) × FitsSigned w128 (left_side (a ∷ coefs) (x ∷ xs)))

-- a whole solution, in whose rows no product and no sum passes 128 bits
pub record IsSeenSolution (system : Inequalities) (x : List ℤ) : Type 0 where
  pub solution : IsWholeSolution system x
  pub fits : All (λ r. SumsFit r.coefs x) system.rows
