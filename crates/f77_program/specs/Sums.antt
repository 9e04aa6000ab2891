-- Adding up two lists of coefficients from the front, as the private functions do it.
use Rattle.std.specs.Prelude.{ℕ, ◌+◌, ℤ, pos, ◌≡◌, ◌<◌, ◌≤◌, false, List, [], ◌∷◌, length, IsTrue}
use Rattle.std.specs.Ordering.{int_eq}
use Rattle.nest_tree.specs.Form.{rises_above}
use Rattle.f77_scene.specs.Affine.{pairs_plus, kept}

-- the numbers rise, and no coefficient is 0
abbrev pub Ascends : ℕ → List (ℕ × ℤ) → Type 0
Ascends least [] = Unit {0}
Ascends least (p ∷ pairs) = (least < p.0) × (int_eq p.1 (pos 0) ≡ false) × Ascends p.0 pairs

-- the first pair of the sum of two lists, if its coefficient is not 0, and the lists whose sum comes behind it
pub record IsNextPair (left right : List (ℕ × ℤ)) (pair : ℕ × ℤ) (lefts rights : List (ℕ × ℤ)) :
    Type 0 where
  pub sum : pairs_plus left right ≡ kept pair.0 pair.1 (pairs_plus lefts rights)
  pub left_rises : IsTrue (rises_above 0 lefts)
  pub right_rises : IsTrue (rises_above 0 rights)
  pub fewer : length lefts + length rights + 1 ≤ length left + length right
