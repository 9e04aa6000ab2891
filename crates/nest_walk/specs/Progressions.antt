-- Values in equal steps.
use Rattle.std.specs.Prelude.{ℕ, ℤ, pos, negsuc, ◌+ℤ◌, ◌*ℤ◌, List, [], ◌∷◌, map, ◌≡◌, refl}
use Rattle.std.specs.List.{range_with_len}

-- so many values, from the first on
abbrev pub progression : ℤ → ℤ → ℕ → List ℤ
progression first step count = map (λ n. first +ℤ (pos n *ℤ step)) (range_with_len 0 count)

pub progression-example : progression (pos 5) (negsuc 1) 3 ≡ pos 5 ∷ pos 3 ∷ pos 1 ∷ []
progression-example = refl
