-- Values of loops by number, where some of them are written anew.
use Rattle.std.specs.Prelude.{ℤ, pos, List, [], ◌∷◌, ◌≡◌, refl}
use Rattle.nest_model.specs.Instances.{with_loop}
use Rattle.nest_walk.specs.Paths.{Round}

-- the values of loops by number, where these loops have these values and the others what they had
abbrev pub with_rounds : List ℤ → List Round → List ℤ
with_rounds loops [] = loops
with_rounds loops (r ∷ rounds) = with_loop (with_rounds loops rounds) r.number r.value

pub with_rounds-example : with_rounds (pos 1 ∷ pos 2 ∷ pos 3 ∷ [])
    (record { number = 3; value = pos 7 } ∷ record { number = 1; value = pos 5 } ∷ [])
    ≡ pos 5 ∷ pos 2 ∷ pos 7 ∷ []
with_rounds-example = refl
