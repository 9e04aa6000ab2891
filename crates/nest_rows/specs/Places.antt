-- The numbers of the unknowns that stand for loops, and the terms of a form.
use Rattle.std.specs.Prelude.{ℕ, ◌+◌, ◌==◌, ℤ, pos, List, [], ◌∷◌, ◌++◌, map, if◌then◌else◌, ◌≡◌}
use Rattle.nest_tree.specs.Form.{Form, numbered}
use Rattle.nest_tree.specs.Tree.{Head}

-- the unknown for the value of a loop, where the outermost loop's has this number; each loop's trip has the number behind
abbrev pub place_of : ℕ → List Head → ℕ → ℕ
place_of first [] loop = 0
place_of first (h ∷ heads) loop =
    if h.number == loop then first else place_of (first + 2) heads loop

-- the terms of a form inside these loops, without its constant
abbrev pub terms_of : ℕ → List Head → Form → List (ℕ × ℤ)
terms_of first heads f = map (λ p. (place_of first heads p.0, p.1)) f.loops ++ f.params

-- the unknowns from this one on have the loops' values and trips
abbrev pub AreLaid : List ℤ → ℕ → List ℤ → List Head → List ℕ → Type 0
AreLaid values first loops [] ns = Unit {0}
AreLaid values first loops (h ∷ heads) [] = ⊥
AreLaid values first loops (h ∷ heads) (n ∷ ns) =
    (numbered values first ≡ numbered loops h.number) × (numbered values (first + 1) ≡ pos n)
    × AreLaid values (first + 2) loops heads ns

-- the values and trips of the loops, one behind another
abbrev pub laid : List ℤ → List Head → List ℕ → List ℤ
laid loops [] ns = []
laid loops (h ∷ heads) [] = []
laid loops (h ∷ heads) (n ∷ ns) = numbered loops h.number ∷ pos n ∷ laid loops heads ns
