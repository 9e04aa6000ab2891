-- Cells as whole numbers, where these loops are round an access.
use Rattle.std.specs.Prelude.{ℕ, ◌≤◌, ◌≡◌, ℤ, pos, ◌+ℤ◌, ◌-ℤ◌, ◌*ℤ◌, List, [], ◌∷◌, length, map}
use Rattle.nest_tree.specs.Form.{Form}
use Rattle.nest_tree.specs.Layout.{bounds_of, first_cell}
use Rattle.nest_tree.specs.Tree.{Tree, param_values}
use Rattle.nest_tree.specs.declared.tree.Access.{Access}
use Rattle.nest_walk.specs.Paths.{Round, form_among}

-- the place of an element as a whole number, where these loops are round it
abbrev pub place_among : List (ℤ × ℤ) → List Form → List Round → List ℤ → ℤ
place_among [] subscripts rounds params = pos 0
place_among (bounds ∷ rest) [] rounds params = pos 0
place_among (bounds ∷ rest) (f ∷ subscripts) rounds params =
    (form_among f rounds params -ℤ bounds.0)
    +ℤ (bounds.1 -ℤ bounds.0 +ℤ pos 1) *ℤ place_among rest subscripts rounds params

-- the cell of an access as a whole number
abbrev pub cell_among : Tree → Access → List Round → ℤ
cell_among tree a rounds = pos (first_cell tree a.variable)
    +ℤ place_among (bounds_of tree a.variable) a.subscripts rounds (param_values tree)

-- the loops' numbers
abbrev pub numbers_of : List Round → List ℕ
numbers_of rounds = map (λ (r : Round). r.number) rounds

-- an access to a variable that is there, with as many subscripts as it has dimensions
pub record IsThere (tree : Tree) (a : Access) : Type 0 where
  pub low : 1 ≤ a.variable
  pub high : a.variable ≤ length tree.variables
  pub as_many : length a.subscripts ≡ length (bounds_of tree a.variable)
