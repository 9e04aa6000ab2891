-- Programs that agree: equal in all but the values of named constants and the bounds of arrays, and equal in the bounds of arrays that are printed whole.
use Rattle.std.specs.Prelude.{ℕ, ◌≡◌, Bool, ◌&&◌, List, [], ◌∷◌, ◌++◌, length, map}
use Rattle.std.specs.List.{flat_map, list_all}
use Rattle.nest_tree.specs.Layout.{bounds_of}
use Rattle.nest_agree.specs.Same.{same_bounds, same_kind, same_list, same_name, same_statements}
use Rattle.nest_tree.specs.Tree.{Constant, Declaration, Printed, value, whole, text, Work, assign, print, Statement, Statements, do_loop, work, continue, done, next, Tree}

-- an item of a PRINT that is a whole array, by its variable
abbrev pub whole_in : Printed → List ℕ
whole_in (value e) = []
whole_in (whole v) = v ∷ []
whole_in (text characters) = []

abbrev pub wholes_of : Work → List ℕ
wholes_of (assign a) = []
wholes_of (print p) = flat_map whole_in p.items

-- the arrays that a text prints whole, in text order
abbrev mutual
  pub printed_in : Statement → List ℕ
  printed_in (do_loop head body) = printed_whole body
  printed_in (work w) = wholes_of w
  printed_in (continue line) = []

  pub printed_whole : Statements → List ℕ
  printed_whole done = []
  printed_whole (next s rest) = printed_in s ++ printed_whole rest

-- two declarations have one name, as many dimensions, and one distribution of one of them
pub record IsSameKind (v w : Declaration) : Type 0 where
  pub name : v.name ≡ w.name
  pub dimensions : length v.bounds ≡ length w.bounds
  pub axis : v.axis ≡ w.axis
  pub spread : v.spread ≡ w.spread

abbrev pub AreSameKinds : List Declaration → List Declaration → Type 0
AreSameKinds [] [] = Unit {0}
AreSameKinds [] (w ∷ ws) = ⊥
AreSameKinds (v ∷ vs) [] = ⊥
AreSameKinds (v ∷ vs) (w ∷ ws) = IsSameKind v w × AreSameKinds vs ws

-- these arrays have the same bounds in both
abbrev pub HaveSameBounds : Tree → Tree → List ℕ → Type 0
HaveSameBounds f g [] = Unit {0}
HaveSameBounds f g (v ∷ vs) = (bounds_of f v ≡ bounds_of g v) × HaveSameBounds f g vs

pub record Agree (f g : Tree) : Type 0 where
  pub items : f.items ≡ g.items
  pub names : map (λ (c : Constant). c.name) f.params ≡ map (λ (c : Constant). c.name) g.params
  pub variables : AreSameKinds f.variables g.variables
  pub bounds : HaveSameBounds f g (printed_whole f.items)

-- the same as a test that computes
abbrev pub do_agree : Tree → Tree → Bool
do_agree f g =
    same_statements f.items g.items && same_list same_name f.params g.params
    && same_list same_kind f.variables g.variables
    && list_all (same_bounds f.variables g.variables) (printed_whole f.items)
