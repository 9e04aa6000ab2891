-- Which cell of memory a variable's element has: variables one behind another, arrays in column-major order (ANSI X3.9-1978, 5.2.5).
use Rattle.std.specs.Prelude.{ℕ, zero, suc, ◌+◌, ◌*◌, ◌-◌, ℤ, pos, negsuc, ◌-ℤ◌, ◌+ℤ◌, int_le, Bool, true, ◌&&◌, List, [], ◌∷◌, take, ◌≡◌, refl}
use Rattle.nest_tree.specs.declared.tree.Spread.TheVariants.{Block}
use Rattle.nest_tree.specs.Tree.{Declaration, Tree, done}

-- a whole number as a count, 0 where it is negative
abbrev pub count_of : ℤ → ℕ
count_of (pos n) = n
count_of (negsuc n) = 0

-- how many places a dimension has
abbrev pub extent : ℤ × ℤ → ℕ
extent (low, high) = count_of (high -ℤ low +ℤ pos 1)

-- how many elements an array has, 1 for a scalar
abbrev pub element_count : List (ℤ × ℤ) → ℕ
element_count [] = 1
element_count (bounds ∷ rest) = extent bounds * element_count rest

-- the place of an element in its array, from 0: the first subscript varies fastest
abbrev pub element_place : List (ℤ × ℤ) → List ℤ → ℕ
element_place [] subscripts = 0
element_place (bounds ∷ rest) [] = 0
element_place (bounds ∷ rest) (s ∷ subscripts) =
    count_of (s -ℤ bounds.0) + extent bounds * element_place rest subscripts

-- how many cells these variables have
abbrev pub cells_in : List Declaration → ℕ
cells_in [] = 0
cells_in (v ∷ rest) = element_count v.bounds + cells_in rest

-- how many cells a program has
abbrev pub cell_count : Tree → ℕ
cell_count tree = cells_in tree.variables

-- the first cell of a variable (a number from 1)
abbrev pub first_cell : Tree → ℕ → ℕ
first_cell tree variable = cells_in (take (variable - 1) tree.variables)

-- the bounds of the variable with this number, counted from 0
abbrev pub bounds_at : List Declaration → ℕ → List (ℤ × ℤ)
bounds_at [] n = []
bounds_at (v ∷ rest) zero = v.bounds
bounds_at (v ∷ rest) (suc n) = bounds_at rest n

abbrev pub bounds_of : Tree → ℕ → List (ℤ × ℤ)
bounds_of tree variable = bounds_at tree.variables (variable - 1)

-- a subscript lies within the bounds of its dimension
abbrev pub is_inside : ℤ × ℤ → ℤ → Bool
is_inside (low, high) s = int_le low s && int_le s high

-- each subscript lies within the bounds of its dimension, dimension by dimension
abbrev pub are_inside : List (ℤ × ℤ) → List ℤ → Bool
are_inside [] subscripts = true
are_inside (bounds ∷ rest) [] = true
are_inside (bounds ∷ rest) (s ∷ subscripts) = is_inside bounds s && are_inside rest subscripts

-- the cell of an element
abbrev pub cell_of : Tree → ℕ → List ℤ → ℕ
cell_of tree variable subscripts =
    first_cell tree variable + element_place (bounds_of tree variable) subscripts

-- behind a scalar, element (1, 2) of an array (0:1, 2) has cell 1 + 1 + 2 * 1
pub cell_of-example : cell_of (record {
  items = done;
  params = [];
  variables = record { name = 75 ∷ []; bounds = []; axis = 0; spread = Block }
      ∷ record {
        name = 65 ∷ [];
        bounds = (pos 0, pos 1) ∷ (pos 1, pos 2) ∷ [];
        axis = 2;
        spread = Block;
      } ∷ [];
}) 2 (pos 1 ∷ pos 2 ∷ []) ≡ 4
cell_of-example = refl
