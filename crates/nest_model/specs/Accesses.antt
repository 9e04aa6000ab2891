-- The cells that an instance loads and stores, and when two instances conflict.
use Rattle.std.specs.Prelude.{ℕ, ℤ, ◌≡◌, ◌⊎◌, Option, Some, None, List, [], ◌++◌, map, Contains}
use Rattle.std.specs.Option.{option_to_list}
use Rattle.std.specs.List.{flat_map, range_with_len}
use Rattle.nest_tree.specs.declared.tree.Access.{Access}
use Rattle.nest_tree.specs.Form.{Form, form_value}
use Rattle.nest_tree.specs.Layout.{cell_of, first_cell, element_count, bounds_of}
use Rattle.nest_tree.specs.Tree.{Printed, value, whole, text, Work, assign, print, Tree}
use Rattle.nest_tree.specs.Loads.{loads_in}
use Rattle.nest_tree.specs.Tree.{param_values}
use Rattle.nest_model.specs.Instances.{Instance}

-- the values of subscripts where the loops have these values
abbrev pub subscript_values : Tree → List ℤ → List Form → List ℤ
subscript_values tree loops subscripts =
    map (λ f. form_value f loops (param_values tree)) subscripts

-- the cell of an access where the loops have these values
abbrev pub access_cell : Tree → List ℤ → Access → ℕ
access_cell tree loops a = cell_of tree a.variable (subscript_values tree loops a.subscripts)

-- the cells of a whole array, in storage order
abbrev pub whole_cells : Tree → ℕ → List ℕ
whole_cells tree variable =
    range_with_len (first_cell tree variable) (element_count (bounds_of tree variable))

-- the cells that an item of a PRINT loads
abbrev pub item_loads : Tree → List ℤ → Printed → List ℕ
item_loads tree loops (value e) = map (access_cell tree loops) (loads_in e)
item_loads tree loops (whole variable) = whole_cells tree variable
item_loads tree loops (text characters) = []

-- the cells that a piece of work loads, in text order, and the one that it stores
abbrev pub work_loads : Tree → List ℤ → Work → List ℕ
work_loads tree loops (assign a) = map (access_cell tree loops) (loads_in a.value)
work_loads tree loops (print p) = flat_map (item_loads tree loops) p.items

abbrev pub work_store : Tree → List ℤ → Work → Option ℕ
work_store tree loops (assign a) = Some (access_cell tree loops a.target)
work_store tree loops (print p) = None

-- the cells that an instance loads, in text order, and the one that it stores
abbrev pub loads_of : Tree → Instance → List ℕ
loads_of tree i = work_loads tree i.loops i.what

abbrev pub store_of : Tree → Instance → Option ℕ
store_of tree i = work_store tree i.loops i.what

-- the cells that an instance loads or stores
abbrev pub cells_of : Tree → Instance → List ℕ
cells_of tree i = loads_of tree i ++ option_to_list (store_of tree i)

-- two instances conflict: a cell belongs to both, and one of them stores it
pub record Conflict (tree : Tree) (i j : Instance) : Type 0 where
  pub cell : ℕ
  pub first : Contains (cells_of tree i) cell
  pub second : Contains (cells_of tree j) cell
  pub stored : (store_of tree i ≡ Some cell) ⊎ (store_of tree j ≡ Some cell)
