-- The cells of all accesses of a program, by the number of the piece of work.
use Rattle.std.specs.Prelude.{ℕ, ◌+◌, ◌≤◌, List, [], ◌∷◌, map, ◌≡◌}
use Rattle.std.specs.List.{AllZip, flat_map}
use Rattle.std.specs.Option.{option_to_list}
use Rattle.nest_tree.specs.Layout.{bounds_of, cell_count, element_count, first_cell}
use Rattle.nest_tree.specs.Loads.{loads_in}
use Rattle.nest_tree.specs.Tree.{Printed, value, whole, text, Work, assign, print, Statement, do_loop, work, continue, Tree}
use Rattle.nest_tree.specs.declared.tree.Access.{Access}
use Rattle.nest_walk.specs.CellForms.{IsCellForm}
use Rattle.nest_walk.specs.Texts.{Placed, works}
use Rattle.nest_walk.specs.declared.cells.CellForm.{CellForm}
use Rattle.nest_walk.specs.declared.table.CellTable.{CellTable}
use Rattle.nest_walk.specs.declared.table.LoadCells.{LoadCells}
use Rattle.nest_walk.specs.declared.table.LoadCells.TheVariants.{Element, Array}
use Rattle.nest_walk.specs.declared.table.WorkCells.{WorkCells}

-- what a piece of work loads: a scalar or an element, or a whole array, each of its elements in storage order
pub data Loaded : Type 0 where
  element : (access : Access) → Loaded
  array : (variable : ℕ) → Loaded

-- what an item of a PRINT loads
abbrev pub loaded_in_item : Printed → List Loaded
loaded_in_item (value e) = map element (loads_in e)
loaded_in_item (whole variable) = array variable ∷ []
loaded_in_item (text characters) = []

-- what a piece of work loads, in text order
abbrev pub loaded_in_work : Work → List Loaded
loaded_in_work (assign a) = map element (loads_in a.value)
loaded_in_work (print p) = flat_map loaded_in_item p.items

-- the access that a piece of work stores; a PRINT has none
abbrev pub stores_in : Work → List Access
stores_in (assign a) = a.target ∷ []
stores_in (print p) = []

-- the cells of a load, which are the program's, inside the loops with these numbers
abbrev pub AreLoadCells : Tree → List ℕ → Loaded → LoadCells → Type 0
AreLoadCells tree around (element a) (Element form) = IsCellForm tree a around form
AreLoadCells tree around (element a) (Array first count) = ⊥
AreLoadCells tree around (array variable) (Element form) = ⊥
AreLoadCells tree around (array variable) (Array first count) = (first ≡ first_cell tree variable)
    × (count ≡ element_count (bounds_of tree variable)) × (first + count ≤ cell_count tree)

-- the cells of these loads and stores
pub record AreCells (tree : Tree) (around : List ℕ) (loads : List Loaded) (stores : List Access)
    (cells : WorkCells) : Type 0 where
  pub loaded : AllZip (AreLoadCells tree around) loads cells.loads.items
  pub stored : AllZip (λ (a : Access) (f : CellForm). IsCellForm tree a around f) stores
      (option_to_list cells.store)

-- the cells of a piece of work
abbrev pub AreWorkCells : Tree → List ℕ → Statement → WorkCells → Type 0
AreWorkCells tree around (do_loop head body) cells = ⊥
AreWorkCells tree around (work w) cells =
    AreCells tree around (loaded_in_work w) (stores_in w) cells
AreWorkCells tree around (continue line) cells = ⊥

abbrev pub ArePlacedCells : Tree → Placed → WorkCells → Type 0
ArePlacedCells tree p cells = AreWorkCells tree p.around p.what cells

-- what a table has, in the order of the pieces of work in the text
abbrev pub entries : CellTable → List WorkCells
entries table = table.works.items

-- a table has the cells of each piece of work of a program
abbrev pub IsCellTable : Tree → CellTable → Type 0
IsCellTable tree table = AllZip (ArePlacedCells tree) (works tree) (entries table)
