-- The cells that a table has for a piece of work are those that it loads and stores.
use Rattle.std.proofs.Common.{◌≡◌, ℕ, ◌&&◌, ℤ, Bool, true, List, [], ◌∷◌, ◌++◌, map, append-nil, refl, ap, sym, ◌∙◌, arith}
use Rattle.std.specs.List.{AllZip, flat_map, list_all, range_with_len}
use Rattle.std.specs.Option.{option_to_list}
use Rattle.std.proofs.lemmas.Bool.{and_from, and_parts}
use Rattle.std.proofs.lemmas.Bool.Decides.{nat_tests}
use Rattle.std.proofs.lemmas.Grind.{flat_map-append}
use Rattle.std.proofs.lemmas.List.Folds.{list_all-append, list_all-map}
use Rattle.nest_tree.specs.Layout.{cell_count, first_cell}
use Rattle.nest_tree.specs.Loads.{loads_in, loads_in_item}
use Rattle.nest_tree.specs.Tree.{Assignment, Printed, value, whole, text, Work, assign, print, Tree}
use Rattle.nest_tree.specs.WellFormed.{is_number_of, loops_of}
use Rattle.nest_tree.specs.declared.tree.Access.{Access}
use Rattle.nest_model.specs.Accesses.{access_cell, item_loads, whole_cells, work_loads, work_store}
use Rattle.nest_model.specs.Ranges.{accesses_of, is_access_inside}
use Rattle.nest_walk.specs.CellForms.{IsCellForm, cell_at}
use Rattle.nest_walk.specs.Cursors.{loops_in}
use Rattle.nest_walk.specs.Paths.{Round, by_depth}
use Rattle.nest_walk.specs.Places.{numbers_of}
use Rattle.nest_walk.specs.RoundsOf.{rounds_of}
use Rattle.nest_walk.specs.Tables.{AreCells, AreLoadCells, Loaded, element, array, loaded_in_item, loaded_in_work, stores_in}
use Rattle.nest_walk.specs.declared.cells.CellForm.{CellForm}
use Rattle.nest_walk.specs.declared.path.Path.{Path}
use Rattle.nest_walk.specs.declared.table.LoadCells.{LoadCells}
use Rattle.nest_walk.specs.declared.table.LoadCells.TheVariants.{Element, Array}
use Rattle.nest_walk.specs.declared.table.WorkCells.{WorkCells}
use Rattle.flat_code.specs.Lines.{first_of_load}
use Rattle.seq_meaning.specs.Loads.{cells_of_load, is_first_within, is_load_within, is_store_within}

-- the cells of a load, and whether it is in range
abbrev loaded_cells : Tree → List ℤ → Loaded → List ℕ
loaded_cells tree loops (element a) = access_cell tree loops a ∷ []
loaded_cells tree loops (array variable) = whole_cells tree variable

abbrev is_inside : Tree → List ℤ → Loaded → Bool
is_inside tree loops (element a) = is_access_inside tree loops a
is_inside tree loops (array variable) = true

-- those of an expression, an item and a piece of work
elements_cells : (tree : Tree) (loops : List ℤ) (xs : List Access) → flat_map (loaded_cells tree loops) (map element xs) ≡ map (access_cell tree loops) xs
elements_cells tree loops [] = refl
elements_cells tree loops (a ∷ xs) = ap (λ cs. access_cell tree loops a ∷ cs) (elements_cells tree loops xs)

item_cells : (tree : Tree) (loops : List ℤ) (p : Printed) → flat_map (loaded_cells tree loops) (loaded_in_item p) ≡ item_loads tree loops p
item_cells tree loops (value e) = elements_cells tree loops (loads_in e)
item_cells tree loops (whole variable) = append-nil (whole_cells tree variable)
item_cells tree loops (text characters) = refl

items_cells : (tree : Tree) (loops : List ℤ) (ps : List Printed) → flat_map (loaded_cells tree loops) (flat_map loaded_in_item ps) ≡ flat_map (item_loads tree loops) ps
items_cells tree loops [] = refl
items_cells tree loops (p ∷ ps) =
    flat_map-append (loaded_cells tree loops) (loaded_in_item p) (flat_map loaded_in_item ps) ∙ ap (λ cs. cs ++ flat_map (loaded_cells tree loops) (flat_map loaded_in_item ps)) (item_cells tree loops p)
    ∙ ap (λ cs. item_loads tree loops p ++ cs) (items_cells tree loops ps)

work_cells : (tree : Tree) (loops : List ℤ) (w : Work) → flat_map (loaded_cells tree loops) (loaded_in_work w) ≡ work_loads tree loops w
work_cells tree loops (assign a) = elements_cells tree loops (loads_in a.value)
work_cells tree loops (print p) = items_cells tree loops p.items

item_inside : (tree : Tree) (loops : List ℤ) (p : Printed) → list_all (is_inside tree loops) (loaded_in_item p) ≡ list_all (is_access_inside tree loops) (loads_in_item p)
item_inside tree loops (value e) = list_all-map (is_inside tree loops) element (loads_in e)
item_inside tree loops (whole variable) = refl
item_inside tree loops (text characters) = refl

items_inside : (tree : Tree) (loops : List ℤ) (ps : List Printed) → list_all (is_inside tree loops) (flat_map loaded_in_item ps) ≡ list_all (is_access_inside tree loops) (flat_map loads_in_item ps)
items_inside tree loops [] = refl
items_inside tree loops (p ∷ ps) =
    list_all-append (is_inside tree loops) (loaded_in_item p) (flat_map loaded_in_item ps)
    ∙ ap (λ b. b && list_all (is_inside tree loops) (flat_map loaded_in_item ps)) (item_inside tree loops p) ∙ ap (λ b. list_all (is_access_inside tree loops) (loads_in_item p) && b) (items_inside tree loops ps)
    ∙ sym (list_all-append (is_access_inside tree loops) (loads_in_item p) (flat_map loads_in_item ps))

work_inside : (tree : Tree) (loops : List ℤ) (w : Work) → list_all (is_access_inside tree loops) (accesses_of w) ≡ true → list_all (is_inside tree loops) (loaded_in_work w) ≡ true
work_inside tree loops (assign a) inside =
    list_all-map (is_inside tree loops) element (loads_in a.value)
    ∙ (and_parts (list_all (is_access_inside tree loops) (loads_in a.value)) (is_access_inside tree loops a.target && true) (sym (list_all-append (is_access_inside tree loops) (loads_in a.value) (a.target ∷ [])) ∙ inside)).0
work_inside tree loops (print p) inside = items_inside tree loops p.items ∙ inside

store_inside : (tree : Tree) (loops : List ℤ) (a : Assignment) → list_all (is_access_inside tree loops) (accesses_of (assign a)) ≡ true → is_access_inside tree loops a.target ≡ true
store_inside tree loops a inside =
    (and_parts (is_access_inside tree loops a.target) true
    (and_parts (list_all (is_access_inside tree loops) (loads_in a.value)) (is_access_inside tree loops a.target && true) (sym (list_all-append (is_access_inside tree loops) (loads_in a.value) (a.target ∷ [])) ∙ inside)).1).0

module _ (tree : Tree) (path : Path) (numbered : list_all (λ (r : Round). is_number_of (loops_of tree.items) r.number) (rounds_of path) ≡ true) where
  -- one load after another
  pub record FoundLoads (loads : List Loaded) (cells : List LoadCells) : Type 0 where
    pub cells_are : flat_map (cells_of_load (by_depth (rounds_of path))) cells ≡ flat_map (loaded_cells tree (loops_in tree (rounds_of path))) loads
    pub within : list_all (is_load_within (cell_count tree) (by_depth (rounds_of path))) cells ≡ true

  one_load : (l : Loaded) (c : LoadCells) → AreLoadCells tree (numbers_of (rounds_of path)) l c → is_inside tree (loops_in tree (rounds_of path)) l ≡ true →
      (cells_of_load (by_depth (rounds_of path)) c ≡ loaded_cells tree (loops_in tree (rounds_of path)) l) × (is_load_within (cell_count tree) (by_depth (rounds_of path)) c ≡ true)
  one_load (element a) (Element form) are inside =
      let at = are path refl numbered inside in
      (ap (λ c. c ∷ []) at.0, grind (arith, nat_tests, at.1))
  one_load (element a) (Array first count) are inside = absurd are
  one_load (array variable) (Element form) are inside = absurd are
  one_load (array variable) (Array first count) are inside = (ap (λ n. range_with_len n count) are.0 ∙ ap (range_with_len (first_cell tree variable)) are.1, grind (arith, nat_tests, are.2))

  loads_found : (loads : List Loaded) (cells : List LoadCells) → AllZip (AreLoadCells tree (numbers_of (rounds_of path))) loads cells → list_all (is_inside tree (loops_in tree (rounds_of path))) loads ≡ true → FoundLoads loads cells
  loads_found [] [] are inside = record { cells_are = refl; within = refl }
  loads_found [] (c ∷ cells) are inside = absurd are
  loads_found (l ∷ loads) [] are inside = absurd are
  loads_found (l ∷ loads) (c ∷ cells) are inside =
      let parts = and_parts (is_inside tree (loops_in tree (rounds_of path)) l) (list_all (is_inside tree (loops_in tree (rounds_of path))) loads) inside in
      let first = one_load l c are.0 parts.0 in
      let rest = loads_found loads cells are.1 parts.1 in
      record {
        cells_are = ap (λ cs. cs ++ flat_map (cells_of_load (by_depth (rounds_of path))) cells) first.0 ∙ ap (λ cs. loaded_cells tree (loops_in tree (rounds_of path)) l ++ cs) rest.cells_are;
        within = and_from (is_load_within (cell_count tree) (by_depth (rounds_of path)) c) (list_all (is_load_within (cell_count tree) (by_depth (rounds_of path))) cells) first.1 rest.within;
      }

  -- what is known of the cells of a piece of work
  pub record Found (w : Work) (cells : WorkCells) : Type 0 where
    pub loads : flat_map (cells_of_load (by_depth (rounds_of path))) cells.loads.items ≡ work_loads tree (loops_in tree (rounds_of path)) w
    pub within : list_all (is_load_within (cell_count tree) (by_depth (rounds_of path))) cells.loads.items ≡ true
    pub store : map (λ f. cell_at f (by_depth (rounds_of path))) (option_to_list cells.store) ≡ option_to_list (work_store tree (loops_in tree (rounds_of path)) w)
    pub store_within : list_all (is_store_within (cell_count tree) (by_depth (rounds_of path))) (option_to_list cells.store) ≡ true

  stores_found : (w : Work) (forms : List CellForm) → AllZip (λ (a : Access) (f : CellForm). IsCellForm tree a (numbers_of (rounds_of path)) f) (stores_in w) forms → list_all (is_access_inside tree (loops_in tree (rounds_of path))) (accesses_of w) ≡ true →
      (map (λ f. cell_at f (by_depth (rounds_of path))) forms ≡ option_to_list (work_store tree (loops_in tree (rounds_of path)) w)) × (list_all (is_store_within (cell_count tree) (by_depth (rounds_of path))) forms ≡ true)
  stores_found (assign a) [] are inside = absurd are
  stores_found (assign a) (f ∷ []) are inside =
      let at = are.0 path refl numbered (store_inside tree (loops_in tree (rounds_of path)) a inside) in
      (ap (λ c. c ∷ []) at.0, and_from (is_store_within (cell_count tree) (by_depth (rounds_of path)) f) true (grind (arith, nat_tests, at.1)) refl)
  stores_found (assign a) (f ∷ g ∷ forms) are inside = absurd are.1
  stores_found (print p) [] are inside = (refl, refl)
  stores_found (print p) (f ∷ forms) are inside = absurd are

  pub work_found : (w : Work) (cells : WorkCells) → AreCells tree (numbers_of (rounds_of path)) (loaded_in_work w) (stores_in w) cells → list_all (is_access_inside tree (loops_in tree (rounds_of path))) (accesses_of w) ≡ true → Found w cells
  work_found w cells are inside =
      let found = loads_found (loaded_in_work w) cells.loads.items are.loaded (work_inside tree (loops_in tree (rounds_of path)) w inside) in
      let stored = stores_found w (option_to_list cells.store) are.stored inside in
      record {
        loads = found.cells_are ∙ work_cells tree (loops_in tree (rounds_of path)) w;
        within = found.within;
        store = stored.0;
        store_within = stored.1;
      }

  -- the first cells of an assignment's loads are those that it loads
  pub record FoundFirsts (a : Assignment) (cells : List LoadCells) : Type 0 where
    pub firsts : map (first_of_load (by_depth (rounds_of path))) cells ≡ work_loads tree (loops_in tree (rounds_of path)) (assign a)
    pub within : list_all (is_first_within (cell_count tree) (by_depth (rounds_of path))) cells ≡ true

  firsts_found : (xs : List Access) (cells : List LoadCells) → AllZip (AreLoadCells tree (numbers_of (rounds_of path))) (map element xs) cells → list_all (is_access_inside tree (loops_in tree (rounds_of path))) xs ≡ true →
      (map (first_of_load (by_depth (rounds_of path))) cells ≡ map (access_cell tree (loops_in tree (rounds_of path))) xs) × (list_all (is_first_within (cell_count tree) (by_depth (rounds_of path))) cells ≡ true)
  firsts_found [] [] are inside = (refl, refl)
  firsts_found [] (c ∷ cells) are inside = absurd are
  firsts_found (a ∷ xs) [] are inside = absurd are
  firsts_found (a ∷ xs) (Element form ∷ cells) are inside =
      let parts = and_parts (is_access_inside tree (loops_in tree (rounds_of path)) a) (list_all (is_access_inside tree (loops_in tree (rounds_of path))) xs) inside in
      let at = are.0 path refl numbered parts.0 in
      let rest = firsts_found xs cells are.1 parts.1 in
      let here : is_first_within (cell_count tree) (by_depth (rounds_of path)) (Element form) ≡ true = grind (arith, nat_tests, at.1) in (
        ap (λ c. c ∷ map (first_of_load (by_depth (rounds_of path))) cells) at.0 ∙ ap (λ cs. access_cell tree (loops_in tree (rounds_of path)) a ∷ cs) rest.0,
        and_from (is_first_within (cell_count tree) (by_depth (rounds_of path)) (Element form)) (list_all (is_first_within (cell_count tree) (by_depth (rounds_of path))) cells) here rest.1,
      )
  firsts_found (a ∷ xs) (Array first count ∷ cells) are inside = absurd are.0

  pub assign_firsts : (a : Assignment) (cells : WorkCells) → AreCells tree (numbers_of (rounds_of path)) (loaded_in_work (assign a)) (stores_in (assign a)) cells →
      list_all (is_access_inside tree (loops_in tree (rounds_of path))) (accesses_of (assign a)) ≡ true → FoundFirsts a cells.loads.items
  assign_firsts a cells are inside =
      let test = is_access_inside tree (loops_in tree (rounds_of path)) in
      let loads = (and_parts (list_all test (loads_in a.value)) (test a.target && true) (sym (list_all-append test (loads_in a.value) (a.target ∷ [])) ∙ inside)).0 in
      let found = firsts_found (loads_in a.value) cells.loads.items are.loaded loads in
      record { firsts = found.0; within = found.1 }
