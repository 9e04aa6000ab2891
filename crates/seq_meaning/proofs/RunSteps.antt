-- The execution of a piece of work, step by step.
use Rattle.std.proofs.Common.{◌≡◌, ℕ, ◌+◌, ◌-◌, ◌<◌, ◌≤◌, ◌&&◌, ◌||◌, ◌==◌, ℤ, true, false, nat_le, nat_lt, Option, Some, None, List, [], ◌∷◌, ◌++◌, map, length, length-append, append-nil, drop, take, set, ⊎_elim, refl, ap, sym, ◌∙◌, subst, arith}
use Rattle.std.specs.List.{flat_map, list_all, list_any, slice_get}
use Rattle.std.specs.Option.{option_to_list}
use Rattle.std.proofs.Math.Logic.{∥∥₁_elim}
use Rattle.std.proofs.Props.{props}
use Rattle.std.proofs.lemmas.Bool.{and_from, and_parts, cases_Bool, eqb-true, leb-true, ltb-true}
use Rattle.std.proofs.lemmas.Bool.Decides.{nat_tests}
use Rattle.std.proofs.lemmas.List.{drop_all, length-map, take_all}
use Rattle.std.proofs.lemmas.List.Elements.{All-get_or}
use Rattle.std.proofs.lemmas.Option.{get_or_from_slice_get, slice_get_within}
use Rattle.std.proofs.lemmas.List.FromFn.{length-range_with_len}
use Rattle.std.proofs.lemmas.List.Sums.{sum_by-cons}
use Rattle.nest_tree.specs.Form.{numbered}
use Rattle.nest_tree.specs.Layout.{bounds_of, cell_count, element_count, first_cell}
use Rattle.nest_tree.specs.Loads.{loads_in}
use Rattle.nest_tree.specs.Tree.{Assignment, Constant, Printed, value, whole, text, Printing, assign, print, Statement, Tree, param_values}
use Rattle.nest_tree.specs.WellFormed.{IsWellFormed, is_good_access, is_good_expression, is_good_guard, is_good_item, is_good_work, is_number_of, loops_of, rank, rank_of, scope_of}
use Rattle.nest_model.specs.Accesses.{access_cell, item_loads, work_store}
use Rattle.nest_model.specs.Meaning.{has_value, value_of}
use Rattle.nest_model.specs.Ranges.{accesses_of, is_access_inside}
use Rattle.nest_model.specs.Memory.{assigned, cell_value, items_text, number_text, with_store}
use Rattle.nest_walk.specs.ByNumber.{with_rounds}
use Rattle.nest_walk.specs.CellForms.{cell_at}
use Rattle.nest_walk.specs.Cursors.{loops_in}
use Rattle.nest_walk.specs.Paths.{Round, by_depth}
use Rattle.nest_walk.specs.Places.{numbers_of}
use Rattle.nest_walk.specs.RoundsOf.{rounds_of}
use Rattle.nest_walk.specs.Tables.{AreCells, ArePlacedCells, IsCellTable, entries, loaded_in_work, stores_in}
use Rattle.nest_walk.specs.Texts.{works}
use Rattle.nest_walk.specs.declared.cells.CellForm.{CellForm}
use Rattle.nest_walk.specs.declared.path.Path.{Path}
use Rattle.nest_walk.specs.declared.table.CellTable.{CellTable}
use Rattle.nest_walk.specs.declared.table.LoadCells.{LoadCells}
use Rattle.nest_walk.specs.declared.table.WorkCells.{WorkCells}
use Rattle.nest_walk.proofs.PlacedWorks.{standing-good, standing-number, standing-zip}
use Rattle.nest_walk.proofs.ByNumberLists.{with_rounds-length, with_rounds-numbered}
use Rattle.seq_meaning.specs.Executions.{IsPlacedWork, loaded_at, memory_behind}
use Rattle.seq_meaning.specs.Lines.{has_text, item_load_count, items_load_count}
use Rattle.flat_code.specs.Codes.{IsCodeOf, registers_of}
use Rattle.flat_code.specs.CodeTables.{IsCodeTable, codes_of, most_registers}
use Rattle.flat_code.specs.Lines.{first_of_load}
use Rattle.flat_code.specs.declared.code.Code.{Code}
use Rattle.flat_code.specs.declared.table.CodeTable.{CodeTable}
use Rattle.seq_meaning.specs.Loads.{cells_of_load, is_first_within, is_load_within, is_store_within}
use Rattle.seq_meaning.proofs.Found.{Found, FoundFirsts, assign_firsts, work_found}
use Rattle.seq_meaning.proofs.Meanings.{good_has_value, value_same}

-- a loop that is named among these has a number of the program
named_number : (count : ℕ) (rounds : List Round) (n : ℕ) → list_all (λ (r : Round). is_number_of count r.number) rounds ≡ true → list_any (λ k. k == n) (numbers_of rounds) ≡ true → is_number_of count n ≡ true
named_number count [] n all named = absurd (let no : false ≡ true = named in cc)
named_number count (r ∷ rounds) n all named =
    let parts = and_parts (is_number_of count r.number) (list_all (λ (q : Round). is_number_of count q.number) rounds) all in
    ⊎_elim (λ h. ap (is_number_of count) (sym (eqb-true r.number n h)) ∙ parts.0)
    (λ h. named_number count rounds n parts.1 (sym (ap (λ b. b || list_any (λ k. k == n) (numbers_of rounds)) h) ∙ named)) (cases_Bool (r.number == n))

among_more : (count more n : ℕ) → count ≤ more → is_number_of count n ≡ true → is_number_of more n ≡ true
among_more count more n h e =
    let parts = and_parts (nat_le 1 n) (nat_le n count) e in
    and_from (nat_le 1 n) (nat_le n more) parts.0 (grind (arith, nat_tests, leb-true n count parts.1, h))

-- the same of a written list of values
module _ (tree : Tree) (rounds : List Round) (numbered_all : list_all (λ (r : Round). is_number_of (loops_of tree.items) r.number) rounds ≡ true) (loops : List ℤ) (long : loops_of tree.items ≤ length loops) where
  written_there : (n : ℕ) → list_any (λ k. k == n) (numbers_of rounds) ≡ true → is_number_of (length (with_rounds loops rounds)) n ≡ true
  written_there n named =
      among_more (loops_of tree.items) (length (with_rounds loops rounds)) n (omega (arith, long, with_rounds-length loops rounds)) (named_number (loops_of tree.items) rounds n numbered_all named)

  written_same : (n : ℕ) → list_any (λ k. k == n) (numbers_of rounds) ≡ true → numbered (with_rounds loops rounds) n ≡ numbered (loops_in tree rounds) n
  written_same n named =
      let number = named_number (loops_of tree.items) rounds n numbered_all named in
      let some = leb-true 1 n (and_parts (nat_le 1 n) (nat_le n (loops_of tree.items)) number).0 in
      with_rounds-numbered (loops_of tree.items) loops rounds n long numbered_all (omega (arith, some)) named

  constants_are : length (param_values tree) ≡ (scope_of tree).constants
  constants_are = length-map tree.params (λ (p : Constant). p.value)

  pub assign_valued : (a : Assignment) → is_good_work (scope_of tree) (numbers_of rounds) (assign a) ≡ true → has_value (length (with_rounds loops rounds)) (length (param_values tree)) a.value ≡ true
  assign_valued a good =
      let scope = scope_of tree in
      let around = numbers_of rounds in
      let g = and_parts (is_good_access scope around a.target && is_good_expression scope around a.value) (is_good_guard scope around a.guard) good in
      let h = and_parts (is_good_access scope around a.target) (is_good_expression scope around a.value) g.0 in
      ap (λ n. has_value (length (with_rounds loops rounds)) n a.value) constants_are ∙ good_has_value scope around (length (with_rounds loops rounds)) written_there a.value h.1

  pub assign_same : (a : Assignment) (loaded : List ℤ) → is_good_work (scope_of tree) (numbers_of rounds) (assign a) ≡ true →
      value_of a.value (with_rounds loops rounds) (param_values tree) loaded ≡ assigned tree (loops_in tree rounds) (assign a) loaded
  assign_same a loaded good =
      let scope = scope_of tree in
      let around = numbers_of rounds in
      let g = and_parts (is_good_access scope around a.target && is_good_expression scope around a.value) (is_good_guard scope around a.guard) good in
      let h = and_parts (is_good_access scope around a.target) (is_good_expression scope around a.value) g.0 in
      value_same scope around (with_rounds loops rounds) (loops_in tree rounds) (param_values tree) written_same a.value loaded h.1

  item_text_there : (p : Printed) → is_good_item (scope_of tree) (numbers_of rounds) p ≡ true → has_text tree (length (with_rounds loops rounds)) p ≡ true
  item_text_there (value e) good = ap (λ n. has_value (length (with_rounds loops rounds)) n e) constants_are ∙ good_has_value (scope_of tree) (numbers_of rounds) (length (with_rounds loops rounds)) written_there e good
  item_text_there (whole variable) good =
      ap (λ n. is_number_of n variable) (sym (length-map tree.variables rank)) ∙ (and_parts (is_number_of (length (scope_of tree).ranks) variable) (nat_lt 0 (rank_of (scope_of tree) variable)) good).0
  item_text_there (text characters) good = refl

  pub texts_there : (ps : List Printed) → list_all (is_good_item (scope_of tree) (numbers_of rounds)) ps ≡ true → list_all (has_text tree (length (with_rounds loops rounds))) ps ≡ true
  texts_there [] good = refl
  texts_there (p ∷ ps) good =
      let g = and_parts (is_good_item (scope_of tree) (numbers_of rounds) p) (list_all (is_good_item (scope_of tree) (numbers_of rounds)) ps) good in
      and_from (has_text tree (length (with_rounds loops rounds)) p) (list_all (has_text tree (length (with_rounds loops rounds))) ps) (item_text_there p g.0) (texts_there ps g.1)

  pub texts_same : (ps : List Printed) (loaded : List ℤ) → list_all (is_good_item (scope_of tree) (numbers_of rounds)) ps ≡ true → items_text tree (with_rounds loops rounds) ps loaded ≡ items_text tree (loops_in tree rounds) ps loaded
  texts_same [] loaded good = refl
  texts_same (value e ∷ ps) loaded good =
      let g = and_parts (is_good_item (scope_of tree) (numbers_of rounds) (value e)) (list_all (is_good_item (scope_of tree) (numbers_of rounds)) ps) good in
      let rest = drop (length (loads_in e)) loaded in
      ap (λ z. number_text z ++ items_text tree (with_rounds loops rounds) ps rest) (value_same (scope_of tree) (numbers_of rounds) (with_rounds loops rounds) (loops_in tree rounds) (param_values tree) written_same e loaded g.0)
      ∙ ap (λ cs. number_text (value_of e (loops_in tree rounds) (param_values tree) loaded) ++ cs) (texts_same ps rest g.1)
  texts_same (whole variable ∷ ps) loaded good =
      let g = and_parts (is_good_item (scope_of tree) (numbers_of rounds) (whole variable)) (list_all (is_good_item (scope_of tree) (numbers_of rounds)) ps) good in
      let count = element_count (bounds_of tree variable) in
      ap (λ cs. flat_map number_text (take count loaded) ++ cs) (texts_same ps (drop count loaded) g.1)
  texts_same (text characters ∷ ps) loaded good =
      let g = and_parts (is_good_item (scope_of tree) (numbers_of rounds) (text characters)) (list_all (is_good_item (scope_of tree) (numbers_of rounds)) ps) good in
      ap (λ cs. 32 ∷ (characters ++ cs)) (texts_same ps loaded g.1)

-- how much the items of a PRINT load
item_loads-length : (tree : Tree) (loops : List ℤ) (p : Printed) → length (item_loads tree loops p) ≡ item_load_count tree p
item_loads-length tree loops (value e) = length-map (loads_in e) (access_cell tree loops)
item_loads-length tree loops (whole variable) = length-range_with_len (first_cell tree variable) (element_count (bounds_of tree variable))
item_loads-length tree loops (text characters) = refl

pub items_loads-length : (tree : Tree) (loops : List ℤ) (ps : List Printed) → length (flat_map (item_loads tree loops) ps) ≡ items_load_count tree ps
items_loads-length tree loops [] = refl
items_loads-length tree loops (p ∷ ps) =
    length-append (item_loads tree loops p) (flat_map (item_loads tree loops) ps) ∙ ap (λ n. n + length (flat_map (item_loads tree loops) ps)) (item_loads-length tree loops p)
    ∙ ap (λ n. item_load_count tree p + n) (items_loads-length tree loops ps) ∙ sym (sum_by-cons (item_load_count tree) p ps)

-- and a piece of work
pub assign_count : (tree : Tree) (loops : List ℤ) (a : Assignment) (memory : List ℤ) → length (loaded_at tree loops (assign a) memory) ≡ length (loads_in a.value)
assign_count tree loops a memory = length-map (map (access_cell tree loops) (loads_in a.value)) (cell_value memory) ∙ length-map (loads_in a.value) (access_cell tree loops)

pub print_count : (tree : Tree) (loops : List ℤ) (p : Printing) (memory : List ℤ) → length (loaded_at tree loops (print p) memory) ≡ items_load_count tree p.items
print_count tree loops p memory = length-map (flat_map (item_loads tree loops) p.items) (cell_value memory) ∙ items_loads-length tree loops p.items

-- what is written through a slice of a whole list is that list then
pub written_back : {A : Type 0} (count : ℕ) (new items : List A) → count ≡ length items → length new ≡ length items → take count (new ++ drop (length new) items) ≡ new
written_back count new items all same =
    ap (λ xs. take count (new ++ xs)) (drop_all (length new) items (omega (arith, same))) ∙ ap (take count) (append-nil new) ∙ take_all count new (omega (arith, all, same))

-- values of cells, one function behind another
values_of_cells : (f : LoadCells → ℕ) (g : ℕ → ℤ) (xs : List LoadCells) → map (λ x. g (f x)) xs ≡ map g (map f xs)
values_of_cells f g [] = refl
values_of_cells f g (x ∷ xs) = ap (λ vs. g (f x) ∷ vs) (values_of_cells f g xs)

pub only_one : (o : Option ℕ) (n : ℕ) → n ∷ [] ≡ option_to_list o → o ≡ Some n
only_one None n h = cc
only_one (Some m) n h = cc

nothing_at : (o : Option ℕ) → [] ≡ option_to_list o → o ≡ None
nothing_at None h = refl
nothing_at (Some m) h = cc

-- numbers among so many are among more
pub numbered_more : (count more : ℕ) (rounds : List Round) → count ≤ more → list_all (λ (r : Round). is_number_of count r.number) rounds ≡ true → list_all (λ (r : Round). is_number_of more r.number) rounds ≡ true
numbered_more count more [] h all = refl
numbered_more count more (r ∷ rounds) h all =
    let parts = and_parts (is_number_of count r.number) (list_all (λ (q : Round). is_number_of count q.number) rounds) all in
    and_from (is_number_of more r.number) (list_all (λ (q : Round). is_number_of more q.number) rounds) (among_more count more r.number h parts.0) (numbered_more count more rounds h parts.1)

-- what a placed piece of work has in the table
module _ (tree : Tree) (path : Path) (number : ℕ) (s : Statement) (placed : IsPlacedWork tree (rounds_of path) number s) where
  pub placed-low : (table : CellTable) → IsCellTable tree table → 1 ≤ number
  placed-low table cells = ∥∥₁_elim placed.text (hlevel props) (λ h. (standing-number (ArePlacedCells tree) (works tree) number _ (entries table) h cells).0)

  pub placed-high : (table : CellTable) → IsCellTable tree table → number ≤ length (entries table)
  placed-high table cells = ∥∥₁_elim placed.text (hlevel props) (λ h. (standing-number (ArePlacedCells tree) (works tree) number _ (entries table) h cells).1)

  pub placed-good : IsWellFormed tree → is_good_work (scope_of tree) (numbers_of (rounds_of path)) placed.what ≡ true
  placed-good formed = ∥∥₁_elim placed.text (hlevel props) (λ h. standing-good tree number _ formed h)

  pub placed-found : (table : CellTable) (cells : WorkCells) → IsCellTable tree table → slice_get (entries table) (number - 1) ≡ Some cells → Found tree path placed.numbered placed.what cells
  placed-found table cells are at =
      ∥∥₁_elim placed.text (hlevel props) (λ h. work_found tree path placed.numbered placed.what cells (standing-zip (ArePlacedCells tree) (works tree) number _ (entries table) cells h are at) placed.inside)

  -- what its loads gave
  pub loaded_is : (cells : WorkCells) → Found tree path placed.numbered placed.what cells → (memory read values loaded : List ℤ) (loads : List LoadCells) → read ≡ memory → values ≡ by_depth (rounds_of path) → loads ≡ cells.loads.items →
      loaded ≡ map (cell_value read) (flat_map (cells_of_load values) loads) → loaded ≡ loaded_at tree (loops_in tree (rounds_of path)) placed.what memory
  loaded_is cells found memory read values loaded loads same depth listed is =
      is ∙ ap (λ m. map (cell_value m) (flat_map (cells_of_load values) loads)) same ∙ ap (λ vs. map (cell_value memory) (flat_map (cells_of_load vs) loads)) depth
      ∙ ap (λ ls. map (cell_value memory) (flat_map (cells_of_load (by_depth (rounds_of path))) ls)) listed ∙ ap (map (cell_value memory)) found.loads

  pub loads_within : (cells : WorkCells) → Found tree path placed.numbered placed.what cells → (memory read values : List ℤ) (loads : List LoadCells) → length memory ≡ cell_count tree → read ≡ memory → values ≡ by_depth (rounds_of path) → loads ≡ cells.loads.items →
      list_all (is_load_within (length read) values) loads ≡ true
  loads_within cells found memory read values loads long same depth listed =
      ap (λ n. list_all (is_load_within n values) loads) (ap (λ (m : List ℤ). length m) same ∙ long) ∙ ap (λ vs. list_all (is_load_within (cell_count tree) vs) loads) depth
      ∙ ap (list_all (is_load_within (cell_count tree) (by_depth (rounds_of path)))) listed ∙ found.within

  -- the store of an assignment
  pub store_is : (cells : WorkCells) → Found tree path placed.numbered placed.what cells → (f : CellForm) (values memory : List ℤ) (at : ℕ) (v : ℤ) → cells.store ≡ Some f → at ≡ cell_at f values → values ≡ by_depth (rounds_of path) →
      v ≡ assigned tree (loops_in tree (rounds_of path)) placed.what (loaded_at tree (loops_in tree (rounds_of path)) placed.what memory) → set memory at v ≡ memory_behind tree (loops_in tree (rounds_of path)) placed.what memory
  store_is cells found f values memory at v stored cell depth value_is =
      let one : at ∷ [] ≡ option_to_list (work_store tree (loops_in tree (rounds_of path)) placed.what) =
      ap (λ n. n ∷ []) cell ∙ ap (λ vs. cell_at f vs ∷ []) depth ∙ sym (ap (λ o. map (λ g. cell_at g (by_depth (rounds_of path))) (option_to_list o)) stored) ∙ found.store in
      ap (set memory at) value_is
      ∙ sym (ap (λ o. with_store memory o (assigned tree (loops_in tree (rounds_of path)) placed.what (loaded_at tree (loops_in tree (rounds_of path)) placed.what memory))) (only_one (work_store tree (loops_in tree (rounds_of path)) placed.what) at one))

  pub store_within : (cells : WorkCells) → Found tree path placed.numbered placed.what cells → (f : CellForm) (values memory : List ℤ) (at : ℕ) → cells.store ≡ Some f → at ≡ cell_at f values → values ≡ by_depth (rounds_of path) → length memory ≡ cell_count tree → at < length memory
  store_within cells found f values memory at stored cell depth long =
      let all = sym (ap (λ o. list_all (is_store_within (cell_count tree) (by_depth (rounds_of path))) (option_to_list o)) stored) ∙ found.store_within in
      let here = (and_parts (is_store_within (cell_count tree) (by_depth (rounds_of path)) f) true all).0 in
      let below = ltb-true (cell_at f (by_depth (rounds_of path))) (cell_count tree) here in
      let same = cell ∙ ap (cell_at f) depth in
      omega (arith, below, same, long)

  -- where nothing is stored, memory stays
  pub no_store : (cells : WorkCells) → Found tree path placed.numbered placed.what cells → (memory : List ℤ) → cells.store ≡ None → memory ≡ memory_behind tree (loops_in tree (rounds_of path)) placed.what memory
  no_store cells found memory none =
      let nothing : [] ≡ option_to_list (work_store tree (loops_in tree (rounds_of path)) placed.what) = sym (ap (λ o. map (λ g. cell_at g (by_depth (rounds_of path))) (option_to_list o)) none) ∙ found.store in
      sym (ap (λ o. with_store memory o (assigned tree (loops_in tree (rounds_of path)) placed.what (loaded_at tree (loops_in tree (rounds_of path)) placed.what memory))) (nothing_at (work_store tree (loops_in tree (rounds_of path)) placed.what) nothing))

  -- of an assignment, by the first cell of each load
  pub placed-firsts : (a : Assignment) → placed.what ≡ assign a → (table : CellTable) (cells : WorkCells) → IsCellTable tree table → slice_get (entries table) (number - 1) ≡ Some cells → FoundFirsts tree path placed.numbered a cells.loads.items
  placed-firsts a what table cells are at =
      let inside = sym (ap (λ w. list_all (is_access_inside tree (loops_in tree (rounds_of path))) (accesses_of w)) what) ∙ placed.inside in
      ∥∥₁_elim placed.text (hlevel props)
      (λ h. assign_firsts tree path placed.numbered a cells (subst (λ w. AreCells tree (numbers_of (rounds_of path)) (loaded_in_work w) (stores_in w) cells) what (standing-zip (ArePlacedCells tree) (works tree) number _ (entries table) cells h are at)) inside)

  pub firsts_are : (a : Assignment) (loads : List LoadCells) → FoundFirsts tree path placed.numbered a loads → (memory read values : List ℤ) (listed : List LoadCells) → read ≡ memory → values ≡ by_depth (rounds_of path) → listed ≡ loads →
      map (λ l. cell_value read (first_of_load values l)) listed ≡ loaded_at tree (loops_in tree (rounds_of path)) (assign a) memory
  firsts_are a loads found memory read values listed same depth is =
      values_of_cells (first_of_load values) (cell_value read) listed ∙ ap (λ m. map (cell_value m) (map (first_of_load values) listed)) same ∙ ap (λ vs. map (cell_value memory) (map (first_of_load vs) listed)) depth
      ∙ ap (λ ls. map (cell_value memory) (map (first_of_load (by_depth (rounds_of path))) ls)) is ∙ ap (map (cell_value memory)) found.firsts

  pub firsts_within : (a : Assignment) (loads : List LoadCells) → FoundFirsts tree path placed.numbered a loads → (memory read values : List ℤ) (listed : List LoadCells) → length memory ≡ cell_count tree → read ≡ memory → values ≡ by_depth (rounds_of path) → listed ≡ loads →
      list_all (is_first_within (length read) values) listed ≡ true
  firsts_within a loads found memory read values listed long same depth is =
      ap (λ n. list_all (is_first_within n values) listed) (ap (λ (m : List ℤ). length m) same ∙ long) ∙ ap (λ vs. list_all (is_first_within (cell_count tree) vs) listed) depth
      ∙ ap (list_all (is_first_within (cell_count tree) (by_depth (rounds_of path)))) is ∙ found.within

  -- it names what is there
  pub placed-valued : IsWellFormed tree → (a : Assignment) → placed.what ≡ assign a → (written : List ℤ) → (loops params : List ℤ) → loops_of tree.items ≤ length written → loops ≡ with_rounds written (rounds_of path) → params ≡ param_values tree →
      has_value (length loops) (length params) a.value ≡ true
  placed-valued formed a what written loops params long here constants =
      let good = sym (ap (is_good_work (scope_of tree) (numbers_of (rounds_of path))) what) ∙ placed-good formed in
      ap (λ (xs : List ℤ). has_value (length xs) (length params) a.value) here ∙ ap (λ (xs : List ℤ). has_value (length (with_rounds written (rounds_of path))) (length xs) a.value) constants
      ∙ assign_valued tree (rounds_of path) placed.numbered written long a good

  -- the value of its code is what it assigns
  pub assign_here : IsWellFormed tree → (a : Assignment) → placed.what ≡ assign a → (code : Code) → IsCodeOf a.value code → (written loops params registers memory : List ℤ) (v : ℤ) → loops_of tree.items ≤ length written →
      loops ≡ with_rounds written (rounds_of path) → params ≡ param_values tree → take (length (loads_in a.value)) registers ≡ loaded_at tree (loops_in tree (rounds_of path)) (assign a) memory →
      v ≡ value_of a.value loops params (take code.loads registers) → v ≡ assigned tree (loops_in tree (rounds_of path)) placed.what (loaded_at tree (loops_in tree (rounds_of path)) placed.what memory)
  assign_here formed a what code is written loops params registers memory v long here constants loaded given =
      let good = sym (ap (is_good_work (scope_of tree) (numbers_of (rounds_of path))) what) ∙ placed-good formed in
      let by_number = loops_in tree (rounds_of path) in
      given ∙ ap (λ xs. value_of a.value xs params (take code.loads registers)) here ∙ ap (λ xs. value_of a.value (with_rounds written (rounds_of path)) xs (take code.loads registers)) constants
      ∙ ap (λ n. value_of a.value (with_rounds written (rounds_of path)) (param_values tree) (take n registers)) is.loads ∙ ap (value_of a.value (with_rounds written (rounds_of path)) (param_values tree)) loaded
      ∙ assign_same tree (rounds_of path) placed.numbered written long a (loaded_at tree by_number (assign a) memory) good ∙ ap (λ w. assigned tree by_number w (loaded_at tree by_number w memory)) (sym what)

  -- as many loads as the expression has
  pub firsts-many : (a : Assignment) (loads : List LoadCells) → FoundFirsts tree path placed.numbered a loads → length loads ≡ length (loads_in a.value)
  firsts-many a loads found =
      sym (length-map loads (first_of_load (by_depth (rounds_of path)))) ∙ ap (λ (cs : List ℕ). length cs) found.firsts ∙ length-map (loads_in a.value) (access_cell tree (loops_in tree (rounds_of path)))

-- a code has room in the registers
pub code_room : (tree : Tree) (codes : CodeTable) (code : Code) (n : ℕ) → IsCodeTable tree codes → slice_get (codes_of codes) n ≡ Some code → registers_of code ≤ most_registers codes
code_room tree codes code n are at =
    subst (λ c. registers_of c ≤ most_registers codes) (get_or_from_slice_get (codes_of codes) n code code at) (All-get_or (λ c. registers_of c ≤ most_registers codes) (codes_of codes) n code (slice_get_within (codes_of codes) n code at) are.room)
