-- The instance at a stop, whole: what it loads, and what stands behind its loads.
use Rattle.std.proofs.Common.{◌≡◌, ℕ, ◌+◌, ◌-◌, ◌<◌, ◌≤◌, ℤ, nat_lt, true, false, List, [], ◌∷◌, ◌++◌, length, map, Option, Some, None, refl, sym, ◌∙◌, ap, append_assoc, arith}
use Rattle.std.specs.Prelude.{slice_get}
use Rattle.std.specs.List.{AllZip, flat_map, list_all}
use Rattle.std.specs.Option.{option_to_list}
use Rattle.std.proofs.lemmas.Bool.{and_from, and_parts, leb-true, ltb-true}
use Rattle.std.proofs.lemmas.Bool.Decides.{nat_tests}
use Rattle.std.proofs.lemmas.List.{append_cancel_left, length-map}
use Rattle.nest_tree.specs.Layout.{cell_count}
use Rattle.nest_tree.specs.Limits.{IsWithinLimits}
use Rattle.nest_tree.specs.Loads.{loads_in}
use Rattle.nest_tree.specs.Tree.{Assignment, Printing, Work, assign, print, work, Tree, param_values}
use Rattle.nest_tree.specs.View.{printed_of, statement_of}
use Rattle.nest_tree.specs.WellFormed.{IsWellFormed, is_good_item, is_good_work, loops_of, scope_of}
use Rattle.nest_tree.specs.declared.tree.PrintItem.{PrintItem}
use Rattle.nest_tree.proofs.Rows.{same_work}
use Rattle.nest_model.specs.Accesses.{access_cell, loads_of, store_of, work_loads, work_store}
use Rattle.nest_model.specs.Instances.{Instance}
use Rattle.nest_model.specs.Meaning.{has_value, value_of}
use Rattle.nest_model.specs.Memory.{assigned, assigned_value, items_text, line_of, printed_text}
use Rattle.nest_walk.specs.ByNumber.{with_rounds}
use Rattle.nest_walk.specs.CellForms.{cell_at}
use Rattle.nest_walk.specs.Cursors.{loops_in}
use Rattle.nest_walk.specs.Paths.{Round, by_depth}
use Rattle.nest_walk.specs.Places.{numbers_of}
use Rattle.nest_walk.specs.RoundsOf.{rounds_of}
use Rattle.nest_walk.specs.Strips.{at_value}
use Rattle.nest_walk.specs.Tables.{IsCellTable, entries}
use Rattle.nest_walk.specs.declared.cells.CellForm.{CellForm}
use Rattle.nest_walk.specs.declared.cursor.Stop.{Stop}
use Rattle.nest_walk.specs.declared.path.Path.{Path}
use Rattle.nest_walk.specs.declared.table.CellTable.{CellTable}
use Rattle.nest_walk.specs.declared.table.LoadCells.{LoadCells}
use Rattle.nest_walk.specs.declared.table.LoadCells.TheVariants.{Element, Array}
use Rattle.nest_walk.specs.declared.table.WorkCells.{WorkCells}
use Rattle.nest_walk.proofs.CellPlaces.{few_cells}
use Rattle.nest_walk.proofs.PlacedWorks.{instance_at}
use Rattle.flat_code.specs.Lines.{IsLoadLine, cell_on, first_of_load}
use Rattle.flat_code.specs.declared.lines.Line.{Line}
use Rattle.seq_meaning.specs.Executions.{IsPlacedWork}
use Rattle.seq_meaning.specs.Lines.{has_text, items_load_count}
use Rattle.seq_meaning.specs.Loads.{cells_of_load, is_first_within, is_load_within, is_store_within}
use Rattle.seq_meaning.proofs.Found.{Found, FoundFirsts}
use Rattle.seq_meaning.proofs.Registers.{line_cells, lines_within}
use Rattle.seq_meaning.proofs.RunInstances.{placed_work}
use Rattle.seq_meaning.proofs.RunSteps.{assign_same, assign_valued, items_loads-length, placed-firsts, placed-found, placed-good, texts_same, texts_there, only_one}
use Rattle.spmd_model.specs.Deeds.{Deed, last_deed, loading, printing, storing}
use Rattle.instance_runs.specs.Executors.{Begins}
use Rattle.instance_runs.specs.Loads.{widths}
use Rattle.instance_runs.proofs.LoadPlaces.{cells-widths}

one_within : (n m : ℕ) (values : List ℤ) (l : LoadCells) → n ≤ m → is_load_within n values l ≡ true → is_load_within m values l ≡ true
one_within n m values (Element form) more h = grind (arith, nat_tests, ltb-true (cell_at form values) n h, more)
one_within n m values (Array first count) more h = grind (arith, nat_tests, leb-true (first + count) n h, more)

all_within : (n m : ℕ) (values : List ℤ) (loads : List LoadCells) → n ≤ m → list_all (is_load_within n values) loads ≡ true → list_all (is_load_within m values) loads ≡ true
all_within n m values [] more h = refl
all_within n m values (l ∷ loads) more h =
    let parts = and_parts (is_load_within n values l) (list_all (is_load_within n values) loads) h in
    and_from (is_load_within m values l) (list_all (is_load_within m values) loads) (one_within n m values l more parts.0) (all_within n m values loads more parts.1)

all_firsts : (n m : ℕ) (values : List ℤ) (loads : List LoadCells) → n ≤ m → list_all (is_first_within n values) loads ≡ true → list_all (is_first_within m values) loads ≡ true
all_firsts n m values [] more h = refl
all_firsts n m values (l ∷ loads) more h =
    let parts = and_parts (is_first_within n values l) (list_all (is_first_within n values) loads) h in
    and_from (is_first_within m values l) (list_all (is_first_within m values) loads) (grind (arith, nat_tests, ltb-true (first_of_load values l) n parts.0, more)) (all_firsts n m values loads more parts.1)

module _ (tree : Tree) (path : Path) (stop : Stop) (left : List Deed) (b : Begins tree (rounds_of path) stop left) where
  abbrev pub rounds : List Round
  rounds = rounds_of path

  abbrev loops : List ℤ
  loops = loops_in tree (rounds_of path)

  abbrev i : Instance
  i = b.at.instance

  pub placed : IsPlacedWork tree (rounds_of path) stop.first (statement_of stop.item.now)
  placed = placed_work tree (rounds_of path) stop b.at.instance b.at.is b.at.reached b.at.text b.inside

  instance_is : i ≡ record { statement = stop.first; what = placed.what; loops = loops }
  instance_is =
      let at = instance_at tree (rounds_of path) stop.first (statement_of stop.item.now) b.at.instance b.at.is in
      at.instance_is ∙ ap (λ w. record { statement = stop.first; what = w; loops = loops }) (same_work at.what placed.what (sym at.is ∙ placed.is))

  abbrev last : Deed
  last = last_deed (store_of tree i) false (assigned_value tree i) (line_of tree i)

  module _ (formed : IsWellFormed tree) (table : CellTable) (are : IsCellTable tree table) (cells : WorkCells) (at : slice_get (entries table) (stop.first - 1) ≡ Some cells) where
    pub found : Found tree path placed.numbered placed.what cells
    found = placed-found tree path stop.first (statement_of stop.item.now) placed table cells are at

    pub loads_are : flat_map (cells_of_load (by_depth (rounds_of path))) cells.loads.items ≡ loads_of tree i
    loads_are = found.loads ∙ ap (loads_of tree) (sym instance_is)

    -- the loads come first, and one deed behind them
    pub loads_first : (values : List ℤ) (loads : List LoadCells) → values ≡ by_depth (rounds_of path) → loads ≡ cells.loads.items → left ≡ map loading (flat_map (cells_of_load values) loads) ++ (last ∷ b.rest)
    loads_first values loads depth listed =
        b.is ∙ append_assoc (map loading (loads_of tree i)) (last ∷ []) b.rest ∙ ap (λ cs. map loading cs ++ (last ∷ b.rest)) (sym loads_are)
        ∙ ap (λ vs. map loading (flat_map (cells_of_load vs) cells.loads.items) ++ (last ∷ b.rest)) (sym depth) ∙ ap (λ ls. map loading (flat_map (cells_of_load values) ls) ++ (last ∷ b.rest)) (sym listed)

    pub last_left : (values : List ℤ) (loads : List LoadCells) (now : List Deed) → values ≡ by_depth (rounds_of path) → loads ≡ cells.loads.items → left ≡ map loading (flat_map (cells_of_load values) loads) ++ now → now ≡ last ∷ b.rest
    last_left values loads now depth listed is = append_cancel_left (map loading (flat_map (cells_of_load values) loads)) now (last ∷ b.rest) (sym is ∙ loads_first values loads depth listed)

    pub loads_within : (values : List ℤ) (loads : List LoadCells) → IsWithinLimits tree → values ≡ by_depth (rounds_of path) → loads ≡ cells.loads.items → list_all (is_load_within 1048576 values) loads ≡ true
    loads_within values loads limits depth listed =
        ap (λ vs. list_all (is_load_within 1048576 vs) loads) depth ∙ ap (list_all (is_load_within 1048576 (by_depth (rounds_of path)))) listed
        ∙ all_within (cell_count tree) 1048576 (by_depth (rounds_of path)) cells.loads.items (few_cells tree limits) found.within

    count : length (loads_of tree i) ≡ widths cells.loads.items
    count = ap (λ (cs : List ℕ). length cs) (sym loads_are) ∙ cells-widths (by_depth (rounds_of path)) cells.loads.items

    good : is_good_work (scope_of tree) (numbers_of (rounds_of path)) placed.what ≡ true
    good = placed-good tree path stop.first (statement_of stop.item.now) placed formed

    -- of a trip of a loop round an assignment: the cells on its lines are those that it loads
    module _ (a : Assignment) (assigns : placed.what ≡ assign a) (around : List Round) (v : ℤ) (here : at_value around v ≡ rounds_of path) (lines : List Line) (laid : AllZip (λ l m. IsLoadLine l around m) cells.loads.items lines) where
      firsts : FoundFirsts tree path placed.numbered a cells.loads.items
      firsts = placed-firsts tree path stop.first (statement_of stop.item.now) placed a assigns table cells are at

      lines_are : map (λ m. cell_on m v) lines ≡ loads_of tree i
      lines_are =
          line_cells around v cells.loads.items lines laid ∙ ap (λ rs. map (first_of_load (by_depth rs)) cells.loads.items) here ∙ firsts.firsts
          ∙ ap (work_loads tree loops) (sym assigns) ∙ ap (loads_of tree) (sym instance_is)

      pub lines_first : left ≡ map loading (map (λ m. cell_on m v) lines) ++ (last ∷ b.rest)
      lines_first = b.is ∙ append_assoc (map loading (loads_of tree i)) (last ∷ []) b.rest ∙ ap (λ cs. map loading cs ++ (last ∷ b.rest)) (sym lines_are)

      pub lines_last : (now : List Deed) → left ≡ map loading (map (λ m. cell_on m v) lines) ++ now → now ≡ last ∷ b.rest
      lines_last now is = append_cancel_left (map loading (map (λ m. cell_on m v) lines)) now (last ∷ b.rest) (sym is ∙ lines_first)

      pub lines_small : IsWithinLimits tree → list_all (λ m. nat_lt (cell_on m v) 1048576) lines ≡ true
      lines_small limits =
          lines_within around v cells.loads.items lines 1048576 laid ∙ ap (λ rs. list_all (is_first_within 1048576 (by_depth rs)) cells.loads.items) here
          ∙ all_firsts (cell_count tree) 1048576 (by_depth (rounds_of path)) cells.loads.items (few_cells tree limits) firsts.within

    -- what is written of the loops' values, what the named constants are, and the registers
    module _ (before ls : List ℤ) (long : loops_of tree.items ≤ length before) (written : ls ≡ with_rounds before (rounds_of path)) (ps : List ℤ) (params : ps ≡ param_values tree) where
      -- ---- an assignment
      module _ (a : Assignment) (assigns : placed.what ≡ assign a) where
        good_here : is_good_work (scope_of tree) (numbers_of (rounds_of path)) (assign a) ≡ true
        good_here = sym (ap (is_good_work (scope_of tree) (numbers_of (rounds_of path))) assigns) ∙ good

        pub store_valued : has_value (length ls) (length ps) a.value ≡ true
        store_valued =
            ap (λ (l : List ℤ). has_value (length l) (length ps) a.value) written
            ∙ ap (λ (l : List ℤ). has_value (length (with_rounds before (rounds_of path))) (length l) a.value) params
            ∙ assign_valued tree (rounds_of path) placed.numbered before long a good_here

        pub store_loads : length (loads_in a.value) ≡ widths cells.loads.items
        store_loads =
            let these = ap (λ (j : Instance). length (loads_of tree j)) instance_is ∙ ap (λ (w : Work). length (work_loads tree loops w)) assigns ∙ length-map (loads_in a.value) (access_cell tree loops) in
            omega (arith, count, these)

        pub store_value : (v : ℤ) (given registers : List ℤ) → v ≡ value_of a.value ls ps given → given ≡ registers → v ≡ assigned_value tree i registers
        store_value v given registers is same =
            is ∙ ap (λ l. value_of a.value l ps given) written ∙ ap (λ l. value_of a.value (with_rounds before (rounds_of path)) l given) params
            ∙ ap (value_of a.value (with_rounds before (rounds_of path)) (param_values tree)) same
            ∙ assign_same tree (rounds_of path) placed.numbered before long a registers good_here
            ∙ ap (λ w. assigned tree loops w registers) (sym assigns)
            ∙ ap (λ (j : Instance). assigned_value tree j registers) (sym instance_is)

        stores : store_of tree i ≡ Some (access_cell tree loops a.target)
        stores = ap (store_of tree) instance_is ∙ ap (work_store tree loops) assigns

        stored_by : (o : Option CellForm) → cells.store ≡ o → map (λ f. cell_at f (by_depth (rounds_of path))) (option_to_list o) ≡ option_to_list (store_of tree i)
        stored_by o is = ap (λ q. map (λ f. cell_at f (by_depth (rounds_of path))) (option_to_list q)) (sym is) ∙ found.store ∙ ap (λ (j : Instance). option_to_list (store_of tree j)) (sym instance_is)

        pub some_store : cells.store ≡ None → ⊥
        some_store none = let clash : [] ≡ option_to_list (Some (access_cell tree loops a.target)) = stored_by None none ∙ ap option_to_list stores in cc

        module _ (f : CellForm) (stored : cells.store ≡ Some f) (k : ℕ) (values : List ℤ) (k_is : k ≡ cell_at f values) (depth : values ≡ by_depth (rounds_of path)) where
          store_is : store_of tree i ≡ Some k
          store_is = only_one (store_of tree i) k (ap (λ n. n ∷ []) (k_is ∙ ap (cell_at f) depth) ∙ stored_by (Some f) stored)

          pub store_small : IsWithinLimits tree → k < 1048576
          store_small limits =
              let all = sym (ap (λ o. list_all (is_store_within (cell_count tree) (by_depth (rounds_of path))) (option_to_list o)) stored) ∙ found.store_within in
              let here = (and_parts (is_store_within (cell_count tree) (by_depth (rounds_of path)) f) true all).0 in
              let below = ltb-true (cell_at f (by_depth (rounds_of path))) (cell_count tree) here in
              let same = k_is ∙ ap (cell_at f) depth in
              omega (arith, below, same, few_cells tree limits)

          pub last_store : last ∷ b.rest ≡ storing k (assigned_value tree i) ∷ b.rest
          last_store = ap (λ o. last_deed o false (assigned_value tree i) (line_of tree i) ∷ b.rest) store_is

      -- ---- a PRINT
      module _ (listed items : List PrintItem) (line : ℕ) (is_print : statement_of stop.item.now ≡ work (print (record { items = map printed_of listed; line = line }))) (items_are : items ≡ listed) where
        abbrev q : Printing
        q = record { items = map printed_of items; line = line }

        prints : placed.what ≡ print q
        prints =
            same_work placed.what (print (record { items = map printed_of listed; line = line })) (sym placed.is ∙ is_print) ∙ ap (λ (ps : List PrintItem). print (record { items = map printed_of ps; line = line })) (sym items_are)

        good_there : list_all (is_good_item (scope_of tree) (numbers_of (rounds_of path))) (map printed_of items) ≡ true
        good_there = sym (ap (is_good_work (scope_of tree) (numbers_of (rounds_of path))) prints) ∙ good

        pub print_texts : list_all (has_text tree (length ls)) (map printed_of items) ≡ true
        print_texts = ap (λ (l : List ℤ). list_all (has_text tree (length l)) (map printed_of items)) written ∙ texts_there tree (rounds_of path) placed.numbered before long (map printed_of items) good_there

        pub print_loads : items_load_count tree (map printed_of items) ≡ widths cells.loads.items
        print_loads =
            let these = ap (λ (j : Instance). length (loads_of tree j)) instance_is ∙ ap (λ (w : Work). length (work_loads tree loops w)) prints ∙ items_loads-length tree loops (map printed_of items) in
            omega (arith, count, these)

        pub print_line : (given registers : List ℤ) → given ≡ registers → items_text tree ls (map printed_of items) given ++ 10 ∷ [] ≡ line_of tree i registers
        print_line given registers same =
            ap (λ l. items_text tree l (map printed_of items) given ++ 10 ∷ []) written ∙ ap (λ l. items_text tree (with_rounds before (rounds_of path)) (map printed_of items) l ++ 10 ∷ []) same
            ∙ ap (λ t. t ++ 10 ∷ []) (texts_same tree (rounds_of path) placed.numbered before long (map printed_of items) registers good_there)
            ∙ ap (λ w. printed_text tree loops w registers) (sym prints) ∙ ap (λ (j : Instance). line_of tree j registers) (sym instance_is)

        no_store : store_of tree i ≡ None
        no_store = ap (store_of tree) instance_is ∙ ap (work_store tree loops) prints

        pub last_print : last ∷ b.rest ≡ printing (line_of tree i) ∷ b.rest
        last_print = ap (λ o. last_deed o false (assigned_value tree i) (line_of tree i) ∷ b.rest) no_store

-- what stands behind a deed, and what line a PRINT writes
pub same_rest : {d e : Deed} {rest new : List Deed} → d ∷ rest ≡ e ∷ new → new ≡ rest
same_rest is = cc

pub same_first : {f h : List ℤ → List ℕ} {rest new : List Deed} → printing f ∷ rest ≡ printing h ∷ new → f ≡ h
same_first is = cc
