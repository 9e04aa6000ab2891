-- The store or the PRINT of an instance whose loads are done.
use Rattle.std.proofs.Common.{false, ◌≡◌, ℕ, ◌+◌, ◌-◌, ◌<◌, ◌≤◌, ℤ, true, List, [], ◌∷◌, ◌++◌, length, map, set, get_or, Vec, Global, Option, Some, None, refl, sym, ◌∙◌, ap, subst, arith, length-set, sum_by}
use Rattle.std.specs.Prelude.{slice_get}
use Rattle.std.specs.List.{list_all}
use Rattle.std.specs.Option.{option_map, option_to_list}
use Rattle.nest_tree.specs.Layout.{cell_count}
use Rattle.nest_tree.proofs.Rows.{same_work}
use Rattle.sync_plan.specs.Own.{own_cell, own_of}
use Rattle.std.specs.Vec.{with_item}
use Rattle.std.proofs.lemmas.List.{length-map}
use Rattle.std.proofs.lemmas.List.Sums.{get_or-le-sum_by, sum_by-cons}
use Rattle.std.proofs.lemmas.Option.{slice_get-get_or}
use Rattle.nest_tree.specs.Loads.{loads_in}
use Rattle.nest_tree.specs.Tree.{Assignment, Printing, Statement, Work, assign, print, work, Tree, param_values}
use Rattle.nest_tree.specs.View.{expression_of, printed_of, statement_of}
use Rattle.nest_tree.specs.WellFormed.{is_good_item, is_good_work, is_number_of, loops_of, scope_of}
use Rattle.nest_tree.specs.declared.tree.Access.{Access}
use Rattle.nest_tree.specs.declared.tree.Expr.{Expr}
use Rattle.nest_tree.specs.declared.tree.Guard.{Guard}
use Rattle.nest_tree.specs.declared.tree.Item.TheVariants.{Assign, Print}
use Rattle.nest_tree.specs.declared.tree.PrintItem.{PrintItem}
use Rattle.nest_model.specs.Accesses.{access_cell, loads_of, store_of, work_loads, work_store}
use Rattle.nest_model.specs.Instances.{Instance}
use Rattle.nest_model.specs.Meaning.{has_value, value_of}
use Rattle.nest_model.specs.Memory.{assigned, assigned_value, items_text, line_of, printed_text}
use Rattle.nest_walk.specs.ByNumber.{with_rounds}
use Rattle.nest_walk.specs.CellForms.{cell_at}
use Rattle.nest_walk.specs.Paths.{Round, by_depth}
use Rattle.nest_walk.specs.Places.{numbers_of}
use Rattle.nest_walk.specs.RoundsOf.{rounds_of}
use Rattle.nest_walk.specs.Tables.{entries}
use Rattle.nest_walk.specs.Texts.{StandFrom, works}
use Rattle.nest_walk.specs.declared.cells.CellForm.{CellForm}
use Rattle.nest_walk.specs.declared.cursor.Stop.{Stop}
use Rattle.nest_walk.specs.declared.table.WorkCells.{WorkCells}
use Rattle.nest_walk.proofs.ByNumberLists.{with_rounds-length}
use Rattle.flat_code.specs.Codes.{IsCodeOf, registers_of}
use Rattle.flat_code.specs.CodeTables.{HasCode, codes_of}
use Rattle.flat_code.specs.declared.code.Code.{Code}
use Rattle.seq_meaning.specs.Executions.{IsPlacedWork}
use Rattle.seq_meaning.specs.Lines.{has_text, items_load_count}
use Rattle.seq_meaning.specs.Room.{Written, longest_items, longest_line}
use Rattle.seq_meaning.proofs.Found.{Found}
use Rattle.seq_meaning.proofs.RunSteps.{assign_same, assign_valued, code_room, items_loads-length, numbered_more, placed-good, store_within, texts_same, texts_there, only_one}
use Rattle.seq_meaning.proofs.TextAssigns.{text-code, text-high, text-low}
use Rattle.spmd_model.specs.Deeds.{last_deed, printing, storing}
use Rattle.spmd_machine.specs.Machines.{ComesNext, IsMachine, LoadsNext, StepsTo, plan_in, style_in, tree_in}
use Rattle.spmd_machine.specs.Processors.{IsKept, PassesTurn, left_of, memory_of, room_of}
use Rattle.turns.specs.Turns.{Turn, runs, turn_room}
use Rattle.turns.specs.TurnsLeft.{turns_left, turns_path}
use Rattle.spmd_machine.specs.declared.answer.StepAnswer.TheVariants.{Stepped}
use Rattle.spmd_machine.specs.declared.parts.Parts.{Parts}
use Rattle.spmd_machine.specs.declared.processor.Processor.{Processor}
use Rattle.turns.specs.declared.turns.Next.TheVariants.{Work as Working}
use Rattle.spmd_machine.proofs.Kept.{first_is, passed_kept, picked, room_passed}
use Rattle.spmd_machine.proofs.LoadSteps.{few_here, have_own, high, inst, kept, loads_here, low, rest, turns_are}
use Rattle.spmd_machine.proofs.Ready.{kept_here, steps, worker_here}
use Rattle.spmd_machine.proofs.OwnAccess.{Stores, access_set, to_own, to_shared}
use Rattle.spmd_machine.proofs.OwnMemory.{same_memory}
use Rattle.spmd_machine.proofs.Steps.{registers_read, same_counters, same_signals}
use Rattle.spmd_machine.proofs.Works as here

module _ (m : Parts) (ready : IsMachine m) (p : ℕ) (x : Processor) (lt : p < length m.processors.items) (read : x ≡ get_or m.processors.items p x) (stop : Stop) (next : ComesNext m p (Working stop)) where
  abbrev tree : Tree
  tree = tree_in m

  abbrev rounds : List Round
  rounds = rounds_of (turns_path x.turns)

  own : IsKept (style_in m) (tree_in m) (plan_in m) (entries m.table) p x
  own = kept m ready p x lt read stop next

  abbrev i : Instance
  i = (inst m ready p x lt read stop next).instance

  turns_is : turns_left x.turns ≡ runs x.turns.place i ∷ rest m ready p x lt read stop next
  turns_is = turns_are m ready p x lt read stop next

  abbrev at_own : ℕ → ℕ
  at_own c = own_cell (own_of tree (plan_in m) x.turns.place) p c

  worker : p < (plan_in m).workers
  worker = worker_here m ready p x x lt read

  pub placed : IsPlacedWork tree rounds stop.first (statement_of stop.item.now)
  placed = here.placed m ready p x own stop (inst m ready p x lt read stop next) (rest m ready p x lt read stop next) turns_is

  instance_is : i ≡ record { statement = stop.first; what = placed.what; loops = here.loops m ready p x own stop (inst m ready p x lt read stop next) (rest m ready p x lt read stop next) turns_is }
  unfolding placed
  instance_is = here.instance_is m ready p x own stop (inst m ready p x lt read stop next) (rest m ready p x lt read stop next) turns_is

  -- it is a piece of work
  pub no_other : (s : Statement) → statement_of stop.item.now ≡ s → ((w : Work) → s ≡ work w → ⊥) → ⊥
  no_other s is none = none placed.what (sym is ∙ placed.is)

  -- the loops' values can be written by number
  pub numbers_there : (n : ℕ) → n ≡ length m.loops.items → list_all (λ (r : Round). is_number_of n r.number) rounds ≡ true
  numbers_there n same = numbered_more (loops_of tree.items) n rounds (omega (arith, same, ready.loops)) placed.numbered

  good : is_good_work (scope_of tree) (numbers_of rounds) placed.what ≡ true
  good = placed-good tree (turns_path x.turns) stop.first (statement_of stop.item.now) placed ready.formed

  -- the table has its cells
  pub cells_there : (cells : WorkCells) × (slice_get (entries m.table) (stop.first - 1) ≡ Some cells)
  cells_there =
      let below : stop.first - 1 < length (entries m.table) = omega (arith, low m ready p x lt read stop next, high m ready p x lt read stop next) in
      let (cells, is) = picked (entries m.table) (stop.first - 1) below in
      (cells, slice_get-get_or (entries m.table) (stop.first - 1) cells below ∙ ap (λ c. Some c) (sym is))

  module _ (cells : WorkCells) (at : slice_get (entries m.table) (stop.first - 1) ≡ Some cells) (loaded : LoadsNext m p stop None) where
    over : slice_get (loads_of tree (inst m ready p x lt read stop next).instance) x.done ≡ None
    over = loads_here m ready p x lt read stop next None loaded

    count : length (loads_of tree i) ≡ length x.registers.items
    count = here.loads_done m ready p x own stop (inst m ready p x lt read stop next) (rest m ready p x lt read stop next) turns_is cells at over ∙ sym (here.loaded_count m ready p x own stop (inst m ready p x lt read stop next) (rest m ready p x lt read stop next) turns_is cells at)

    found : Found tree (turns_path x.turns) placed.numbered placed.what cells
    unfolding placed
    found = here.found m ready p x own stop (inst m ready p x lt read stop next) (rest m ready p x lt read stop next) turns_is cells at

    left_is : (y : Processor) (t : Turn) → PassesTurn x y t → left_of x ≡ last_deed (option_map at_own (store_of tree i)) false (assigned_value tree i) (line_of tree i) ∷ left_of y
    left_is y t passes = here.left_last m ready p x own stop (inst m ready p x lt read stop next) (rest m ready p x lt read stop next) turns_is cells at over y t passes.program passes.plan_is passes.processor passes.turns passes.idle.none_done

    table_store : (o : Option CellForm) → cells.store ≡ o → map (λ f. cell_at f (by_depth rounds)) (option_to_list o) ≡ option_to_list (store_of tree i)
    table_store o is = ap (λ q. map (λ f. cell_at f (by_depth rounds)) (option_to_list q)) (sym is) ∙ found.store ∙ ap (λ (j : Instance). option_to_list (store_of tree j)) (sym instance_is)

    -- the cell that it stores to is that of the table
    pub table_stores : (f : CellForm) → cells.store ≡ Some f → (k : ℕ) (values : List ℤ) → k ≡ cell_at f values → values ≡ by_depth rounds → store_of tree i ≡ Some k
    table_stores f stored k values k_is depth = only_one (store_of tree i) k (ap (λ n. n ∷ []) (k_is ∙ ap (cell_at f) depth) ∙ table_store (Some f) stored)

    pub table_below : (f : CellForm) → cells.store ≡ Some f → (k : ℕ) (values : List ℤ) → k ≡ cell_at f values → values ≡ by_depth rounds → k < cell_count tree
    table_below f stored k values k_is depth = omega (arith, store_within tree (turns_path x.turns) stop.first (statement_of stop.item.now) placed cells found f values m.memory.items k stored k_is depth ready.cells, ready.cells)

    -- a cell that it stores to is one of the program
    pub stored_below : (k : ℕ) → store_of tree i ≡ Some k → k < cell_count tree
    stored_below k stores = by cells.store refl
      where
        by : (o : Option CellForm) → cells.store ≡ o → k < cell_count tree
        by None is = absurd (let clash : [] ≡ option_to_list (Some k) = table_store None is ∙ ap option_to_list stores in cc)
        by (Some f) is =
            let one : cell_at f (by_depth rounds) ∷ [] ≡ k ∷ [] = table_store (Some f) is ∙ ap option_to_list stores in
            let same : cell_at f (by_depth rounds) ≡ k = cc in
            table_below f is k (by_depth rounds) (sym same) refl

    -- ---- an assignment
    module _ (e : Expr) (target : Access) (guard : Option Guard) (line : ℕ) (statement : stop.item.now ≡ Assign target e guard line) where
      abbrev a : Assignment
      a = record { target = target; value = expression_of e; guard = guard; line = line }

      assigns : placed.what ≡ assign a
      assigns = same_work placed.what (assign a) (sym placed.is ∙ ap statement_of statement)

      good_here : is_good_work (scope_of tree) (numbers_of rounds) (assign a) ≡ true
      good_here = sym (ap (is_good_work (scope_of tree) (numbers_of rounds)) assigns) ∙ good

      -- it has a code, which fits
      text : StandFrom (works tree) stop.first (record { what = work (assign a); around = numbers_of rounds } ∷ [])
      text = subst (λ w. StandFrom (works tree) stop.first (record { what = work w; around = numbers_of rounds } ∷ [])) assigns placed.text

      pub code_low : 1 ≤ stop.first
      code_low = text-low tree (numbers_of rounds) stop.first a text HasCode (codes_of m.codes) ready.codes.each

      pub code_high : stop.first ≤ length (codes_of m.codes)
      code_high = text-high tree (numbers_of rounds) stop.first a text HasCode (codes_of m.codes) ready.codes.each

      pub store_code : (code : Code) → slice_get (codes_of m.codes) (stop.first - 1) ≡ Some code → IsCodeOf (expression_of e) code
      store_code code is = text-code tree (numbers_of rounds) stop.first a text m.codes code ready.codes is

      pub code_fits : (code : Code) → slice_get (codes_of m.codes) (stop.first - 1) ≡ Some code → registers_of code ≤ length m.code_registers.items
      code_fits code is = omega (arith, code_room tree m.codes code (stop.first - 1) ready.codes is, ready.code_room)

      pub store_valued : (ls ps : List ℤ) → ls ≡ with_rounds m.loops.items rounds → ps ≡ m.params.items → has_value (length ls) (length ps) (expression_of e) ≡ true
      store_valued ls ps written params =
          ap (λ (l : List ℤ). has_value (length l) (length ps) (expression_of e)) written
          ∙ ap (λ (l : List ℤ). has_value (length (with_rounds m.loops.items rounds)) (length l) (expression_of e)) (params ∙ ready.params)
          ∙ assign_valued tree rounds placed.numbered m.loops.items ready.loops a good_here

      pub store_loads : length (loads_in (expression_of e)) ≤ length x.registers.items
      store_loads =
          let these = ap (λ (j : Instance). length (loads_of tree j)) instance_is
          ∙ ap (λ (w : Work). length (work_loads tree (here.loops m ready p x own stop (inst m ready p x lt read stop next) (rest m ready p x lt read stop next) turns_is) w)) assigns
          ∙ length-map (loads_in (expression_of e)) (access_cell tree (here.loops m ready p x own stop (inst m ready p x lt read stop next) (rest m ready p x lt read stop next) turns_is)) in
          omega (arith, count, these)

      store_value : (v : ℤ) (ls ps given : List ℤ) → v ≡ value_of (expression_of e) ls ps given → ls ≡ with_rounds m.loops.items rounds → ps ≡ m.params.items → given ≡ x.registers.items → v ≡ assigned_value tree i x.registers.items
      store_value v ls ps given is written params same =
          is ∙ ap (λ l. value_of (expression_of e) l ps given) written ∙ ap (λ l. value_of (expression_of e) (with_rounds m.loops.items rounds) l given) (params ∙ ready.params)
          ∙ ap (value_of (expression_of e) (with_rounds m.loops.items rounds) (param_values tree)) same
          ∙ assign_same tree rounds placed.numbered m.loops.items ready.loops a x.registers.items good_here
          ∙ ap (λ w. assigned tree (here.loops m ready p x own stop (inst m ready p x lt read stop next) (rest m ready p x lt read stop next) turns_is) w x.registers.items) (sym assigns)
          ∙ ap (λ (j : Instance). assigned_value tree j x.registers.items) (sym instance_is)

      stores : store_of tree i ≡ Some (access_cell tree (here.loops m ready p x own stop (inst m ready p x lt read stop next) (rest m ready p x lt read stop next) turns_is) target)
      stores = ap (store_of tree) instance_is ∙ ap (work_store tree (here.loops m ready p x own stop (inst m ready p x lt read stop next) (rest m ready p x lt read stop next) turns_is)) assigns

      pub some_store : cells.store ≡ None → ⊥
      some_store none = let clash : [] ≡ option_to_list (Some (access_cell tree (here.loops m ready p x own stop (inst m ready p x lt read stop next) (rest m ready p x lt read stop next) turns_is) target)) = table_store None none ∙ ap option_to_list stores in cc

      module _ (k : ℕ) (store_is : store_of tree i ≡ Some k) where
        same_size : (y : Processor) (after : List ℤ) (v : ℤ) (slot : Option ℕ) → Stores x y m.memory.items after k v slot → length after ≡ length m.memory.items
        same_size y after v None (to_shared owns is) = ap (λ (l : List ℤ). length l) is ∙ length-set m.memory.items k v
        same_size y after v (Some n) (to_own owns is) = ap (λ (l : List ℤ). length l) is

        own_size : (y : Processor) (after : List ℤ) (v : ℤ) (slot : Option ℕ) → Stores x y m.memory.items after k v slot → length y.own ≡ 32
        own_size y after v None (to_shared owns is) = ap (λ (l : List ℤ). length l) owns ∙ own.own_cells
        own_size y after v (Some n) (to_own owns is) = ap (λ (l : List ℤ). length l) owns ∙ length-set x.own n v ∙ own.own_cells

        pub store_steps : (y : Processor) (t : Turn) (v : ℤ) (ls ps given : List ℤ) (loops memory : Vec ℤ Global) (slot : Option ℕ) → PassesTurn x y t → y.counter ≡ x.counter → y.signal ≡ x.signal →
            (own_of tree (plan_in m) x.turns.place).slot k ≡ slot → Stores x y m.memory.items memory.items k v slot →
            v ≡ value_of (expression_of e) ls ps given → ls ≡ with_rounds m.loops.items rounds → ps ≡ m.params.items → given ≡ x.registers.items → loops.items ≡ with_rounds m.loops.items rounds →
            StepsTo m (record m { processors = with_item m.processors p y; loops = loops; memory = memory }) p Stepped
        store_steps y t v ls ps given loops memory slot passes counter signal at_slot stored_to is written params same loops_are =
            let deed = storing (at_own k) (assigned_value tree i) in
            let left = left_is y t passes ∙ ap (λ o. last_deed (option_map at_own o) false (assigned_value tree i) (line_of tree i) ∷ left_of y) store_is in
            let room = room_passed (style_in m) tree (plan_in m) (entries m.table) p x own y t passes.turns in
            let k_here = kept_here m ready p x y lt read in
            let value = store_value v ls ps given is written params same
            ∙ ap (assigned_value tree i) (sym (registers_read (style_in m) tree (plan_in m) ready.formed ready.fits (entries m.table) m.processors.items m.memory.items m.output.bytes p worker x lt read k_here)) in
            let memory_after = access_set tree (plan_in m) x.turns.place (few_here m ready p x lt read stop next) m.processors.items m.memory.items ready.cells (have_own m ready) p x lt read k slot v y memory.items (stored_below k store_is) at_slot stored_to in
            steps m ready p x y lt read loops memory m.output deed (passed_kept (style_in m) tree (plan_in m) (entries m.table) p x own ready.wide y t deed passes (own_size y memory.items v slot stored_to) left)
            (ap (λ (l : List ℤ). length l) loops_are ∙ with_rounds-length m.loops.items rounds) (same_size y memory.items v slot stored_to) (omega (arith, room)) (omega arith)
            (record {
              left = left;
              processor = passes.processor ∙ own.processor;
              can = refl;
              registers = ap (set (map (λ (z : Processor). z.registers.items) m.processors.items) p) passes.idle.empty;
              counters = same_counters (style_in m) tree (plan_in m) ready.formed ready.fits (entries m.table) m.processors.items m.memory.items m.output.bytes p worker x lt read k_here y counter;
              signals = same_signals (style_in m) tree (plan_in m) ready.formed ready.fits (entries m.table) m.processors.items m.memory.items m.output.bytes p worker x lt read k_here y signal;
              memory_is = memory_after ∙ ap (set (memory_of m.processors.items m.memory.items) (at_own k)) value;
              output_is = refl;
            })

    -- ---- a PRINT
    module _ (listed : Vec PrintItem Global) (line : ℕ) (items : List PrintItem) (statement : stop.item.now ≡ Print listed line) (items_are : items ≡ listed.items) where
      abbrev q : Printing
      q = record { items = map printed_of items; line = line }

      prints : placed.what ≡ print q
      prints =
          same_work placed.what (print (record { items = map printed_of listed.items; line = line })) (sym placed.is ∙ ap statement_of statement)
          ∙ ap (λ (ps : List PrintItem). print (record { items = map printed_of ps; line = line })) (sym items_are)

      good_there : list_all (is_good_item (scope_of tree) (numbers_of rounds)) (map printed_of items) ≡ true
      good_there = sym (ap (is_good_work (scope_of tree) (numbers_of rounds)) prints) ∙ good

      abbrev values : List ℤ
      values = here.loops m ready p x own stop (inst m ready p x lt read stop next) (rest m ready p x lt read stop next) turns_is

      pub print_texts : (ls : List ℤ) → ls ≡ with_rounds m.loops.items rounds → list_all (has_text tree (length ls)) (map printed_of items) ≡ true
      print_texts ls written = ap (λ (l : List ℤ). list_all (has_text tree (length l)) (map printed_of items)) written ∙ texts_there tree rounds placed.numbered m.loops.items ready.loops (map printed_of items) good_there

      pub print_loads : items_load_count tree (map printed_of items) ≤ length x.registers.items
      print_loads =
          let these = ap (λ (j : Instance). length (loads_of tree j)) instance_is ∙ ap (λ (w : Work). length (work_loads tree values w)) prints ∙ items_loads-length tree values (map printed_of items) in
          omega (arith, count, these)

      longest : longest_line tree i.what ≡ longest_items tree (map printed_of items) + 1
      longest = ap (λ (j : Instance). longest_line tree j.what) instance_is ∙ ap (longest_line tree) prints

      room_here : room_of tree x ≡ turn_room tree (runs x.turns.place i) + sum_by (turn_room tree) (rest m ready p x lt read stop next)
      unfolding room_of
      room_here = ap (sum_by (turn_room tree)) turns_is ∙ sum_by-cons (turn_room tree) (runs x.turns.place i) (rest m ready p x lt read stop next)

      -- there is room for the line
      pub print_fits : length m.output.bytes + (longest_items tree (map printed_of items) + 1) ≤ m.output.room
      print_fits =
          let mine = get_or-le-sum_by (room_of tree) m.processors.items p x lt in
          omega (arith, room_here, longest, ap (room_of tree) read, mine, ready.room)

      pub no_store : store_of tree i ≡ None
      no_store = ap (store_of tree) instance_is ∙ ap (work_store tree values) prints

      line_is : (ls given : List ℤ) → ls ≡ with_rounds m.loops.items rounds → given ≡ x.registers.items → items_text tree ls (map printed_of items) given ++ 10 ∷ [] ≡ line_of tree i x.registers.items
      line_is ls given written same =
          ap (λ l. items_text tree l (map printed_of items) given ++ 10 ∷ []) written ∙ ap (λ l. items_text tree (with_rounds m.loops.items rounds) (map printed_of items) l ++ 10 ∷ []) same
          ∙ ap (λ t. t ++ 10 ∷ []) (texts_same tree rounds placed.numbered m.loops.items ready.loops (map printed_of items) x.registers.items good_there)
          ∙ ap (λ w. printed_text tree values w x.registers.items) (sym prints) ∙ ap (λ (j : Instance). line_of tree j x.registers.items) (sym instance_is)

      pub print_steps : (y : Processor) (t : Turn) (ls given : List ℤ) (loops : Vec ℤ Global) (output : Written) → PassesTurn x y t → y.counter ≡ x.counter → y.signal ≡ x.signal → y.own ≡ x.own →
          ls ≡ with_rounds m.loops.items rounds → given ≡ x.registers.items → loops.items ≡ with_rounds m.loops.items rounds →
          output.bytes ≡ m.output.bytes ++ (items_text tree ls (map printed_of items) given ++ 10 ∷ []) → length output.bytes ≤ length m.output.bytes + (longest_items tree (map printed_of items) + 1) → m.output.room ≤ output.room →
          StepsTo m (record m { processors = with_item m.processors p y; loops = loops; output = output }) p Stepped
      print_steps y t ls given loops output passes counter signal same_own written same loops_are said grown capacity =
          let left = left_is y t passes ∙ ap (λ o. last_deed (option_map at_own o) false (assigned_value tree i) (line_of tree i) ∷ left_of y) no_store in
          let turn = first_is (turns_left x.turns) (runs x.turns.place i) t (rest m ready p x lt read stop next) (turns_left y.turns) turns_is passes.turns in
          let turns = passes.turns ∙ ap (λ u. u ∷ turns_left y.turns) (sym turn.0) in
          let room = room_passed (style_in m) tree (plan_in m) (entries m.table) p x own y (runs x.turns.place i) turns in
          steps m ready p x y lt read loops m.memory output (printing (line_of tree i)) (passed_kept (style_in m) tree (plan_in m) (entries m.table) p x own ready.wide y t (printing (line_of tree i)) passes (ap length same_own ∙ own.own_cells) left)
          (ap (λ (l : List ℤ). length l) loops_are ∙ with_rounds-length m.loops.items rounds) refl (omega (arith, room, longest, grown)) capacity
          (record {
            left = left;
            processor = passes.processor ∙ own.processor;
            can = refl;
            registers = ap (set (map (λ (z : Processor). z.registers.items) m.processors.items) p) passes.idle.empty;
            counters = same_counters (style_in m) tree (plan_in m) ready.formed ready.fits (entries m.table) m.processors.items m.memory.items m.output.bytes p worker x lt read (kept_here m ready p x y lt read) y counter;
            signals = same_signals (style_in m) tree (plan_in m) ready.formed ready.fits (entries m.table) m.processors.items m.memory.items m.output.bytes p worker x lt read (kept_here m ready p x y lt read) y signal;
            memory_is = same_memory m.processors.items m.memory.items p x lt read y same_own;
            output_is = said ∙ ap (λ l. m.output.bytes ++ l) (line_is ls given written same
                ∙ ap (line_of tree i) (sym (registers_read (style_in m) tree (plan_in m) ready.formed ready.fits (entries m.table) m.processors.items m.memory.items m.output.bytes p worker x lt read (kept_here m ready p x y lt read))));
          })
