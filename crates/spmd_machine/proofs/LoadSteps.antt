-- A load, where one comes next.
use Rattle.std.proofs.Common.{◌≡◌, ℕ, suc, ◌-◌, ◌<◌, ◌≤◌, List, [], ◌∷◌, ◌++◌, length, get_or, vec_capacity, map, set, Option, Some, IsTrue, refl, sym, ◌∙◌, ap, subst, arith, length-append}
use Rattle.std.specs.Prelude.{slice_get}
use Rattle.std.specs.List.{list_all}
use Rattle.std.specs.Vec.{with_item}
use Rattle.std.proofs.lemmas.List.{get_or_default}
use Rattle.nest_tree.specs.Layout.{cell_count}
use Rattle.nest_tree.specs.Tree.{Tree, param_values}
use Rattle.nest_tree.specs.View.{statement_of}
use Rattle.nest_tree.specs.WellFormed.{IsWellFormed}
use Rattle.nest_model.specs.Accesses.{loads_of, store_of}
use Rattle.nest_model.specs.Instances.{Instance}
use Rattle.nest_model.specs.Memory.{cell_value}
use Rattle.nest_model.specs.Ranges.{is_instance_inside}
use Rattle.nest_model.specs.Visits.{every, instances_at}
use Rattle.nest_walk.specs.Cursors.{is_reached, visit_at}
use Rattle.nest_walk.specs.Places.{numbers_of}
use Rattle.nest_walk.specs.RoundsOf.{rounds_of}
use Rattle.nest_walk.specs.Tables.{IsCellTable, entries}
use Rattle.nest_walk.specs.Texts.{StandFrom, placed_in}
use Rattle.nest_walk.specs.Texts as Texts
use Rattle.nest_walk.specs.declared.path.Path.{Path}
use Rattle.nest_walk.specs.declared.cursor.Stop.{Stop}
use Rattle.nest_walk.specs.declared.table.WorkCells.{WorkCells}
use Rattle.sync_plan.specs.Own.{own_loop, own_of}
use Rattle.sync_plan.specs.declared.plan.Plan.{Plan}
use Rattle.own_cells.specs.OwnCells.{AreFew}
use Rattle.spmd_model.specs.Deeds.{loading}
use Rattle.instance_runs.specs.LoadPlaces.{IsAtLoad}
use Rattle.instance_runs.specs.Loads.{IsLoading}
use Rattle.turns.specs.CountersLeft.{counters_tree}
use Rattle.instance_runs.specs.Stops.{IsInstance}
use Rattle.turns.specs.Turns.{Turn, runs}
use Rattle.turns.specs.TurnsLeft.{AreSound, turns_left, turns_plan, turns_processor, turns_rounds, turns_style, turns_tree}
use Rattle.turns.specs.declared.turns.Next.TheVariants.{Work}
use Rattle.spmd_machine.specs.Machines.{ComesNext, IsMachine, IsSpot, LoadsIn, LoadsNext, StepsTo, StoresIn, StoresNext, plan_in, style_in, tree_in}
use Rattle.spmd_machine.specs.Processors.{IsFoundNext, IsBegun, IsKept, all_of, is_turn_inside, left_of, memory_of, room_of}
use Rattle.spmd_machine.specs.declared.answer.StepAnswer.TheVariants.{Stepped}
use Rattle.spmd_machine.specs.declared.parts.Parts.{Parts}
use Rattle.spmd_machine.specs.declared.processor.Processor.{Processor}
use Rattle.spmd_machine.specs.declared.processor.Spot.{Spot}
use Rattle.spmd_machine.proofs.Kept.{same_room}
use Rattle.spmd_machine.proofs.OwnAccess.{access_read, read_by}
use Rattle.spmd_machine.proofs.OwnMemory.{HaveOwn, same_memory}
use Rattle.spmd_machine.proofs.Ready.{kept_here, next_here, steps, worker_here}
use Rattle.spmd_machine.proofs.Steps.{registers_read, same_counters, same_signals}
use Rattle.spmd_machine.proofs.Suffixes.{suffix_rest}
use Rattle.spmd_machine.proofs.Works.{at_own, begun_here, instance_is, left_load, load_below, load_inside, loaded_count, program}
use Rattle.spmd_machine.proofs.Works as here

-- what each processor has
pub have_own : (m : Parts) → IsMachine m → HaveOwn m.processors.items
have_own m ready p d lt = (ready.kept p d lt).own_cells

module _ (m : Parts) (ready : IsMachine m) (p : ℕ) (x : Processor) (lt : p < length m.processors.items) (read : x ≡ get_or m.processors.items p x) (stop : Stop) (next : ComesNext m p (Work stop)) where
  pub kept : IsKept (style_in m) (tree_in m) (plan_in m) (entries m.table) p x
  kept = kept_here m ready p x x lt read

  pub inst : IsInstance (counters_tree x.turns.counters) (turns_rounds x.turns) stop
  inst = (next_here m ready p x x lt read (Work stop) next).0

  pub rest : List Turn
  rest = (next_here m ready p x x lt read (Work stop) next).1.0

  pub turns_are : turns_left x.turns ≡ runs x.turns.place inst.instance ∷ rest
  unfolding inst rest
  turns_are = (next_here m ready p x x lt read (Work stop) next).1.1

  pub low : 1 ≤ stop.first
  low = here.low m ready p x kept stop inst rest turns_are

  pub high : stop.first ≤ length (entries m.table)
  high = here.high m ready p x kept stop inst rest turns_are

  -- the own scalars of the phase are few
  pub few_here : AreFew (tree_in m) (own_loop (tree_in m) (plan_in m) x.turns.place)
  few_here =
      let few : AreFew (turns_tree x.turns) (own_loop (turns_tree x.turns) (turns_plan x.turns) x.turns.place) = kept.sound.own.few in
      subst (λ (q : Plan). AreFew (tree_in m) (own_loop (tree_in m) q x.turns.place)) kept.plan_is (subst (λ (w : Tree). AreFew w (own_loop w (turns_plan x.turns) x.turns.place)) kept.program few)

  -- where the processor says an own scalar stands
  pub slot_is : (c : ℕ) (o : Option ℕ) → o ≡ (own_of (turns_tree x.turns) (turns_plan x.turns) x.turns.place).slot c → (own_of (tree_in m) (plan_in m) x.turns.place).slot c ≡ o
  slot_is c o found =
      ap (λ (w : Tree). (own_of w (plan_in m) x.turns.place).slot c) (sym kept.program) ∙ ap (λ (q : Plan). (own_of (turns_tree x.turns) q x.turns.place).slot c) (sym kept.plan_is)
      ∙ sym found

  -- a spot that the processor finds is where its access of that cell goes
  pub spot_next : (s : Spot) (c : ℕ) → s.cell ≡ c → s.own ≡ (own_of (turns_tree x.turns) (turns_plan x.turns) x.turns.place).slot c → IsSpot m p s
  spot_next s c same found d =
      subst (λ (z : Processor). (own_of (tree_in m) (plan_in m) z.turns.place).slot s.cell ≡ s.own) (read ∙ get_or_default m.processors.items p x d lt)
      (ap (λ n. (own_of (tree_in m) (plan_in m) x.turns.place).slot n) same ∙ slot_is c s.own found)

  pub slot_here : (s : Spot) → IsSpot m p s → (own_of (tree_in m) (plan_in m) x.turns.place).slot s.cell ≡ s.own
  slot_here s is = subst (λ (z : Processor). (own_of (tree_in m) (plan_in m) z.turns.place).slot s.cell ≡ s.own) (sym read) (is x)

  -- what its instance stores to
  pub stores_next : (c : ℕ) → store_of (tree_in m) inst.instance ≡ Some c → StoresNext m p stop c
  stores_next c stores d =
      subst (λ (z : Processor). StoresIn (tree_in m) z stop c) (read ∙ get_or_default m.processors.items p x d lt)
      (λ comes. let both : comes.instance ∷ [] ≡ inst.instance ∷ [] = sym comes.is ∙ inst.is in let same : comes.instance ≡ inst.instance = cc in ap (store_of (tree_in m)) same ∙ stores)

  pub stores_here : (c : ℕ) → StoresNext m p stop c → store_of (tree_in m) inst.instance ≡ Some c
  stores_here c stores = subst (λ (z : Processor). StoresIn (tree_in m) z stop c) (sym read) (stores x) inst

  -- a cell of the program is one of the cursor's
  pub cell_here : (c : ℕ) → c < cell_count (tree_in m) → c < cell_count (turns_tree x.turns)
  cell_here c below = subst (λ (w : Tree). c < cell_count w) (sym kept.program) below

  -- its loads, where the cursor shows these loops
  module _ (path : Path) (is : rounds_of path ≡ turns_rounds x.turns) where
    pub at_path : IsInstance (counters_tree x.turns.counters) (turns_rounds x.turns) stop → IsInstance (counters_tree x.turns.counters) (rounds_of path) stop
    at_path comes = record {
      instance = comes.instance;
      is = ap (λ rs. instances_at (param_values (counters_tree x.turns.counters)) (visit_at (counters_tree x.turns.counters) rs stop)) is ∙ comes.is;
      reached = subst (λ rs. IsTrue (is_reached (counters_tree x.turns.counters) rs stop)) (sym is) comes.reached;
      text = subst (λ rs. StandFrom (Texts.works (counters_tree x.turns.counters)) stop.first (placed_in every (numbers_of rs) (statement_of stop.item.now))) (sym is) comes.text;
    }

    pub at_load : IsInstance (counters_tree x.turns.counters) (turns_rounds x.turns) stop → IsAtLoad (counters_tree x.turns.counters) m.table path stop x.done x.place
    unfolding at_path
    at_load comes =
        let both : comes.instance ∷ [] ≡ inst.instance ∷ [] = sym comes.is ∙ inst.is in
        let same : comes.instance ≡ inst.instance = cc in
        let tree_is = program m ready p x kept stop inst rest turns_are in
        record {
          formed = subst IsWellFormed (sym tree_is) ready.formed;
          table_is = subst (λ (w : Tree). IsCellTable w m.table) (sym tree_is) ready.table;
          comes = at_path comes;
          inside = ap (λ (w : Tree). is_instance_inside w comes.instance) tree_is ∙ ap (is_instance_inside (tree_in m)) same ∙ here.inside m ready p x kept stop inst rest turns_are;
          loading = λ cells at. begun_here m ready p x kept stop inst rest turns_are cells at;
        }

    pub at_load-instance : (comes : IsInstance (counters_tree x.turns.counters) (turns_rounds x.turns) stop) → (at_load comes).comes.instance ≡ comes.instance
    unfolding at_load at_path
    at_load-instance comes = refl

    -- what is found comes next
    pub loads_next : (cell : Option ℕ) → ((tree : Tree) (done : ℕ) (at : IsAtLoad tree m.table path stop done x.place) → cell ≡ slice_get (loads_of tree at.comes.instance) done) → LoadsNext m p stop cell
    loads_next cell found d =
        subst (λ (z : Processor). LoadsIn z stop cell) (read ∙ get_or_default m.processors.items p x d lt)
        (λ comes. ap (λ i. slice_get (loads_of (counters_tree x.turns.counters) i) x.done) (sym (at_load-instance comes)) ∙ sym (found (counters_tree x.turns.counters) x.done (at_load comes)))

  -- what is loaded next
  pub loads_own : (cell : Option ℕ) → LoadsNext m p stop cell → LoadsIn x stop cell
  loads_own cell loads = subst (λ (z : Processor). LoadsIn z stop cell) (sym read) (loads x)

  pub loads_here : (cell : Option ℕ) → LoadsNext m p stop cell → slice_get (loads_of (tree_in m) inst.instance) x.done ≡ cell
  loads_here cell loads = ap (λ (w : Tree). slice_get (loads_of w inst.instance) x.done) (sym (program m ready p x kept stop inst rest turns_are)) ∙ loads_own cell loads inst

  module _ (cells : WorkCells) (at : slice_get (entries m.table) (stop.first - 1) ≡ Some cells) (cell : ℕ) (loads : LoadsNext m p stop (Some cell)) where
    there : slice_get (loads_of (tree_in m) inst.instance) x.done ≡ Some cell
    there = loads_here (Some cell) loads

    pub inside : cell < cell_count (tree_in m)
    inside = load_inside m ready p x kept stop inst rest turns_are cells at cell there

    pub room_left : length x.registers.items < vec_capacity x.registers
    room_left = omega (arith, load_below m ready p x kept stop inst rest turns_are cells at cell there, kept.room (stop.first - 1) cells at, loaded_count m ready p x kept stop inst rest turns_are cells at)

    -- the count of those that are done fits
    pub no_overflow : suc x.done ≤ vec_capacity x.registers
    no_overflow = omega (arith, load_below m ready p x kept stop inst rest turns_are cells at cell there, kept.room (stop.first - 1) cells at)

    -- a processor behind the load of what its access reads
    pub record Loaded (y : Processor) (slot : Option ℕ) : Type 0 where
      pub turns : y.turns ≡ x.turns
      pub instance : IsFoundNext y.turns y.found
      pub pushed : y.registers.items ≡ x.registers.items ++ read_by x m.memory.items cell slot ∷ []
      pub capacity : vec_capacity x.registers ≤ vec_capacity y.registers
      pub done : y.done ≡ suc x.done
      pub loading_next : IsLoading cells.loads.items (suc x.done) y.place.load y.place.element
      pub counter : y.counter ≡ x.counter
      pub signal : y.signal ≡ x.signal
      pub own_cells : y.own ≡ x.own

    pub load_steps : (y : Processor) (slot : Option ℕ) → (own_of (tree_in m) (plan_in m) x.turns.place).slot cell ≡ slot → Loaded y slot → StepsTo m (record m { processors = with_item m.processors p y }) p Stepped
    load_steps y slot at_slot l =
        let own_cell = at_own m ready p x kept stop inst rest turns_are cell in
        let worker = worker_here m ready p x x lt read in
        let more : length y.registers.items ≡ suc (length x.registers.items) = omega (arith, ap length l.pushed, length-append x.registers.items (read_by x m.memory.items cell slot ∷ [])) in
        let left = left_load m ready p x kept stop inst rest turns_are cells at cell y there l.turns l.done in
        let turns = ap turns_left l.turns in
        let begun : IsBegun (entries m.table) (runs x.turns.place inst.instance ∷ rest) y = λ other there'.
        let first : slice_get (entries m.table) (stop.first - 1) ≡ Some other = sym (ap (λ (i : Instance). slice_get (entries m.table) (i.statement - 1)) (instance_is m ready p x kept stop inst rest turns_are)) ∙ there' in
        let same : cells ≡ other = let both : Some cells ≡ Some other = sym at ∙ first in cc in
        record {
          loading = subst (λ (w : WorkCells). IsLoading w.loads.items y.done y.place.load y.place.element) same (subst (λ n. IsLoading cells.loads.items n y.place.load y.place.element) (sym l.done) l.loading_next);
          count = more ∙ ap suc (loaded_count m ready p x kept stop inst rest turns_are cells at) ∙ sym l.done;
        } in
        let now : IsKept (style_in m) (tree_in m) (plan_in m) (entries m.table) p y = record {
          sound = subst AreSound (sym l.turns) kept.sound;
          program = ap turns_tree l.turns ∙ kept.program;
          plan_is = ap turns_plan l.turns ∙ kept.plan_is;
          processor = ap turns_processor l.turns ∙ kept.processor;
          style_is = ap turns_style l.turns ∙ kept.style_is;
          behind = suffix_rest (all_of (style_in m) (tree_in m) (plan_in m) p) (left_of x) (left_of y) (loading own_cell) kept.behind left;
          instance = l.instance;
          begun = subst (λ ts. IsBegun (entries m.table) ts y) (sym (turns ∙ turns_are)) begun;
          inside = ap (list_all (is_turn_inside (tree_in m))) turns ∙ kept.inside;
          own_cells = ap length l.own_cells ∙ kept.own_cells;
          room = λ n w there'. omega (arith, kept.room n w there', l.capacity);
          room_to_close = omega (arith, kept.room_to_close, l.capacity);
        } in
        let room : room_of (tree_in m) y ≡ room_of (tree_in m) x = same_room (tree_in m) x y turns in
        let value = access_read (tree_in m) (plan_in m) x.turns.place few_here m.processors.items m.memory.items ready.cells (have_own m ready) p x lt read cell slot inside at_slot in
        let k = kept_here m ready p x y lt read in
        steps m ready p x y lt read m.loops m.memory m.output (loading own_cell) now refl refl (omega (arith, room)) (omega arith)
        (record {
          left = left;
          processor = now.processor;
          can = refl;
          registers = ap (set (map (λ (z : Processor). z.registers.items) m.processors.items) p) (l.pushed ∙ ap (λ v. x.registers.items ++ v ∷ []) (sym value)
              ∙ ap (λ r. r ++ cell_value (memory_of m.processors.items m.memory.items) own_cell ∷ []) (sym (registers_read (style_in m) (tree_in m) (plan_in m) ready.formed ready.fits (entries m.table) m.processors.items m.memory.items m.output.bytes p worker x lt read k)));
          counters = same_counters (style_in m) (tree_in m) (plan_in m) ready.formed ready.fits (entries m.table) m.processors.items m.memory.items m.output.bytes p worker x lt read k y l.counter;
          signals = same_signals (style_in m) (tree_in m) (plan_in m) ready.formed ready.fits (entries m.table) m.processors.items m.memory.items m.output.bytes p worker x lt read k y l.signal;
          memory_is = same_memory m.processors.items m.memory.items p x lt read y l.own_cells;
          output_is = refl;
        })
