-- The instance that comes next of a processor: its statement stands in the text, its cells are those of the table, and each of an own scalar is the processor's own one.
use Rattle.std.proofs.Common.{false, ◌≡◌, ℕ, suc, ◌-◌, ◌<◌, ◌≤◌, ℤ, true, List, [], ◌∷◌, ◌++◌, length, drop, map, None, Some, refl, sym, ◌∙◌, ap, subst, arith, append_assoc}
use Rattle.std.specs.Prelude.{slice_get}
use Rattle.std.specs.List.{flat_map, list_all}
use Rattle.std.specs.Option.{option_map}
use Rattle.std.proofs.lemmas.Bool.{and_parts}
use Rattle.std.proofs.lemmas.List.{length-map}
use Rattle.std.proofs.lemmas.Option.{slice_get-map, slice_get_within}
use Rattle.list_lemmas.proofs.Gets.{get-front}
use Rattle.nest_tree.specs.Layout.{cell_count}
use Rattle.nest_tree.specs.Tree.{Tree, param_values}
use Rattle.nest_tree.specs.View.{statement_of}
use Rattle.nest_tree.proofs.Rows.{same_work}
use Rattle.nest_model.specs.Accesses.{loads_of, store_of}
use Rattle.nest_model.specs.Instances.{Instance}
use Rattle.nest_model.specs.Memory.{assigned_value, line_of}
use Rattle.nest_model.specs.Ranges.{is_instance_inside}
use Rattle.nest_model.specs.Visits.{every, instances_at}
use Rattle.nest_walk.specs.Cursors.{is_reached, loops_in, visit_at}
use Rattle.nest_walk.specs.Paths.{by_depth}
use Rattle.nest_walk.specs.Places.{numbers_of}
use Rattle.nest_walk.specs.RoundsOf.{rounds_of}
use Rattle.nest_walk.specs.Tables.{entries}
use Rattle.nest_walk.specs.Texts.{StandFrom, placed_in}
use Rattle.nest_walk.specs.Texts as Texts
use Rattle.nest_walk.specs.declared.cursor.Stop.{Stop}
use Rattle.nest_walk.specs.declared.path.Path.{Path}
use Rattle.nest_walk.specs.declared.table.LoadCells.{LoadCells}
use Rattle.nest_walk.specs.declared.table.WorkCells.{WorkCells}
use Rattle.nest_walk.proofs.PlacedWorks.{instance_at}
use Rattle.seq_meaning.specs.Executions.{IsPlacedWork}
use Rattle.seq_meaning.specs.Loads.{cells_of_load}
use Rattle.seq_meaning.proofs.Found.{Found}
use Rattle.seq_meaning.proofs.RunInstances.{placed_work}
use Rattle.seq_meaning.proofs.RunSteps.{placed-found, placed-high, placed-low}
use Rattle.sync_plan.specs.Own.{Own, own_cell, own_of}
use Rattle.sync_plan.specs.declared.plan.Plan.{Plan}
use Rattle.spmd_model.specs.Deeds.{Deed, last_deed, loading}
use Rattle.instance_runs.specs.Loads.{IsLoading, cell_of_load, widths}
use Rattle.turns.specs.CountersLeft.{counters_tree}
use Rattle.instance_runs.specs.Stops.{IsInstance}
use Rattle.instance_runs.proofs.LoadPlaces.{cells-widths, drop_there, loading_below, loading_within}
use Rattle.instance_runs.proofs.NextLoads.{loading_found, loading_over}
use Rattle.turns.specs.Turns.{Turn, runs, turn_deeds}
use Rattle.turns.specs.declared.turns.Turns.{Turns}
use Rattle.turns.specs.TurnsLeft.{turns_left, turns_path, turns_plan, turns_processor, turns_rounds, turns_tree}
use Rattle.spmd_machine.specs.Machines.{IsMachine, plan_in, style_in, tree_in}
use Rattle.spmd_machine.specs.Processors.{IsBegun, IsKept, IsRunning, is_turn_inside, left_of}
use Rattle.spmd_machine.specs.declared.parts.Parts.{Parts}
use Rattle.spmd_machine.specs.declared.processor.Processor.{Processor}
use Rattle.spmd_machine.proofs.Kept.{first_is}

-- what is left of an instance of which so many loads are done
load_first : (f : ℕ → Deed) (cells : List ℕ) (behind : List Deed) (n cell : ℕ) → slice_get cells n ≡ Some cell → drop n (map f cells ++ behind) ≡ f cell ∷ drop (suc n) (map f cells ++ behind)
load_first f cells behind n cell at =
    let there : slice_get (map f cells) n ≡ Some (f cell) = slice_get-map f cells n ∙ ap (option_map f) at in
    drop_there (map f cells ++ behind) n (f cell) (get-front (map f cells) behind n (slice_get_within (map f cells) n (f cell) there) ∙ there)

last_first : (f : ℕ → Deed) (cells : List ℕ) (d : Deed) (behind : List Deed) (n : ℕ) → length cells ≡ n → drop n (map f cells ++ (d ∷ behind)) ≡ d ∷ behind
last_first f [] d behind n none = ap (λ k. drop k (d ∷ behind)) (sym none)
last_first f (c ∷ cells) d behind n count =
    let more : n ≡ suc (length cells) = omega (arith, count) in
    ap (λ k. drop k (f c ∷ (map f cells ++ (d ∷ behind)))) more ∙ last_first f cells d behind (length cells) refl

module _ (m : Parts) (ready : IsMachine m) (p : ℕ) (x : Processor) (kept : IsKept (style_in m) (tree_in m) (plan_in m) (entries m.table) p x) (stop : Stop) (inst : IsInstance (counters_tree x.turns.counters) (turns_rounds x.turns) stop) (rest : List Turn) (next : turns_left x.turns ≡ runs x.turns.place inst.instance ∷ rest) where
  abbrev tree : Tree
  tree = tree_in m

  abbrev path : Path
  path = turns_path x.turns

  abbrev pub loops : List ℤ
  loops = loops_in tree (rounds_of path)

  abbrev values : List ℤ
  values = by_depth (rounds_of path)

  -- where the processor has the cells of the phase's own scalars
  abbrev pub own : Own
  own = own_of tree (plan_in m) x.turns.place

  abbrev pub at_own : ℕ → ℕ
  at_own c = own_cell own p c

  pub program : counters_tree x.turns.counters ≡ tree
  program = kept.sound.same_tree ∙ kept.program

  executed : instances_at (param_values tree) (visit_at tree (rounds_of path) stop) ≡ inst.instance ∷ []
  executed = ap (λ (w : Tree). instances_at (param_values w) (visit_at w (rounds_of path) stop)) (sym program) ∙ inst.is

  reached : is_reached tree (rounds_of path) stop ≡ true
  reached = ap (λ (w : Tree). is_reached w (rounds_of path) stop) (sym program) ∙ inst.reached

  text : StandFrom (Texts.works tree) stop.first (placed_in every (numbers_of (rounds_of path)) (statement_of stop.item.now))
  text = subst (λ (w : Tree). StandFrom (Texts.works w) stop.first (placed_in every (numbers_of (rounds_of path)) (statement_of stop.item.now))) program inst.text

  pub inside : is_instance_inside tree inst.instance ≡ true
  inside = (and_parts (is_instance_inside tree inst.instance) (list_all (is_turn_inside tree) rest) (sym (ap (list_all (is_turn_inside tree)) next) ∙ kept.inside)).0

  pub placed : IsPlacedWork tree (rounds_of path) stop.first (statement_of stop.item.now)
  placed = placed_work tree (rounds_of path) stop inst.instance executed reached text inside

  pub instance_is : inst.instance ≡ record { statement = stop.first; what = placed.what; loops = loops }
  instance_is =
      let at = instance_at tree (rounds_of path) stop.first (statement_of stop.item.now) inst.instance executed in
      at.instance_is ∙ ap (λ w. record { statement = stop.first; what = w; loops = loops }) (same_work at.what placed.what (sym at.is ∙ placed.is))

  pub low : 1 ≤ stop.first
  low = placed-low tree path stop.first (statement_of stop.item.now) placed m.table ready.table

  pub high : stop.first ≤ length (entries m.table)
  high = placed-high tree path stop.first (statement_of stop.item.now) placed m.table ready.table

  module _ (cells : WorkCells) (at : slice_get (entries m.table) (stop.first - 1) ≡ Some cells) where
    pub found : Found tree path placed.numbered placed.what cells
    found = placed-found tree path stop.first (statement_of stop.item.now) placed m.table cells ready.table at

    pub loads_are : flat_map (cells_of_load values) cells.loads.items ≡ loads_of tree inst.instance
    loads_are = found.loads ∙ ap (loads_of tree) (sym instance_is)

    running : IsRunning cells x
    running =
        let begun : IsBegun (entries m.table) (runs x.turns.place inst.instance ∷ rest) x = subst (λ ts. IsBegun (entries m.table) ts x) next kept.begun in
        begun cells (ap (λ (i : Instance). slice_get (entries m.table) (i.statement - 1)) instance_is ∙ at)

    pub begun_here : IsLoading cells.loads.items x.done x.place.load x.place.element
    begun_here = running.loading

    pub loaded_count : length x.registers.items ≡ x.done
    loaded_count = running.count

    -- what is left
    behind_it : List Deed
    behind_it = flat_map (turn_deeds tree (plan_in m) p) rest

    last : Deed
    last = last_deed (option_map at_own (store_of tree inst.instance)) false (assigned_value tree inst.instance) (line_of tree inst.instance)

    deeds_are : (y : Processor) (n : ℕ) (ts : List Turn) → turns_tree y.turns ≡ tree → turns_plan y.turns ≡ plan_in m → turns_processor y.turns ≡ p →
        drop n (flat_map (turn_deeds (turns_tree y.turns) (turns_plan y.turns) (turns_processor y.turns)) ts) ≡ drop n (flat_map (turn_deeds tree (plan_in m) p) ts)
    deeds_are y n ts t q k =
        ap (λ (w : Tree). drop n (flat_map (turn_deeds w (turns_plan y.turns) (turns_processor y.turns)) ts)) t ∙ ap (λ (r : Plan). drop n (flat_map (turn_deeds tree r (turns_processor y.turns)) ts)) q
        ∙ ap (λ j. drop n (flat_map (turn_deeds tree (plan_in m) j) ts)) k

    left_is : left_of x ≡ drop x.done (map loading (map at_own (loads_of tree inst.instance)) ++ (last ∷ behind_it))
    unfolding left_of behind_it last
    left_is =
        deeds_are x x.done (turns_left x.turns) kept.program kept.plan_is kept.processor
        ∙ ap (λ ts. drop x.done (flat_map (turn_deeds tree (plan_in m) p) ts)) next
        ∙ ap (drop x.done) (append_assoc (map loading (map at_own (loads_of tree inst.instance))) (last_deed (option_map at_own (store_of tree inst.instance)) false (assigned_value tree inst.instance) (line_of tree inst.instance) ∷ []) (flat_map (turn_deeds tree (plan_in m) p) rest))

    -- a load
    load_found : (cell : ℕ) → slice_get (loads_of tree inst.instance) x.done ≡ Some cell → (l : LoadCells) × (slice_get cells.loads.items x.place.load ≡ Some l) × (cell ≡ cell_of_load values l x.place.element)
    load_found cell there = loading_found values cells.loads.items x.done x.place.load x.place.element begun_here cell (ap (λ cs. slice_get cs x.done) loads_are ∙ there)

    pub load_inside : (cell : ℕ) → slice_get (loads_of tree inst.instance) x.done ≡ Some cell → cell < cell_count tree
    load_inside cell there =
        let (l, here, is) = load_found cell there in
        omega (arith, is, loading_within values (cell_count tree) cells.loads.items x.done x.place.load x.place.element l begun_here here found.within)

    pub load_below : (cell : ℕ) → slice_get (loads_of tree inst.instance) x.done ≡ Some cell → x.done < widths cells.loads.items
    load_below cell there = let (l, here, is) = load_found cell there in loading_below values cells.loads.items x.done x.place.load x.place.element l begun_here here

    own_load : (cell : ℕ) → slice_get (loads_of tree inst.instance) x.done ≡ Some cell → slice_get (map at_own (loads_of tree inst.instance)) x.done ≡ Some (at_own cell)
    own_load cell there = slice_get-map at_own (loads_of tree inst.instance) x.done ∙ ap (option_map at_own) there

    -- behind a load of it the same turns are left
    pub left_load : (cell : ℕ) (y : Processor) → slice_get (loads_of tree inst.instance) x.done ≡ Some cell → y.turns ≡ x.turns → y.done ≡ suc x.done → left_of x ≡ loading (at_own cell) ∷ left_of y
    unfolding left_of behind_it last
    left_load cell y there turns more =
        let cs = map at_own (loads_of tree inst.instance) in
        let d = last_deed (option_map at_own (store_of tree inst.instance)) false (assigned_value tree inst.instance) (line_of tree inst.instance) in
        let deeds = flat_map (turn_deeds tree (plan_in m) p) in
        left_is ∙ load_first loading cs (d ∷ deeds rest) x.done (at_own cell) (own_load cell there)
        ∙ ap (λ ds. loading (at_own cell) ∷ ds)
        (ap (drop (suc x.done)) (sym (append_assoc (map loading cs) (d ∷ []) (deeds rest)))
        ∙ ap (λ n. drop n (deeds (runs x.turns.place inst.instance ∷ rest))) (sym more)
        ∙ ap (λ ts. drop y.done (deeds ts)) (sym next)
        ∙ sym (deeds_are x y.done (turns_left x.turns) kept.program kept.plan_is kept.processor)
        ∙ ap (λ (c : Turns). drop y.done (flat_map (turn_deeds (turns_tree c) (turns_plan c) (turns_processor c)) (turns_left c))) (sym turns))

    pub left_first : (cell : ℕ) → slice_get (loads_of tree inst.instance) x.done ≡ Some cell → (later : List Deed) × (left_of x ≡ loading (at_own cell) ∷ later)
    left_first cell there = (
      drop (suc x.done) (map loading (map at_own (loads_of tree inst.instance)) ++ (last ∷ behind_it)),
      left_is ∙ load_first loading (map at_own (loads_of tree inst.instance)) (last ∷ behind_it) x.done (at_own cell) (own_load cell there),
    )

    -- the loads are done
    module _ (over : slice_get (loads_of tree inst.instance) x.done ≡ None) where
      pub loads_done : length (loads_of tree inst.instance) ≡ x.done
      loads_done =
          let all = begun_here.over (loading_over values cells.loads.items x.done x.place.load x.place.element begun_here (ap (λ cs. slice_get cs x.done) loads_are ∙ over)) in
          ap (λ (cs : List ℕ). length cs) (sym loads_are) ∙ cells-widths values cells.loads.items ∙ all

      pub left_end : (later : List Deed) × (left_of x ≡ last_deed (option_map at_own (store_of tree inst.instance)) false (assigned_value tree inst.instance) (line_of tree inst.instance) ∷ later)
      unfolding last
      left_end = (behind_it, left_is ∙ last_first loading (map at_own (loads_of tree inst.instance)) last behind_it x.done (length-map (loads_of tree inst.instance) at_own ∙ loads_done))

      pub left_last : (y : Processor) (t : Turn) → turns_tree y.turns ≡ turns_tree x.turns → turns_plan y.turns ≡ turns_plan x.turns → turns_processor y.turns ≡ turns_processor x.turns → turns_left x.turns ≡ t ∷ turns_left y.turns → y.done ≡ 0 →
          left_of x ≡ last_deed (option_map at_own (store_of tree inst.instance)) false (assigned_value tree inst.instance) (line_of tree inst.instance) ∷ left_of y
      unfolding left_of behind_it last
      left_last y t trees plans processors turns none =
          let d = last_deed (option_map at_own (store_of tree inst.instance)) false (assigned_value tree inst.instance) (line_of tree inst.instance) in
          let rest_is = (first_is (turns_left x.turns) (runs x.turns.place inst.instance) t rest (turns_left y.turns) next turns).1 in
          let count : length (map at_own (loads_of tree inst.instance)) ≡ x.done = length-map (loads_of tree inst.instance) at_own ∙ loads_done in
          left_is ∙ last_first loading (map at_own (loads_of tree inst.instance)) d (flat_map (turn_deeds tree (plan_in m) p) rest) x.done count
          ∙ ap (λ ts. d ∷ flat_map (turn_deeds tree (plan_in m) p) ts) rest_is
          ∙ ap (λ ds. d ∷ ds) (sym (ap (λ n. drop n (flat_map (turn_deeds (turns_tree y.turns) (turns_plan y.turns) (turns_processor y.turns)) (turns_left y.turns))) none
          ∙ deeds_are y 0 (turns_left y.turns) (trees ∙ kept.program) (plans ∙ kept.plan_is) (processors ∙ kept.processor)))
