-- The acts of a closing, where one comes next.
use Rattle.std.proofs.Common.{◌≡◌, ◌==◌, ◌⊎◌, ℕ, not, ◌+◌, ◌*◌, ◌<◌, ◌≤◌, nat_lt, ℤ, pos, List, [], ◌∷◌, ◌++◌, drop, length, get_or, map, set, Some, Vec, Global, vec_capacity, if◌then◌else◌, refl, sym, ◌∙◌, ap, subst, inl, inr, arith, length-set}
use Rattle.std.specs.List.{flat_map, list_all}
use Rattle.std.specs.Vec.{with_item}
use Rattle.std.proofs.lemmas.Bool.{cases_Bool, le-leb, lt-leb, lt-ltb, ltb-true, ltb-false}
use Rattle.nest_tree.specs.Layout.{cell_count, first_cell}
use Rattle.nest_tree.specs.Tree.{Tree}
use Rattle.nest_model.specs.Memory.{cell_value}
use Rattle.nest_walk.specs.Tables.{entries}
use Rattle.sync_plan.specs.Own.{own_loop}
use Rattle.sync_plan.specs.declared.plan.Plan.{Plan}
use Rattle.own_cells.specs.OwnCells.{shared_cell}
use Rattle.own_cells.specs.declared.cells.OwnCells.{OwnCells}
use Rattle.spmd_model.specs.Cells.{plus}
use Rattle.spmd_model.specs.Closings.{given_first}
use Rattle.spmd_model.specs.Deeds.{Deed, loading, storing, adding}
use Rattle.spmd_model.specs.Quiet.{quiet_next}
use Rattle.spmd_model.specs.MachineDeeds.{keeping_deeds, totalling_deeds}
use Rattle.turns.specs.Turns.{Turn, closes, close_deeds, scalar_at, turn_deeds}
use Rattle.turns.specs.TurnsLeft.{AreSound, ShowsClosing, turns_left, turns_plan, turns_processor, turns_style, turns_tree}
use Rattle.turns.specs.declared.turns.Next.TheVariants.{Close}
use Rattle.turns.specs.declared.turns.Turns.{Turns}
use Rattle.turns.proofs.OwnPlaces.{scalar_below, shared_there}
use Rattle.spmd_machine.specs.Machines.{ComesNext, IsMachine, StepsTo, model_of, plan_in, shared_in, shown, style_in, tree_in}
use Rattle.spmd_machine.specs.Processors.{IsFoundNext, IsBegun, IsClosing, IsKept, PassesTurn, all_of, deeds_left, is_turn_inside, left_of, memory_of}
use Rattle.spmd_machine.specs.declared.answer.StepAnswer.TheVariants.{Stepped}
use Rattle.spmd_machine.specs.declared.parts.Parts.{Parts}
use Rattle.spmd_machine.specs.declared.processor.Processor.{Processor}
use Rattle.spmd_machine.proofs.Kept.{first_is, passed_kept, room_passed, same_room}
use Rattle.spmd_machine.proofs.LoadSteps.{have_own}
use Rattle.spmd_machine.proofs.OwnMemory.{own_set, own_value, same_memory, shared_put, shared_value}
use Rattle.spmd_machine.proofs.Quiets.{quiet_is}
use Rattle.spmd_machine.proofs.Ready.{kept_here, next_here, steps, worker_here}
use Rattle.spmd_machine.proofs.Steps.{registers_read, same_counters, same_signals}
use Rattle.spmd_machine.proofs.Suffixes.{suffix_rest}

module _ (m : Parts) (ready : IsMachine m) (p : ℕ) (x : Processor) (lt : p < length m.processors.items) (read : x ≡ get_or m.processors.items p x) (k : ℕ) (next : ComesNext m p (Close k)) where
  kept : IsKept (style_in m) (tree_in m) (plan_in m) (entries m.table) p x
  kept = kept_here m ready p x x lt read

  shows : ShowsClosing x.turns k
  shows = (next_here m ready p x x lt read (Close k) next).1

  rest : List Turn
  rest = (next_here m ready p x x lt read (Close k) next).0.0

  turns_are : turns_left x.turns ≡ closes x.turns.place k ∷ rest
  unfolding rest
  turns_are = (next_here m ready p x x lt read (Close k) next).0.1

  pub closing_begun : IsClosing k x
  closing_begun = subst (λ ts. IsBegun (entries m.table) ts x) turns_are kept.begun

  -- the processor's cell and the one that all share
  abbrev pub from : ℕ
  from = cell_count (tree_in m) + (32 * p + k)

  abbrev pub to : ℕ
  to = first_cell (tree_in m) (scalar_at (own_loop (tree_in m) (plan_in m) x.turns.place) k)

  abbrev deeds : List Deed
  deeds = close_deeds (tree_in m) (plan_in m) p x.turns.place k

  pub behind_it : List Deed
  behind_it = flat_map (turn_deeds (tree_in m) (plan_in m) p) rest

  turn_deeds_are : (c : Turns) (n : ℕ) (ts : List Turn) → turns_tree c ≡ tree_in m → turns_plan c ≡ plan_in m → turns_processor c ≡ p →
      drop n (flat_map (turn_deeds (turns_tree c) (turns_plan c) (turns_processor c)) ts) ≡ drop n (flat_map (turn_deeds (tree_in m) (plan_in m) p) ts)
  turn_deeds_are c n ts t q j =
      ap (λ (w : Tree). drop n (flat_map (turn_deeds w (turns_plan c) (turns_processor c)) ts)) t ∙ ap (λ (r : Plan). drop n (flat_map (turn_deeds (tree_in m) r (turns_processor c)) ts)) q
      ∙ ap (λ i. drop n (flat_map (turn_deeds (tree_in m) (plan_in m) i) ts)) j

  left_by : (y : Processor) (n : ℕ) → y.turns ≡ x.turns → y.done ≡ n → left_of y ≡ drop n (deeds ++ behind_it)
  unfolding left_of behind_it
  left_by y n turns done =
      ap (λ j. drop j (deeds_left y.turns)) done ∙ ap (λ (c : Turns). drop n (deeds_left c)) turns ∙ turn_deeds_are x.turns n (turns_left x.turns) kept.program kept.plan_is kept.processor
      ∙ ap (λ ts. drop n (flat_map (turn_deeds (tree_in m) (plan_in m) p) ts)) turns_are

  left_past : (y : Processor) (t : Turn) → PassesTurn x y t → left_of y ≡ behind_it
  unfolding left_of behind_it
  left_past y t passes =
      ap (λ j. drop j (deeds_left y.turns)) passes.idle.none_done ∙ turn_deeds_are y.turns 0 (turns_left y.turns) (passes.program ∙ kept.program) (passes.plan_is ∙ kept.plan_is) (passes.processor ∙ kept.processor)
      ∙ ap (flat_map (turn_deeds (tree_in m) (plan_in m) p)) (sym (first_is (turns_left x.turns) (closes x.turns.place k) t rest (turns_left y.turns) turns_are passes.turns).1)

  keeps : k < 16 → deeds ≡ keeping_deeds from to
  keeps small = ap (λ b. if b then keeping_deeds from to else totalling_deeds from to) (lt-ltb k 16 small)

  totals : 16 ≤ k → deeds ≡ totalling_deeds from to
  totals big = elim (cases_Bool (nat_lt k 16)) [
    | inl small ↦ absurd (omega (arith, ltb-true k 16 small, big))
    | inr not_small ↦ ap (λ b. if b then keeping_deeds from to else totalling_deeds from to) not_small
  ]

  -- the shared one is the program's
  pub to_there : shared_cell x.turns.own k ≡ Some to
  to_there =
      subst (λ (q : Plan). shared_cell x.turns.own k ≡ Some (first_cell (tree_in m) (scalar_at (own_loop (tree_in m) q x.turns.place) k))) kept.plan_is
      (subst (λ (w : Tree). shared_cell x.turns.own k ≡ Some (first_cell w (scalar_at (own_loop w (turns_plan x.turns) x.turns.place) k))) kept.program (shared_there x.turns kept.sound k shows))

  pub to_below : to < cell_count (tree_in m)
  to_below =
      subst (λ (q : Plan). first_cell (tree_in m) (scalar_at (own_loop (tree_in m) q x.turns.place) k) < cell_count (tree_in m)) kept.plan_is
      (subst (λ (w : Tree). first_cell w (scalar_at (own_loop w (turns_plan x.turns) x.turns.place) k) < cell_count w) kept.program (scalar_below x.turns kept.sound k shows))

  pub to_is : (o : OwnCells) (n : ℕ) → o ≡ x.turns.own → shared_cell o k ≡ Some n → n ≡ to
  to_is o n same there = let both : Some n ≡ Some to = sym there ∙ ap (λ (q : OwnCells). shared_cell q k) same ∙ to_there in cc

  pub place_below : k < length x.own
  place_below = omega (arith, shows.small, kept.own_cells)

  -- what is loaded
  pub none_loaded : x.done ≡ 0 → x.registers.items ≡ []
  none_loaded none = elim closing_begun.stage [
    | inl at_first ↦ at_first.1
    | inr later ↦ elim later [ inl one ↦ absurd (omega (arith, one.0, none)) | inr two ↦ absurd (omega (arith, two.1, none)) ]
  ]

  pub one_loaded : x.done ≡ 1 → length x.registers.items ≡ 1
  one_loaded is = elim closing_begun.stage [
    | inl at_first ↦ absurd (omega (arith, at_first.0, is))
    | inr later ↦ elim later [ inl one ↦ one.1 | inr two ↦ absurd (omega (arith, two.1, is)) ]
  ]

  pub is_sum : x.done ≡ 2 → 16 ≤ k
  is_sum is = elim closing_begun.stage [
    | inl at_first ↦ absurd (omega (arith, at_first.0, is))
    | inr later ↦ elim later [ inl one ↦ absurd (omega (arith, one.0, is)) | inr two ↦ two.0 ]
  ]

  pub few_done : (x.done ≡ 0) ⊎ ((x.done ≡ 1) ⊎ (x.done ≡ 2))
  few_done = elim closing_begun.stage [
    | inl at_first ↦ inl at_first.0
    | inr later ↦ elim later [ inl one ↦ inr (inl one.0) | inr two ↦ inr (inr two.1) ]
  ]

  -- what is left in front of the load, behind it, and behind an addition
  pub left_none : x.done ≡ 0 → (tail : List Deed) × (left_of x ≡ loading from ∷ tail) × (tail ≡ drop 1 (deeds ++ behind_it))
  left_none none = elim (cases_Bool (nat_lt k 16)) [
    | inl small ↦ (storing to given_first ∷ behind_it, left_by x 0 refl none ∙ ap (λ ds. ds ++ behind_it) (keeps (ltb-true k 16 small)), sym (ap (λ ds. drop 1 (ds ++ behind_it)) (keeps (ltb-true k 16 small))))
    | inr not_small ↦ (
        let big = ltb-false k 16 not_small in
        (adding to given_first ∷ storing from (λ given. pos 0) ∷ behind_it, left_by x 0 refl none ∙ ap (λ ds. ds ++ behind_it) (totals big), sym (ap (λ ds. drop 1 (ds ++ behind_it)) (totals big)))
        )
  ]

  pub left_kept : k < 16 → x.done ≡ 1 → left_of x ≡ storing to given_first ∷ behind_it
  left_kept small one = left_by x 1 refl one ∙ ap (λ ds. drop 1 (ds ++ behind_it)) (keeps small)

  pub left_total : 16 ≤ k → x.done ≡ 1 → left_of x ≡ adding to given_first ∷ storing from (λ given. pos 0) ∷ behind_it
  left_total big one = left_by x 1 refl one ∙ ap (λ ds. drop 1 (ds ++ behind_it)) (totals big)

  pub left_clear : (y : Processor) → 16 ≤ k → y.turns ≡ x.turns → y.done ≡ 2 → left_of y ≡ storing from (λ given. pos 0) ∷ behind_it
  left_clear y big turns two = left_by y 2 turns two ∙ ap (λ ds. drop 2 (ds ++ behind_it)) (totals big)

  -- ---- whether an act on its own cells comes next

  pub close_quiet : nat_lt 0 (quiet_next (model_of m) (shared_in m) (shown m) p) ≡ not (x.done == 1)
  close_quiet = elim few_done [
    | inl none ↦
        let (tail, left, tail_is) = left_none none in
        quiet_is m ready p x lt read (loading from) tail left ∙ le-leb (cell_count (tree_in m)) from (omega arith) ∙ sym (ap (λ n. not (n == 1)) none)
    | inr later ↦ elim later [
      | inl one ↦ elim (cases_Bool (nat_lt k 16)) [
        | inl small ↦ quiet_is m ready p x lt read (storing to given_first) behind_it (left_kept (ltb-true k 16 small) one) ∙ lt-leb (cell_count (tree_in m)) to to_below ∙ sym (ap (λ n. not (n == 1)) one)
        | inr big ↦ quiet_is m ready p x lt read (adding to given_first) (storing from (λ given. pos 0) ∷ behind_it) (left_total (ltb-false k 16 big) one) ∙ sym (ap (λ n. not (n == 1)) one)
      ]
      | inr two ↦ quiet_is m ready p x lt read (storing from (λ given. pos 0)) behind_it (left_clear x (is_sum two) refl two) ∙ le-leb (cell_count (tree_in m)) from (omega arith) ∙ sym (ap (λ n. not (n == 1)) two)
    ]
  ]

  -- ---- steps that leave the turn where it is

  -- a processor behind an act of it
  pub record StaysAt (y : Processor) (n : ℕ) : Type 0 where
    pub turns : y.turns ≡ x.turns
    pub instance : y.found ≡ x.found
    pub done : y.done ≡ n
    pub closing : IsClosing k y
    pub capacity : vec_capacity x.registers ≤ vec_capacity y.registers
    pub counter : y.counter ≡ x.counter
    pub signal : y.signal ≡ x.signal
    pub own_cells : y.own ≡ x.own

  stays_kept : (y : Processor) (n : ℕ) (d : Deed) → StaysAt y n → left_of x ≡ d ∷ left_of y → IsKept (style_in m) (tree_in m) (plan_in m) (entries m.table) p y
  stays_kept y n d s left =
      let turns = ap turns_left s.turns in
      record {
        sound = subst AreSound (sym s.turns) kept.sound;
        program = ap turns_tree s.turns ∙ kept.program;
        plan_is = ap turns_plan s.turns ∙ kept.plan_is;
        processor = ap turns_processor s.turns ∙ kept.processor;
        style_is = ap turns_style s.turns ∙ kept.style_is;
        behind = suffix_rest (all_of (style_in m) (tree_in m) (plan_in m) p) (left_of x) (left_of y) d kept.behind left;
        instance = subst (λ c. IsFoundNext c y.found) (sym s.turns) (subst (IsFoundNext x.turns) (sym s.instance) kept.instance);
        begun = subst (λ ts. IsBegun (entries m.table) ts y) (sym (turns ∙ turns_are)) s.closing;
        inside = ap (list_all (is_turn_inside (tree_in m))) turns ∙ kept.inside;
        own_cells = ap length s.own_cells ∙ kept.own_cells;
        room = λ i w there. omega (arith, kept.room i w there, s.capacity);
        room_to_close = omega (arith, kept.room_to_close, s.capacity);
      }

  -- the own cell's value is loaded
  pub total_loaded : (y : Processor) → x.done ≡ 0 → x.registers.items ≡ [] → StaysAt y 1 → y.registers.items ≡ get_or x.own k (pos 0) ∷ [] → StepsTo m (record m { processors = with_item m.processors p y }) p Stepped
  total_loaded y none empty s pushed =
      let here = kept_here m ready p x y lt read in
      let worker = worker_here m ready p x x lt read in
      let (tail, left, tail_is) = left_none none in
      let left_y = left ∙ ap (λ ds. loading from ∷ ds) (tail_is ∙ sym (left_by y 1 s.turns s.done)) in
      let now = stays_kept y 1 (loading from) s left_y in
      let room = same_room (tree_in m) x y (ap turns_left s.turns) in
      let value = own_value m.processors.items m.memory.items p x lt read (cell_count (tree_in m)) k (have_own m ready) ready.cells shows.small in
      steps m ready p x y lt read m.loops m.memory m.output (loading from) now refl refl (omega (arith, room)) (omega arith)
      (record {
        left = left_y;
        processor = now.processor;
        can = refl;
        registers = ap (set (map (λ (z : Processor). z.registers.items) m.processors.items) p) (pushed ∙ ap (λ v. v ∷ []) (sym value)
            ∙ ap (λ r. r ++ cell_value (memory_of m.processors.items m.memory.items) from ∷ []) (sym (registers_read (style_in m) (tree_in m) (plan_in m) ready.formed ready.fits (entries m.table) m.processors.items m.memory.items m.output.bytes p worker x lt read here ∙ empty)));
        counters = same_counters (style_in m) (tree_in m) (plan_in m) ready.formed ready.fits (entries m.table) m.processors.items m.memory.items m.output.bytes p worker x lt read here y s.counter;
        signals = same_signals (style_in m) (tree_in m) (plan_in m) ready.formed ready.fits (entries m.table) m.processors.items m.memory.items m.output.bytes p worker x lt read here y s.signal;
        memory_is = same_memory m.processors.items m.memory.items p x lt read y s.own_cells;
        output_is = refl;
      })

  -- it is added to the shared cell
  pub total_added : (y : Processor) (v : ℤ) (memory : Vec ℤ Global) → 16 ≤ k → x.done ≡ 1 → x.registers.items ≡ v ∷ [] → to < cell_count (tree_in m) → StaysAt y 2 → y.registers.items ≡ [] →
      memory.items ≡ set m.memory.items to (plus (cell_value m.memory.items to) v) → StepsTo m (record m { processors = with_item m.processors p y; memory = memory }) p Stepped
  total_added y v memory big one loaded below s empty is =
      let here = kept_here m ready p x y lt read in
      let worker = worker_here m ready p x x lt read in
      let left = left_total big one ∙ ap (λ ds. adding to given_first ∷ ds) (sym (left_clear y big s.turns s.done)) in
      let now = stays_kept y 2 (adding to given_first) s left in
      let room = same_room (tree_in m) x y (ap turns_left s.turns) in
      let in_shared : to < length m.memory.items = omega (arith, below, ready.cells) in
      let given = ap given_first (registers_read (style_in m) (tree_in m) (plan_in m) ready.formed ready.fits (entries m.table) m.processors.items m.memory.items m.output.bytes p worker x lt read here ∙ loaded) in
      let old = shared_value m.processors.items m.memory.items p x lt read to in_shared in
      steps m ready p x y lt read m.loops memory m.output (adding to given_first) now refl (ap length is ∙ length-set m.memory.items to (plus (cell_value m.memory.items to) v)) (omega (arith, room)) (omega arith)
      (record {
        left = left;
        processor = now.processor;
        can = refl;
        registers = ap (set (map (λ (z : Processor). z.registers.items) m.processors.items) p) empty;
        counters = same_counters (style_in m) (tree_in m) (plan_in m) ready.formed ready.fits (entries m.table) m.processors.items m.memory.items m.output.bytes p worker x lt read here y s.counter;
        signals = same_signals (style_in m) (tree_in m) (plan_in m) ready.formed ready.fits (entries m.table) m.processors.items m.memory.items m.output.bytes p worker x lt read here y s.signal;
        memory_is = same_memory m.processors.items memory.items p x lt read y s.own_cells ∙ ap (memory_of m.processors.items) is
            ∙ sym (shared_put m.processors.items m.memory.items p x lt read to (plus (cell_value m.memory.items to) v) in_shared)
            ∙ ap (λ w. set (memory_of m.processors.items m.memory.items) to (plus w v)) (sym old) ∙ ap (λ w. set (memory_of m.processors.items m.memory.items) to (plus (cell_value (memory_of m.processors.items m.memory.items) to) w)) (sym given);
        output_is = refl;
      })

  -- ---- steps past the turn

  -- the value is stored to the shared cell
  pub total_kept : (y : Processor) (t : Turn) (v : ℤ) (memory : Vec ℤ Global) → k < 16 → x.done ≡ 1 → x.registers.items ≡ v ∷ [] → to < cell_count (tree_in m) → PassesTurn x y t → y.own ≡ x.own → y.counter ≡ x.counter → y.signal ≡ x.signal →
      memory.items ≡ set m.memory.items to v → StepsTo m (record m { processors = with_item m.processors p y; memory = memory }) p Stepped
  total_kept y t v memory small one loaded below passes own counter signal is =
      let here = kept_here m ready p x y lt read in
      let worker = worker_here m ready p x x lt read in
      let left = left_kept small one ∙ ap (λ ds. storing to given_first ∷ ds) (sym (left_past y t passes)) in
      let room = room_passed (style_in m) (tree_in m) (plan_in m) (entries m.table) p x kept y t passes.turns in
      let in_shared : to < length m.memory.items = omega (arith, below, ready.cells) in
      let given = ap given_first (registers_read (style_in m) (tree_in m) (plan_in m) ready.formed ready.fits (entries m.table) m.processors.items m.memory.items m.output.bytes p worker x lt read here ∙ loaded) in
      steps m ready p x y lt read m.loops memory m.output (storing to given_first) (passed_kept (style_in m) (tree_in m) (plan_in m) (entries m.table) p x kept ready.wide y t (storing to given_first) passes (ap length own ∙ kept.own_cells) left)
      refl (ap length is ∙ length-set m.memory.items to v) (omega (arith, room)) (omega arith)
      (record {
        left = left;
        processor = passes.processor ∙ kept.processor;
        can = refl;
        registers = ap (set (map (λ (z : Processor). z.registers.items) m.processors.items) p) passes.idle.empty;
        counters = same_counters (style_in m) (tree_in m) (plan_in m) ready.formed ready.fits (entries m.table) m.processors.items m.memory.items m.output.bytes p worker x lt read here y counter;
        signals = same_signals (style_in m) (tree_in m) (plan_in m) ready.formed ready.fits (entries m.table) m.processors.items m.memory.items m.output.bytes p worker x lt read here y signal;
        memory_is = same_memory m.processors.items memory.items p x lt read y own ∙ ap (memory_of m.processors.items) is
            ∙ sym (shared_put m.processors.items m.memory.items p x lt read to v in_shared) ∙ ap (set (memory_of m.processors.items m.memory.items) to) (sym given);
        output_is = refl;
      })

  -- 0 is stored to the own cell behind an addition
  pub total_cleared : (y : Processor) (t : Turn) → 16 ≤ k → x.done ≡ 2 → PassesTurn x y t → y.own ≡ set x.own k (pos 0) → y.counter ≡ x.counter → y.signal ≡ x.signal → StepsTo m (record m { processors = with_item m.processors p y }) p Stepped
  total_cleared y t big two passes own counter signal =
      let here = kept_here m ready p x y lt read in
      let worker = worker_here m ready p x x lt read in
      let deed = storing from (λ given. pos 0) in
      let left = left_clear x big refl two ∙ ap (λ ds. deed ∷ ds) (sym (left_past y t passes)) in
      let room = room_passed (style_in m) (tree_in m) (plan_in m) (entries m.table) p x kept y t passes.turns in
      steps m ready p x y lt read m.loops m.memory m.output deed (passed_kept (style_in m) (tree_in m) (plan_in m) (entries m.table) p x kept ready.wide y t deed passes (ap length own ∙ length-set x.own k (pos 0) ∙ kept.own_cells) left)
      refl refl (omega (arith, room)) (omega arith)
      (record {
        left = left;
        processor = passes.processor ∙ kept.processor;
        can = refl;
        registers = ap (set (map (λ (z : Processor). z.registers.items) m.processors.items) p) passes.idle.empty;
        counters = same_counters (style_in m) (tree_in m) (plan_in m) ready.formed ready.fits (entries m.table) m.processors.items m.memory.items m.output.bytes p worker x lt read here y counter;
        signals = same_signals (style_in m) (tree_in m) (plan_in m) ready.formed ready.fits (entries m.table) m.processors.items m.memory.items m.output.bytes p worker x lt read here y signal;
        memory_is = sym (own_set m.processors.items m.memory.items p x lt read (cell_count (tree_in m)) k (pos 0) y (have_own m ready) ready.cells shows.small own);
        output_is = refl;
      })

pub one_item : (xs : List ℤ) (v : ℤ) → length xs ≡ 1 → v ≡ get_or xs 0 v → xs ≡ v ∷ []
one_item [] v one is = absurd (omega (arith, one))
one_item (x ∷ []) v one is = ap (λ w. w ∷ []) (sym is)
one_item (x ∷ y ∷ rest) v one is = absurd (omega (arith, one))
