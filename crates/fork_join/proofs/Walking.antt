-- The instances of a phase, one behind another.
use mathlib.Core.Logic.{∥∥₁_elim}
use Rattle.std.proofs.Common.{◌≡◌, ◌≢◌, ℕ, zero, suc, ◌+◌, ◌-◌, ◌<◌, ◌≤◌, Bool, true, false, ℤ, IsTrue, List, [], ◌∷◌, ◌++◌, append_assoc, drop, length, length-append, length-drop, map, Some, None, if◌then◌else◌, refl, sym, ◌∙◌, ap, subst, inl, inr, arith, sum_by, take}
use Rattle.std.specs.Prelude.{slice_get}
use Rattle.std.specs.List.{All, flat_map, list_all}
use Rattle.std.specs.Option.{option_map}
use Rattle.std.proofs.Props.{props}
use Rattle.std.proofs.lemmas.Bool.{and_from, and_parts, cases_eq}
use Rattle.std.proofs.lemmas.List.{length-map, take-append-drop}
use Rattle.std.proofs.lemmas.List.Elements.{All-cons, All-head, All-nil, All-tail}
use Rattle.std.proofs.lemmas.List.Sums.{sum_by-append, sum_by-cons}
use Rattle.list_lemmas.proofs.Gets.{get-behind}
use Rattle.nest_tree.specs.Layout.{cell_count}
use Rattle.nest_tree.specs.Tree.{Tree, Work, assign, print, Statement, do_loop, work, continue, param_values}
use Rattle.nest_tree.specs.View.{statement_of, tree_of}
use Rattle.nest_model.specs.Accesses.{cells_of, loads_of, store_of}
use Rattle.nest_model.specs.Instances.{Instance, is_executed}
use Rattle.nest_model.specs.Memory.{assigned_value, line_of}
use Rattle.nest_model.specs.Ranges.{is_instance_inside}
use Rattle.nest_model.specs.Visits.{Visit, every, instances_at}
use Rattle.nest_walk.specs.Cursors.{is_reached, visit_at}
use Rattle.nest_walk.specs.Paths.{Round}
use Rattle.nest_walk.specs.Places.{numbers_of}
use Rattle.nest_walk.specs.Texts.{StandFrom, placed_in}
use Rattle.nest_walk.specs.Texts as Texts
use Rattle.nest_walk.specs.declared.cursor.Stop.{Stop}
use Rattle.owner_partition.specs.Phases.{phases}
use Rattle.sync_plan.specs.Own.{own_cell, own_of}
use Rattle.sync_plan.specs.declared.plan.Plan.{Plan}
use Rattle.sync_plan.specs.Waits.{posts_at, waits_for}
use Rattle.spmd_model.specs.Deeds.{Deed, last_deed, loading, owned_by, printing}
use Rattle.spmd_model.specs.MachineDeeds.{own_deeds}
use Rattle.spmd_model.specs.declared.style.Style.TheVariants.{Arrive}
use Rattle.spmd_model.specs.PlanProtocols.{printed_by, registers_by}
use Rattle.spmd_model.specs.Lawful.{put}
use Rattle.spmd_model.proofs.Places.{put_moves}
use Rattle.instance_runs.specs.Executors.{CanExecute, executor_output, executor_room, executor_tree}
use Rattle.instance_runs.specs.Rooms.{statement_room, visit_room}
use Rattle.turns.specs.CounterTurns.{counter_room, CounterTurn, boundary_turns, is_counter_inside, counter_turns, works}
use Rattle.turns.specs.CountersLeft.{begun_by, counters_left, counters_tree}
use Rattle.instance_runs.specs.Stops.{IsInstance}
use Rattle.instance_runs.specs.declared.execute.Executor.{Executor}
use Rattle.turns.specs.Turns.{Turn, runs, turn_deeds}
use Rattle.turns.specs.TurnsLeft.{turns_place, turns_rounds}
use Rattle.turns.specs.declared.turns.NextOrPhase.TheVariants as Coming
use Rattle.turns.specs.declared.turns.Next.TheVariants as Nexts
use Rattle.fork_join.specs.Cursors.{ComesNext, IsCursor, IsSameCursor, cursor_left, cursor_turns}
use Rattle.fork_join.specs.Joins.{IsSafe, all_deeds, begun, protocol}
use Rattle.fork_join.specs.SeenDeeds.{phase_deed}
use Rattle.fork_join.specs.Workers.{IsOverlay, IsCounterThere, Runs, turns_begun, turns_begun_from, turns_behind}
use Rattle.fork_join.specs.declared.cursor.Cursor.{Cursor}
use Rattle.fork_join.specs.declared.overlay.Overlay.{Overlay}
use Rattle.fork_join.proofs.Acts.{print_there}
use Rattle.fork_join.proofs.Crossing.{left_at}
use Rattle.fork_join.proofs.Turning.{no_work, phase_begins, phase_next_drop, phase_there, tails, waiting_boundary}

-- ---- lists of turns

-- no instance comes first
abbrev pub NoWork : List CounterTurn → Type 0
NoWork ts = (i : Instance) (rest : List CounterTurn) → ts ≡ works i ∷ rest → ⊥

pub no_work_behind : (tree : Tree) (plan : Plan) (p n : ℕ) → NoWork (turns_behind tree plan n p)
no_work_behind tree plan p n i rest is = by (drop n (phases tree plan.cut.marks)) refl
  where
    by : (vs : List Visit) → drop n (phases tree plan.cut.marks) ≡ vs → ⊥
    by [] e = let none : turns_behind tree plan n p ≡ [] = ap (counter_turns tree plan p (suc n)) e in let clash : [] ≡ works i ∷ rest = sym none ∙ is in cc
    by (v ∷ vs) e =
        let does = posts_at tree plan p v.place v.loops in
        let whom = waits_for tree plan p v.place v.loops in
        no_work (boundary_turns (suc n - 1) does whom) (turns_begun tree plan n p) (suc n) i rest (sym (phase_begins tree plan p n v vs e) ∙ is) (waiting_boundary (suc n - 1) does whom)

same_work : (i j : Instance) (ts ss : List CounterTurn) → works i ∷ ts ≡ works j ∷ ss → i ≡ j
same_work i j ts ss is = cc

-- some of the instances that are left stand first, and the others are left behind them
pub cut_off : (is front : List Instance) (tail rest : List CounterTurn) → NoWork tail → map works is ++ tail ≡ map works front ++ rest → (more : List Instance) × (is ≡ front ++ more) × (rest ≡ map works more ++ tail)
cut_off is [] tail rest none same = (is, refl, sym same)
cut_off [] (a ∷ front) tail rest none same = absurd (none a (map works front ++ rest) same)
cut_off (i ∷ is) (a ∷ front) tail rest none same =
    let r = cut_off is front tail rest none (tails (works i) (works a) (map works is ++ tail) (map works front ++ rest) same) in
    (r.0, ap (λ x. x ∷ is) (same_work i a (map works is ++ tail) (map works front ++ rest) same) ∙ ap (λ l. a ∷ l) r.1, r.2)

-- no instance is left where another turn comes next
pub all_done : (is : List Instance) (tail : List CounterTurn) → ((i : Instance) (rest : List CounterTurn) → map works is ++ tail ≡ works i ∷ rest → ⊥) → map works is ++ tail ≡ tail
all_done [] tail none = refl
all_done (i ∷ is) tail none = absurd (none i (map works is ++ tail) refl)

pub insides : (tree : Tree) (is : List Instance) (rest : List CounterTurn) → list_all (is_counter_inside tree) (map works is ++ rest) ≡ true → (list_all (is_instance_inside tree) is ≡ true) × (list_all (is_counter_inside tree) rest ≡ true)
insides tree [] rest all = (refl, all)
insides tree (i ∷ is) rest all =
    let parts = and_parts (is_instance_inside tree i) (list_all (is_counter_inside tree) (map works is ++ rest)) all in
    let more = insides tree is rest parts.1 in
    (and_from (is_instance_inside tree i) (list_all (is_instance_inside tree) is) parts.0 more.0, more.1)

pub theirs : (tree : Tree) (is : List Instance) (rest : List CounterTurn) → All (IsCounterThere tree) (map works is ++ rest) → All (λ i. All (λ c. c < cell_count tree) (cells_of tree i)) is × All (IsCounterThere tree) rest
theirs tree [] rest all = (All-nil (λ i. All (λ c. c < cell_count tree) (cells_of tree i)), all)
theirs tree (i ∷ is) rest all =
    let more = theirs tree is rest (All-tail (IsCounterThere tree) (works i) (map works is ++ rest) all) in
    (All-cons (λ i. All (λ c. c < cell_count tree) (cells_of tree i)) i is (All-head (IsCounterThere tree) (works i) (map works is ++ rest) all) more.0, more.1)

-- ---- what an overlay keeps

abbrev pub Key : Type 0
Key = Tree × (Plan × (ℕ × (ℕ × List ℤ)))

abbrev pub key_of : Overlay → Key
key_of o = (tree_of o.program.now, (o.plan.now, (o.processor, (o.behind, o.memory.now))))

pub keeps : (o new : Overlay) → key_of new ≡ key_of o → IsOverlay (tree_of o.program.now) o.plan.now o.behind o.processor o.memory.now new
keeps o new same = record {
  program = ap (λ (k : Key). k.0) same;
  plan_is = ap (λ (k : Key). k.1.0) same;
  processor = ap (λ (k : Key). k.1.1.0) same;
  behind = ap (λ (k : Key). k.1.1.1.0) same;
  memory_is = ap (λ (k : Key). k.1.1.1.1) same;
}

pub kept_same : (tree : Tree) (plan : Plan) (n p : ℕ) (memory : List ℤ) (o new : Overlay) → IsOverlay tree plan n p memory o → IsOverlay (tree_of o.program.now) o.plan.now o.behind o.processor o.memory.now new → IsOverlay tree plan n p memory new
kept_same tree plan n p memory o new a b = record {
  program = b.program ∙ a.program;
  plan_is = b.plan_is ∙ a.plan_is;
  processor = b.processor ∙ a.processor;
  behind = b.behind ∙ a.behind;
  memory_is = b.memory_is ∙ a.memory_is;
}

least : (a b : ℕ) → IsProp (a ≤ b)
least a b = Prim.hlevel props

module _ (tree : Tree) (plan : Plan) (n p : ℕ) (memory : List ℤ) (o : Overlay) (kept : IsOverlay tree plan n p memory o) where
  pub key_is : ◌≡◌ {A = Key} (key_of o) (tree, (plan, (p, (n, memory))))
  key_is = λ i. (kept.program i, (kept.plan_is i, (kept.processor i, (kept.behind i, kept.memory_is i))))

  -- what is left, as instances have it
  pub its_phase : (place m : ℕ) → o.done.done ≡ m →
      map (phase_deed (tree_of o.program.now) o.plan.now place o.processor) (drop o.done.done (all_deeds (tree_of o.program.now) o.plan.now o.processor)) ≡ map (phase_deed tree plan place p) (drop m (all_deeds tree plan p))
  its_phase place m is = λ i. map (phase_deed (kept.program i) (kept.plan_is i) place (kept.processor i)) (drop (is i) (all_deeds (kept.program i) (kept.plan_is i) (kept.processor i)))

  pub its_left : drop o.done.done (all_deeds (tree_of o.program.now) o.plan.now o.processor) ≡ drop o.done.done (all_deeds tree plan p)
  its_left = λ i. drop o.done.done (all_deeds (kept.program i) (kept.plan_is i) (kept.processor i))

  pub its_printed : printed_by Arrive (tree_of o.program.now) o.plan.now o.processor o.done.done ≡ printed_by Arrive tree plan p o.done.done
  its_printed = λ i. printed_by Arrive (kept.program i) (kept.plan_is i) (kept.processor i) o.done.done

  pub its_registers : registers_by Arrive (tree_of o.program.now) o.plan.now o.processor o.done.done ≡ registers_by Arrive tree plan p o.done.done
  its_registers = λ i. registers_by Arrive (kept.program i) (kept.plan_is i) (kept.processor i) o.done.done

  pub its_within : o.done.done ≤ length (all_deeds tree plan p)
  unfolding all_deeds
  its_within = ∥∥₁_elim o.goes (least o.done.done (length (all_deeds tree plan p))) (λ a.
      let m = protocol (tree_of o.program.now) o.plan.now in
      let at = put (begun (tree_of o.program.now) o.plan.now o.behind) o.processor o.done.done in
      let moves = put_moves (begun (tree_of o.program.now) o.plan.now o.behind) o.processor o.done.done in
      let lawful = a.goes o.memory.now (begun (tree_of o.program.now) o.plan.now o.behind) at a.lawful refl moves in
      let within = a.safe.laws.within _ at o.processor a.below lawful in
      let count = a.safe.counted o.processor a.below in
      let same : length (all_deeds (tree_of o.program.now) o.plan.now o.processor) ≡ length (all_deeds tree plan p) = λ i. length (all_deeds (kept.program i) (kept.plan_is i) (kept.processor i)) in
      omega (arith, within, count, same, moves.here))

-- ---- a strip, and an instance

-- what is left of all is known by how much it is
pub exact_left : (all front left : List Deed) (done new : ℕ) → drop done all ≡ front ++ left → new ≤ length all → length left ≡ length (drop new all) → drop new all ≡ left
exact_left all front left done new is within same =
    let whole : all ≡ (take done all ++ front) ++ left = sym (take-append-drop done all) ∙ ap (λ l. take done all ++ l) is ∙ sym (append_assoc (take done all) front left) in
    let at : new ≡ length all - length left = omega (arith, same, within, length-drop new all) in
    ap (λ k. drop k all) at ∙ left_at all (take done all ++ front) left whole

-- where each is seen as another one
pub seen_exactly : (seen : Deed → Deed) (all front left fronts : List Deed) (done new : ℕ) → drop done all ≡ front ++ left → new ≤ length all → map seen (drop done all) ≡ fronts ++ map seen left → map seen (drop done all) ≡ fronts ++ map seen (drop new all) → drop new all ≡ left
seen_exactly seen all front left fronts done new is within was now =
    let both : length (fronts ++ map seen left) ≡ length (fronts ++ map seen (drop new all)) = ap length (sym was ∙ now) in
    let one = length-append fronts (map seen left) in
    let two = length-append fronts (map seen (drop new all)) in
    exact_left all front left done new is within (omega (arith, both, one, two, length-map left seen, length-map (drop new all) seen))

module _ (tree : Tree) (plan : Plan) (p place : ℕ) where
  -- instances, with the static phase that they are in
  pub runs_do : (is : List Instance) (rest : List Turn) → flat_map (turn_deeds tree plan p) (map (runs place) is ++ rest) ≡ flat_map (own_deeds tree (own_of tree plan place) p) is ++ flat_map (turn_deeds tree plan p) rest
  runs_do [] rest = refl
  runs_do (i ∷ is) rest =
      ap (λ l. own_deeds tree (own_of tree plan place) p i ++ l) (runs_do is rest)
      ∙ sym (append_assoc (own_deeds tree (own_of tree plan place) p i) (flat_map (own_deeds tree (own_of tree plan place) p) is) (flat_map (turn_deeds tree plan p) rest))

module _ (tree : Tree) (plan : Plan) (p : ℕ) (left : List CounterTurn) (done after : ℕ) (c d : Cursor) (x y : Executor) (r : Runs tree plan p left done c x) (sound : IsCursor d) (run : IsSameCursor c d) where
  -- instances are done, and the rest is left
  pub went_on : (rest : List CounterTurn) → cursor_left d ≡ rest → list_all (is_counter_inside tree) rest ≡ true → All (IsCounterThere tree) rest → drop after (all_deeds tree plan p) ≡ flat_map (turn_deeds tree plan p) (cursor_turns d) →
      after ≤ length (all_deeds tree plan p) → registers_by Arrive tree plan p after ≡ [] → CanExecute y → executor_tree y ≡ tree → executor_output y ≡ printed_by Arrive tree plan p after → length (executor_output y) ≤ executor_room y →
      (p ≡ 0 → length (executor_output y) + sum_by (counter_room tree) rest ≤ executor_room y) → Runs tree plan p rest after d y
  went_on rest is inside there deeds within idle can same output fits room = record {
    sound = sound;
    program = run.program ∙ r.program;
    plan_is = run.plan ∙ r.plan_is;
    processor = run.processor ∙ r.processor;
    turns = is;
    inside = inside;
    there = there;
    deeds = deeds;
    within = within;
    idle = idle;
    can = can;
    executor = same;
    output = output;
    fits = fits;
    room = room;
  }

pub less_room : (f : CounterTurn → ℕ) (front rest left : List CounterTurn) → left ≡ front ++ rest → sum_by f rest ≤ sum_by f left
less_room f front rest left is = let all = ap (sum_by f) is in omega (arith, all, sum_by-append f front rest)

pub same_room : (tree : Tree) (rounds : List Round) (stop : Stop) (at : IsInstance tree rounds stop) → visit_room tree (visit_at tree rounds stop) ≡ counter_room tree (works at.instance)
same_room tree rounds stop at = by (visit_at tree rounds stop) at.instance at.is
  where
    executed : (b : Bool) (i j : Instance) → (if b then i ∷ [] else []) ≡ j ∷ [] → j ≡ i
    executed true i j is = cc
    executed false i j is = absurd (cc)

    by : (v : Visit) (i : Instance) → instances_at (param_values tree) v ≡ i ∷ [] → visit_room tree v ≡ counter_room tree (works i)
    by v i is = on v.what is
      where
        on : (s : Statement) → instances_at (param_values tree) (record { place = v.place; first = v.first; what = s; loops = v.loops }) ≡ i ∷ [] → statement_room tree s ≡ counter_room tree (works i)
        on (do_loop head body) is = absurd (cc)
        on (work w) is = ap (λ (j : Instance). counter_room tree (works j)) (sym (executed (is_executed w v.loops (param_values tree)) (record { statement = v.first; what = w; loops = v.loops }) i is))
        on (continue line) is = absurd (cc)

-- another processor than the first prints nothing
pub no_print : (tree : Tree) (plan : Plan) (safe : IsSafe tree plan) (place p n : ℕ) (i : Instance) (rest : List Deed) → p < plan.workers → drop n (all_deeds tree plan p) ≡ own_deeds tree (own_of tree plan place) p i ++ rest → p ≢ 0 → counter_room tree (works i) ≡ 0
no_print tree plan safe place p n i rest below is other = by i.what refl
  where
    by : (w : Work) → i.what ≡ w → counter_room tree (works i) ≡ 0
    by (assign a) e = ap (λ (w : Work). statement_room tree (work w)) e
    by (print q) e =
        let goes = own_cell (own_of tree plan place) p in
        let loads = map loading (map goes (loads_of tree i)) in
        let last = last_deed (option_map goes (store_of tree i)) false (assigned_value tree i) (line_of tree i) in
        let none : store_of tree i ≡ None = ap (λ (w : Work). store_of tree (record { statement = i.statement; what = w; loops = i.loops })) e in
        let prints : last ≡ printing (line_of tree i) = ap (λ o. last_deed (option_map goes o) false (assigned_value tree i) (line_of tree i)) none in
        let at : slice_get (drop n (all_deeds tree plan p)) (length loads + 0) ≡ Some last = ap (λ l. slice_get l (length loads + 0)) (is ∙ append_assoc loads (last ∷ []) rest) ∙ get-behind loads ((last ∷ []) ++ rest) 0 in
        let act = print_there tree plan safe p (n + (length loads + 0)) below (line_of tree i) (sym (get_drop (all_deeds tree plan p) n (length loads + 0)) ∙ at ∙ ap (λ d. Some d) prints) in
        absurd (other (safe.laws.prints_of_first p (n + (length loads + 0)) act.0 below act.1))
      where
        get_drop : (xs : List Deed) (a b : ℕ) → slice_get (drop a xs) b ≡ slice_get xs (a + b)
        get_drop [] zero b = refl
        get_drop [] (suc a) b = refl
        get_drop (x ∷ xs) zero b = let k : b ≡ 0 + b = omega arith in ap (slice_get (x ∷ xs)) k
        get_drop (x ∷ xs) (suc a) b = let k : suc (a + b) ≡ suc a + b = omega arith in get_drop xs a b ∙ ap (slice_get (x ∷ xs)) k

-- the instance that comes next
pub record NextHere (tree : Tree) (plan : Plan) (n p done : ℕ) (left : List Instance) (c : Cursor) (x : Executor) (stop : Stop) (rounds : List Round) : Type 0 where
  pub at : IsInstance (executor_tree x) rounds stop
  pub inside : is_instance_inside (executor_tree x) at.instance ≡ true
  pub there : All (λ c. c < cell_count tree) (cells_of tree at.instance)
  pub later : List Turn
  pub turns : cursor_turns c ≡ runs (turns_place c.turns) at.instance ∷ later
  pub gone : drop done (all_deeds tree plan p) ≡ own_deeds tree (own_of tree plan (turns_place c.turns)) p at.instance ++ flat_map (turn_deeds tree plan p) later
  pub more : List Instance
  pub rest : List CounterTurn
  pub is : cursor_left c ≡ works at.instance ∷ rest
  pub split : rest ≡ map works more ++ turns_behind tree plan (suc n) p
  pub rest_inside : list_all (is_counter_inside tree) rest ≡ true
  pub rest_there : All (IsCounterThere tree) rest
  pub room : visit_room (executor_tree x) (visit_at (executor_tree x) rounds stop) ≡ counter_room tree (works at.instance)

pub next_here : (tree : Tree) (plan : Plan) (n p done : ℕ) (left : List Instance) (c : Cursor) (x : Executor) (stop : Stop) (rounds : List Round) → Runs tree plan p (map works left ++ turns_behind tree plan (suc n) p) done c x → turns_rounds c.turns ≡ rounds
    → ComesNext c (Coming.Turn (Nexts.Work stop)) → NextHere tree plan n p done left c x stop rounds
next_here tree plan n p done left c x stop rounds r same comes =
    let own = comes.1.0 in
    let i = own.instance in
    let later = comes.1.1.0 in
    let place = turns_place c.turns in
    let plain = comes.1.2.next in
    let left_is : cursor_left c ≡ works plain.0.instance ∷ plain.1 = ap (λ b. begun_by b ++ counters_left c.turns.counters) comes.0 ∙ plain.2 in
    let one : i ∷ [] ≡ plain.0.instance ∷ [] = sym own.is ∙ plain.0.is in
    let only : plain.0.instance ≡ i = cc in
    let next_is : cursor_left c ≡ works i ∷ plain.1 = left_is ∙ ap (λ j. works j ∷ plain.1) only in
    let rest = plain.1 in
    let tail = turns_behind tree plan (suc n) p in
    let tree_is : counters_tree c.turns.counters ≡ tree = r.sound.sound.same_tree ∙ r.program in
    let both : (counters_tree c.turns.counters, turns_rounds c.turns) ≡ (executor_tree x, rounds) = λ k. ((tree_is ∙ sym r.executor) k, same k) in
    let here : IsInstance (executor_tree x) rounds stop = record {
      instance = i;
      is = subst (λ (k : Tree × List Round). instances_at (param_values k.0) (visit_at k.0 k.1 stop) ≡ i ∷ []) both own.is;
      reached = subst (λ (k : Tree × List Round). IsTrue (is_reached k.0 k.1 stop)) both own.reached;
      text = subst (λ (k : Tree × List Round). StandFrom (Texts.works k.0) stop.first (placed_in every (numbers_of k.1) (statement_of stop.item.now))) both own.text;
    } in
    let stands : map works left ++ tail ≡ map works (i ∷ []) ++ rest = sym r.turns ∙ next_is in
    let cut = cut_off left (i ∷ []) tail rest (no_work_behind tree plan p (suc n)) stands in
    let all = insides tree (i ∷ []) rest (subst (λ (l : List CounterTurn). list_all (is_counter_inside tree) l ≡ true) stands r.inside) in
    let cells = theirs tree (i ∷ []) rest (subst (All (IsCounterThere tree)) stands r.there) in
    let first = and_parts (is_instance_inside tree i) true all.0 in
    record {
      at = here;
      inside = ap (λ t. is_instance_inside t i) r.executor ∙ first.0;
      there = All-head (λ j. All (λ c. c < cell_count tree) (cells_of tree j)) i [] cells.0;
      later = later;
      turns = comes.1.1.1;
      gone = r.deeds ∙ ap (flat_map (turn_deeds tree plan p)) comes.1.1.1;
      more = cut.0;
      rest = rest;
      is = next_is;
      split = cut.2;
      rest_inside = all.1;
      rest_there = cells.1;
      room = same_room (executor_tree x) rounds stop here ∙ ap (λ t. counter_room t (works i)) r.executor;
    }

-- there is room for its line
pub next_room : (tree : Tree) (plan : Plan) (safe : IsSafe tree plan) (n p done : ℕ) (left : List Instance) (c : Cursor) (x : Executor) (stop : Stop) (rounds : List Round) → Runs tree plan p (map works left ++ turns_behind tree plan (suc n) p) done c x → p < plan.workers
    → (h : NextHere tree plan n p done left c x stop rounds) → length (executor_output x) + visit_room (executor_tree x) (visit_at (executor_tree x) rounds stop) ≤ executor_room x
next_room tree plan safe n p done left c x stop rounds r below h = elim (cases_eq p 0) [
  | inl first ↦
      let most = r.room first in
      let all = ap (sum_by (counter_room tree)) (sym r.turns ∙ h.is) in
      let one = sum_by-cons (counter_room tree) (works h.at.instance) h.rest in
      let here = h.room in
      omega (arith, most, all, one, here)
  | inr other ↦
      let none = no_print tree plan safe (turns_place c.turns) p done h.at.instance (flat_map (turn_deeds tree plan p) h.later) below h.gone other in
      let fits = r.fits in
      let here = h.room in
      omega (arith, none, fits, here)
]

below_prop : (a b : ℕ) → IsProp (a < b)
below_prop a b = Prim.hlevel props

pub its_below : (o : Overlay) → o.processor < o.plan.now.workers
its_below o = ∥∥₁_elim o.goes (below_prop o.processor o.plan.now.workers) (λ a. a.below)

-- behind a boundary the phase's instances are left
pub begun_works : (tree : Tree) (plan : Plan) (n p : ℕ) → n < length (phases tree plan.cut.marks) → (own : List Instance) × (turns_begun tree plan n p ≡ map works own ++ turns_behind tree plan (suc n) p)
begun_works tree plan n p lt =
    let v = phase_there n (phases tree plan.cut.marks) lt in
    let own = owned_by tree (slice_get plan.anchors (v.0.place - 1)) plan.workers p v.0 in
    (own, ap (turns_begun_from tree plan p (suc n)) v.2 ∙ ap (λ vs. map works own ++ counter_turns tree plan p (suc (suc n)) vs) (sym (phase_next_drop n (phases tree plan.cut.marks) v.0 v.1 v.2)))
