-- A worker that has done nothing.
use Rattle.std.proofs.Common.{◌≡◌, ◌≢◌, ◌==◌, ℕ, zero, suc, ◌+◌, ◌-◌, ◌<◌, ◌≤◌, nat_lt, pos, Bool, true, false, true≢false, List, [], ◌∷◌, ◌++◌, map, length, drop, replicate, Option, Some, None, refl, sym, ◌∙◌, ap, inl, inr, arith, sum_by, append_assoc, cond}
use Rattle.std.specs.Prelude.{slice_get}
use Rattle.std.specs.List.{All, filter, list_all, range_with_len}
use Rattle.std.specs.Option.{option_map}
use Rattle.std.proofs.lemmas.Bool.{and_from, and_parts, cases_Bool, cases_eq, lt-ltb}
use Rattle.std.proofs.lemmas.List.Elements.{All-head, All-tail}
use Rattle.std.proofs.lemmas.List.Folds.{list_all-append}
use Rattle.std.proofs.lemmas.List.Sums.{sum_by-cons}
use Rattle.nest_tree.specs.Layout.{cell_count}
use Rattle.nest_tree.specs.Tree.{Work, assign, print, Tree, param_values, work}
use Rattle.nest_tree.specs.WellFormed.{IsWellFormed}
use Rattle.nest_model.specs.Accesses.{cells_of, loads_of, store_of}
use Rattle.nest_model.specs.Instances.{Instance}
use Rattle.nest_model.specs.Memory.{assigned_value, line_of}
use Rattle.nest_model.specs.Ranges.{IsInRange, is_instance_inside}
use Rattle.nest_model.specs.Visits.{Visit}
use Rattle.owner_partition.specs.declared.anchor.Anchor.{Anchor}
use Rattle.owner_partition.specs.Owners.{anchor_owner}
use Rattle.owner_partition.specs.Phases.{visit_instances, phases}
use Rattle.sync_plan.specs.Fit.{IsFit}
use Rattle.sync_plan.specs.Own.{own_cell, own_of}
use Rattle.sync_plan.specs.Waits.{posts_at, waits_for}
use Rattle.sync_plan.specs.declared.plan.Plan.{Plan}
use Rattle.spmd_model.specs.Deeds.{Deed, last_deed, loading, owned_by, printing}
use Rattle.spmd_model.specs.MachineDeeds.{own_deeds}
use Rattle.spmd_model.proofs.CellsThere.{cells_there}
use Rattle.spmd_model.proofs.PhaseJobs.{all_fine}
use Rattle.spmd_model.proofs.TripJobs.{IsFineIn}
use Rattle.spmd_model.specs.Protocols.{held_at}
use Rattle.spmd_model.proofs.ProtocolLists.{get_drop}
use Rattle.instance_runs.specs.Executors.{CanExecute, executor_output, executor_room, executor_tree}
use Rattle.instance_runs.specs.Rooms.{longest_output, statement_room}
use Rattle.turns.specs.CounterTurns.{counter_room, CounterTurn, awaits, begins, boundary_turns, phase_turns, posts, counter_turns, works}
use Rattle.turns.specs.Turns.{Turn, sets, waits, runs, closes, first_standing, turn_room}
use Rattle.turns.specs.TurnsLeft.{AreSound, beginnings_left, turns_left, turns_plan, turns_processor, turns_style, turns_tree}
use Rattle.turns.proofs.TurnRooms.{turn_rooms, turn_runs}
use Rattle.fork_join.proofs.Working.{first_room}
use Rattle.shared_words.specs.Places.{settled_at}
use Rattle.shared_words.specs.Calls.{first_seat}
use Rattle.shared_words.specs.Homes.{CellView, Home, protocol_at}
use Rattle.spmd_workers.specs.Held.{AreHeld}
use Rattle.spmd_workers.specs.Legs.{AreAnswered}
use Rattle.spmd_workers.specs.Places.{deeds_at, deeds_in, held_cells, own_place, plan_at, printed_behind, registers_behind, style_at, tree_at, turns_at}
use Rattle.spmd_workers.specs.Walks.{IsWalk, is_instance_there, is_turn_there, walk_place}
use Rattle.spmd_workers.specs.declared.walk.Walk.{Walk}
use Rattle.spmd_workers.proofs.Acts.{print_there}
use Rattle.spmd_workers.proofs.Steps.{no_post_between}
use Rattle.spmd_workers.proofs.Walks.{drop_place, place_is}

-- ---- instances of the counter turns are the program's, each access and each cell

-- the same of a counter turn
abbrev is_counter_there : Tree → CounterTurn → Bool
is_counter_there tree (posts number) = true
is_counter_there tree (awaits on wanted) = true
is_counter_there tree (begins e) = true
is_counter_there tree (works i) = is_instance_there tree i

all_below : (cells : ℕ) (cs : List ℕ) → All (λ c. c < cells) cs → list_all (λ c. nat_lt c cells) cs ≡ true
all_below cells [] all = refl
all_below cells (c ∷ cs) all = and_from (nat_lt c cells) (list_all (λ d. nat_lt d cells) cs) (lt-ltb c cells (All-head (λ d. d < cells) c cs all)) (all_below cells cs (All-tail (λ d. d < cells) c cs all))

module _ (tree : Tree) (plan : Plan) (formed : IsWellFormed tree) (fits : IsFit tree plan) (ranges : IsInRange tree) where
  fine_there : (v : Visit) (is : List Instance) → All (IsFineIn tree plan v) is → list_all (is_instance_there tree) is ≡ true
  fine_there v [] all = refl
  fine_there v (i ∷ is) all =
      let f = All-head (IsFineIn tree plan v) i is all in
      let here = and_from (is_instance_inside tree i) (list_all (λ c. nat_lt c (cell_count tree)) (cells_of tree i)) f.inside (all_below (cell_count tree) (cells_of tree i) (cells_there tree i formed f.good f.inside)) in
      and_from (is_instance_there tree i) (list_all (is_instance_there tree) is) here (fine_there v is (All-tail (IsFineIn tree plan v) i is all))

  some_there : (test : Instance → Bool) (is : List Instance) → list_all (is_instance_there tree) is ≡ true → list_all (is_instance_there tree) (filter test is) ≡ true
  some_there test [] all = refl
  some_there test (i ∷ is) all =
      let parts = and_parts (is_instance_there tree i) (list_all (is_instance_there tree) is) all in
      let later = some_there test is parts.1 in
      elim (cases_Bool (test i)) [
        | inl holds ↦ ap (λ b. list_all (is_instance_there tree) (cond b (i ∷ filter test is) (filter test is))) holds ∙ and_from (is_instance_there tree i) (list_all (is_instance_there tree) (filter test is)) parts.0 later
        | inr fails ↦ ap (λ b. list_all (is_instance_there tree) (cond b (i ∷ filter test is) (filter test is))) fails ∙ later
      ]

  owned_there : (p : ℕ) (v : Visit) (o : Option Anchor) → list_all (is_instance_there tree) (visit_instances (param_values tree) v) ≡ true → list_all (is_instance_there tree) (owned_by tree o plan.workers p v) ≡ true
  owned_there p v None all = refl
  owned_there p v (Some a) all = some_there (λ (i : Instance). anchor_owner a plan.workers i.loops (param_values tree) == p) (visit_instances (param_values tree) v) all

  works_there : (is : List Instance) → list_all (is_instance_there tree) is ≡ true → list_all (is_counter_there tree) (map works is) ≡ true
  works_there [] all = refl
  works_there (i ∷ is) all =
      let parts = and_parts (is_instance_there tree i) (list_all (is_instance_there tree) is) all in
      and_from (is_instance_there tree i) (list_all (is_counter_there tree) (map works is)) parts.0 (works_there is parts.1)

  awaits_there : (n : ℕ) (qs : List ℕ) → list_all (is_counter_there tree) (map (λ q. awaits q n) qs) ≡ true
  awaits_there n [] = refl
  awaits_there n (q ∷ qs) = awaits_there n qs

  boundary_there : (n : ℕ) (does : Bool) (qs : List ℕ) → list_all (is_counter_there tree) (boundary_turns n does qs) ≡ true
  boundary_there n true qs = awaits_there n qs
  boundary_there n false qs = awaits_there n qs

  both_there : (xs ys : List CounterTurn) → list_all (is_counter_there tree) xs ≡ true → list_all (is_counter_there tree) ys ≡ true → list_all (is_counter_there tree) (xs ++ ys) ≡ true
  both_there xs ys first second = list_all-append (is_counter_there tree) xs ys ∙ and_from (list_all (is_counter_there tree) xs) (list_all (is_counter_there tree) ys) first second

  phases_there : (p e : ℕ) (vs : List Visit) → ((k : ℕ) (v : Visit) → slice_get vs k ≡ Some v → list_all (is_instance_there tree) (visit_instances (param_values tree) v) ≡ true) → list_all (is_counter_there tree) (counter_turns tree plan p e vs) ≡ true
  phases_there p e [] each = refl
  phases_there p e (v ∷ vs) each =
      let boundary = boundary_turns (e - 1) (posts_at tree plan p v.place v.loops) (waits_for tree plan p v.place v.loops) in
      let own = owned_by tree (slice_get plan.anchors (v.place - 1)) plan.workers p v in
      both_there (phase_turns tree plan p e v) (counter_turns tree plan p (suc e) vs)
      (both_there boundary (begins e ∷ map works own) (boundary_there (e - 1) (posts_at tree plan p v.place v.loops) (waits_for tree plan p v.place v.loops)) (works_there own (owned_there p v (slice_get plan.anchors (v.place - 1)) (each 0 v refl))))
      (phases_there p (suc e) vs (λ k u at. each (suc k) u at))

  pub turns_there : (p : ℕ) → list_all (is_counter_there tree) (counter_turns tree plan p 1 (phases tree plan.cut.marks)) ≡ true
  turns_there p = phases_there p 1 (phases tree plan.cut.marks) (λ k v at. fine_there v (visit_instances (param_values tree) v) (all_fine tree plan k v formed fits ranges at))

-- ---- room for what is printed

module _ (h : Home) (held : AreHeld h) (p : ℕ) (below : p < (protocol_at h).workers) where
  get_behind : (xs ys : List Deed) (d : Deed) → slice_get (xs ++ (d ∷ ys)) (length xs) ≡ Some d
  get_behind [] ys d = refl
  get_behind (x ∷ xs) ys d = get_behind xs ys d

  -- another processor than the first prints nothing
  instance_none : p ≢ 0 → (n place : ℕ) (i : Instance) (rest : List Deed) → drop n (deeds_at h p) ≡ own_deeds (tree_at h) (own_of (tree_at h) (plan_at h) place) p i ++ rest → counter_room (tree_at h) (works i) ≡ 0
  instance_none other n place i rest is = by i.what refl
    where
      by : (w : Work) → i.what ≡ w → counter_room (tree_at h) (works i) ≡ 0
      by (assign a) e = ap (λ (w : Work). statement_room (tree_at h) (work w)) e
      by (print q) e =
          let loads = map loading (map (own_cell (own_of (tree_at h) (plan_at h) place) p) (loads_of (tree_at h) i)) in
          let last = last_deed (option_map (own_cell (own_of (tree_at h) (plan_at h) place) p) (store_of (tree_at h) i)) false (assigned_value (tree_at h) i) (line_of (tree_at h) i) in
          let none : store_of (tree_at h) i ≡ None = ap (λ (w : Work). store_of (tree_at h) (record { statement = i.statement; what = w; loops = i.loops })) e in
          let prints : last ≡ printing (line_of (tree_at h) i) = ap (λ o. last_deed (option_map (own_cell (own_of (tree_at h) (plan_at h) place) p) o) false (assigned_value (tree_at h) i) (line_of (tree_at h) i)) none in
          let at : slice_get (drop n (deeds_at h p)) (length loads) ≡ Some last = ap (λ l. slice_get l (length loads)) (is ∙ append_assoc loads (last ∷ []) rest) ∙ get_behind loads rest last in
          let act = print_there h held p below (n + length loads) (line_of (tree_at h) i) (sym (get_drop (deeds_at h p) n (length loads)) ∙ at ∙ ap (λ d. Some d) prints) in
          absurd (other (held.laws.prints_of_first p (n + length loads) act.0 below act.1))

  turn_none : p ≢ 0 → (front : List Turn) (t : Turn) (ts : List Turn) → turns_at h p ≡ front ++ (t ∷ ts) → turn_room (tree_at h) t ≡ 0
  turn_none other front (sets word number) ts is = refl
  turn_none other front (waits word on wanted) ts is = refl
  turn_none other front (closes place k) ts is = refl
  turn_none other front (runs place i) ts is = instance_none other (length (deeds_at h p) - length (deeds_in h p (runs place i ∷ ts))) place i (deeds_in h p ts) (drop_place h p front (runs place i ∷ ts) is)

  no_room : p ≢ 0 → (front ts : List Turn) → turns_at h p ≡ front ++ ts → sum_by (turn_room (tree_at h)) ts ≡ 0
  no_room other front [] is = refl
  no_room other front (t ∷ ts) is =
      let here = turn_none other front t ts is in
      let more = no_room other (front ++ t ∷ []) ts (is ∙ sym (append_assoc front (t ∷ []) ts)) in
      let both = sum_by-cons (turn_room (tree_at h)) t ts in
      omega (arith, here, more, both)

  -- so there is room for all that it prints
  pub room_for : (room : ℕ) → (p ≡ 0 → longest_output (tree_at h) ≤ room) → sum_by (turn_room (tree_at h)) (turns_at h p) ≤ room
  room_for room wide = elim (cases_eq p 0) [
    | inl first ↦
        let some : 0 < (plan_at h).workers = omega (arith, below) in
        let most = first_room (tree_at h) (plan_at h) some in
        let plain = turn_rooms (style_at h) (tree_at h) (plan_at h) p first_standing (counter_turns (tree_at h) (plan_at h) p 1 (phases (tree_at h) (plan_at h).cut.marks)) in
        let all = ap (λ q. sum_by (counter_room (tree_at h)) (counter_turns (tree_at h) (plan_at h) q 1 (phases (tree_at h) (plan_at h).cut.marks))) first in
        let enough = wide first in
        omega (arith, most, plain, all, enough)
    | inr other ↦ let none = no_room other [] (turns_at h p) refl in omega (arith, none)
  ]

-- own cells hold 0 where nothing is done
zeros : (h : Home) (p : ℕ) (a n : ℕ) → map (λ k. held_at (protocol_at h) p (own_place h p k) 0) (range_with_len a n) ≡ replicate n (pos 0)
zeros h p a zero = refl
zeros h p a (suc n) = ap (λ l. pos 0 ∷ l) (zeros h p (a + 1) n)

module _ (x : Walk) (held : AreHeld x.seat.home) (seat : x.seat ≡ first_seat x.seat.home x.seat.processor) (below : x.seat.processor < (protocol_at x.seat.home).workers) (sound : AreSound x.turns) (turns : turns_left x.turns ≡ turns_at x.seat.home x.seat.processor)
    (begins : beginnings_left x.turns ≡ range_with_len 1 (length (phases (tree_at x.seat.home) (plan_at x.seat.home).cut.marks))) (tree : turns_tree x.turns ≡ tree_at x.seat.home) (plan : turns_plan x.turns ≡ plan_at x.seat.home)
    (processor : turns_processor x.turns ≡ x.seat.processor) (style : turns_style x.turns ≡ style_at x.seat.home) (own : x.own ≡ replicate 32 (pos 0)) (can : CanExecute x.executor) (executes : executor_tree x.executor ≡ tree_at x.seat.home)
    (output : executor_output x.executor ≡ []) (wide : x.seat.processor ≡ 0 → longest_output (tree_at x.seat.home) ≤ executor_room x.executor) (answered : x.answered ≡ 0) (ended : x.ended ≡ false) where
  abbrev h : Home
  h = x.seat.home

  abbrev p : ℕ
  p = x.seat.processor

  place : walk_place x ≡ 0
  place = place_is h p [] (turns_left x.turns) (sym turns)

  position : x.seat.position ≡ settled_at (protocol_at h) p 0
  position = ap (λ (v : CellView). v.position) seat

  -- no post stands in front of it
  none_answered : AreAnswered x.seat x.answered
  none_answered n number lt e join = absurd (no_post_between (cell_count (tree_at h)) ((protocol_at h).acts p) 0 n number (omega arith) (omega (arith, lt, position)) e)

  pub first_ready : IsWalk x
  first_ready = record {
    front = [];
    behind = sym turns;
    begun = [];
    begins = sym begins;
    sound = sound;
    tree = tree;
    plan = plan;
    processor = processor;
    style = style;
    settled = ap (settled_at (protocol_at h) p) place ∙ sym position;
    idle = ap (registers_behind x.seat) place ∙ held.laws.empty_first p;
    own = own ∙ sym (ap (held_cells h p) place ∙ zeros h p 0 32);
    can = can;
    executes = executes;
    output = output ∙ sym (ap (printed_behind x.seat) place ∙ held.laws.printed_first p);
    room = (
        let none : length (executor_output x.executor) ≡ 0 = ap (λ (l : List ℕ). length l) output in
        let all = ap (sum_by (turn_room (tree_at h))) turns in
        let fits = room_for h held p below (executor_room x.executor) wide in
        omega (arith, none, all, fits)
        );
    there = ap (list_all (is_turn_there (tree_at h))) turns ∙ turn_runs (style_at h) (tree_at h) (plan_at h) p (is_instance_there (tree_at h)) (is_counter_there (tree_at h)) (λ n. refl) (λ on n. refl) (λ e. refl) (λ i. refl) first_standing (counter_turns (tree_at h) (plan_at h) p 1 (phases (tree_at h) (plan_at h).cut.marks)) ∙ turns_there (tree_at h) (plan_at h) held.run.formed held.run.fits held.run.ranges p;
    answered = none_answered;
    over = λ e. absurd (true≢false (sym e ∙ ended));
  }
