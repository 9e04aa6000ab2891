-- CounterTurns that a walk has done, deed by deed, among which is no post of a counter.
use Rattle.std.proofs.Common.{◌≡◌, get_or, ℕ, zero, suc, ◌+◌, ◌-◌, ◌<◌, ◌≤◌, ℤ, false, List, [], ◌∷◌, ◌++◌, length, map, drop, Option, Some, None, sym, ◌∙◌, ap, subst, ⊎_elim, arith, sum_by, length-append, length-drop}
use Rattle.std.specs.Prelude.{slice_get}
use Rattle.std.proofs.lemmas.Bool.{cases_lt}
use Rattle.std.proofs.lemmas.Grind.{flat_map-append}
use Rattle.std.proofs.lemmas.Option.{slice_get_within, slice_get-get_or}
use Rattle.nest_tree.specs.Layout.{cell_count}
use Rattle.spmd_model.specs.Deeds.{Deed, deed_of, awaiting, last_deed, adding, loading, posting, printing, storing}
use Rattle.spmd_model.specs.Machines.{machine_by}
use Rattle.spmd_model.specs.Timelines.{counter}
use Rattle.spmd_model.specs.Acts.{post}
use Rattle.spmd_model.specs.Protocols.{act_at}
use Rattle.spmd_model.proofs.ProtocolLists.{get_drop}
use Rattle.instance_runs.specs.Executors.{CanExecute, executor_output, executor_room, executor_tree}
use Rattle.turns.specs.Turns.{Turn, turn_deeds, turn_room}
use Rattle.turns.specs.TurnsLeft.{beginnings_left, turns_left}
use Rattle.shared_words.specs.Places.{settled_at}
use Rattle.shared_words.specs.Homes.{Home, protocol_at}
use Rattle.spmd_workers.specs.Held.{AreHeld}
use Rattle.spmd_workers.specs.Legs.{AreAnswered, IsFurther, IsSameSeat}
use Rattle.spmd_workers.specs.Places.{deeds_at, deeds_in, held_cells, left_behind, place_of, plan_at, printed_behind, registers_behind, style_at, tree_at, turns_at}
use Rattle.spmd_workers.specs.Walks.{GoesTo, IsWalk, LeadsOn, walk_place}
use Rattle.spmd_workers.specs.declared.walk.Walk.{Walk}
use Rattle.spmd_workers.proofs.SharedSteps.{Shows, left_shows, on_further}
use Rattle.spmd_workers.proofs.Steps.{answered_more, no_post_between}
use Rattle.spmd_workers.proofs.Walks.{HasCome, Passes, drop_here, its_worker, passed_ready, place_more, whole_deeds}

-- a deed that is no post
abbrev pub IsNoPost : Deed → Type 0
IsNoPost (posting word number) = ⊥
IsNoPost (awaiting word on wanted) = Unit {0}
IsNoPost (loading cell) = Unit {0}
IsNoPost (storing cell value) = Unit {0}
IsNoPost (adding cell value) = Unit {0}
IsNoPost (printing line) = Unit {0}

abbrev pub AreNoPosts : List Deed → Type 0
AreNoPosts [] = Unit {0}
AreNoPosts (d ∷ ds) = IsNoPost d × AreNoPosts ds

pub no_posts_append : (xs ys : List Deed) → AreNoPosts xs → AreNoPosts ys → AreNoPosts (xs ++ ys)
no_posts_append [] ys a b = b
no_posts_append (x ∷ xs) ys a b = (a.0, no_posts_append xs ys a.1 b)

pub loads_no_posts : (cells : List ℕ) → AreNoPosts (map loading cells)
loads_no_posts [] = tt
loads_no_posts (c ∷ cells) = (tt, loads_no_posts cells)

pub last_no_post : (o : Option ℕ) (value : List ℤ → ℤ) (line : List ℤ → List ℕ) → IsNoPost (last_deed o false value line)
last_no_post None value line = tt
last_no_post (Some c) value line = tt

pub no_post_in : (ds more : List Deed) (k number : ℕ) → AreNoPosts ds → k < length ds → slice_get (ds ++ more) k ≡ Some (posting counter number) → ⊥
no_post_in [] more k number none lt is = absurd (omega (arith, lt))
no_post_in (x ∷ ds) more zero number none lt is = let same : x ≡ posting counter number = cc in subst IsNoPost same none.0
no_post_in (x ∷ ds) more (suc k) number none lt is = no_post_in ds more k number none.1 (omega (arith, lt)) is

get_or_there : (ds : List Deed) (k : ℕ) → k < length ds → (d : Deed) × (slice_get ds k ≡ Some d)
get_or_there ds k inside = let d = get_or ds k (printing (λ _. [])) in (d, slice_get-get_or ds k (printing (λ _. [])) inside)

-- no post of a counter stands among the acts of turns that have none, and those that are passed behind them
pub none_among : (x : Walk) (ready : IsWalk x) → AreHeld x.seat.home → (ts rest : List Turn) → turns_left x.turns ≡ ts ++ rest → AreNoPosts (deeds_in x.seat.home x.seat.processor ts) → (k number : ℕ) → walk_place x ≤ k
    → k < walk_place x + length (deeds_in x.seat.home x.seat.processor ts) → act_at (protocol_at x.seat.home) x.seat.processor k ≡ Some (post counter number) → ⊥
none_among x ready held ts rest turns none k number le lt e =
    let h = x.seat.home in
    let p = x.seat.processor in
    let below = its_worker x ready in
    let ds = deeds_at h p in
    let inside : k < length ds = (let low = slice_get_within ((protocol_at h).acts p) k (post counter number) e in let many = held.count p below in omega (arith, low, many)) in
    let d = get_or_there ds k inside in
    let a = held.acts p k d.0 below d.1 in
    let both : Some a.0 ≡ Some (post counter number) = sym a.1 ∙ e in
    let act : a.0 ≡ post counter number = cc in
    let deed : d.0 ≡ posting counter number = sym a.2 ∙ ap (deed_of (machine_by (style_at h) (tree_at h) (plan_at h))) act in
    let j : walk_place x + (k - walk_place x) ≡ k = omega (arith, le) in
    let here : drop (walk_place x) ds ≡ deeds_in h p ts ++ deeds_in h p rest = drop_here x ready ∙ ap (deeds_in h p) turns ∙ flat_map-append (turn_deeds (tree_at h) (plan_at h) p) ts rest in
    let among : slice_get (deeds_in h p ts ++ deeds_in h p rest) (k - walk_place x) ≡ Some (posting counter number) =
    ap (λ l. slice_get l (k - walk_place x)) (sym here) ∙ get_drop ds (walk_place x) (k - walk_place x) ∙ ap (slice_get ds) j ∙ d.1 ∙ ap (λ z. Some z) deed in
    no_post_in (deeds_in h p ts) (deeds_in h p rest) (k - walk_place x) number none (omega (arith, le, lt)) among

pub still_answered : (x y : Walk) (ready : IsWalk x) → AreHeld x.seat.home → (ts rest : List Turn) → turns_left x.turns ≡ ts ++ rest → AreNoPosts (deeds_in x.seat.home x.seat.processor ts) → IsSameSeat x.seat y.seat
    → settled_at (protocol_at x.seat.home) x.seat.processor (walk_place x + length (deeds_in x.seat.home x.seat.processor ts)) ≡ y.seat.position → y.answered ≡ x.answered → AreAnswered y.seat y.answered
still_answered x y ready held ts rest turns none same settles kept =
    let h = x.seat.home in
    let p = x.seat.processor in
    let n = walk_place x + length (deeds_in h p ts) in
    answered_more x.seat y.seat x.answered y.answered same ready.answered (omega (arith, kept)) (λ k number low high e j. ⊎_elim
    (λ less. absurd (none_among x ready held ts rest turns none k number (let at = ready.settled in omega (arith, at, low)) less e))
    (λ le. absurd (no_post_between (cell_count (tree_at h)) ((protocol_at h).acts p) n k number le (omega (arith, high, settles)) e)) (cases_lt k n))

-- ---- behind them

module _ (x : Walk) (ready : IsWalk x) (held : AreHeld x.seat.home) (y : Walk) (ts : List Turn) (done : ℕ) (same : IsSameSeat x.seat y.seat) (turns : turns_left x.turns ≡ ts ++ turns_left y.turns) (none : AreNoPosts (deeds_in x.seat.home x.seat.processor ts))
    (as_many : length (left_behind x.seat y.seat y.own (place_of y.seat x.turns + done)) ≡ length (deeds_in x.seat.home x.seat.processor (turns_left y.turns))) where
  abbrev h : Home
  h = x.seat.home

  abbrev p : ℕ
  p = x.seat.processor

  abbrev n : ℕ
  n = walk_place x + length (deeds_in h p ts)

  split : turns_at h p ≡ ready.front ++ (ts ++ turns_left y.turns)
  split = ready.behind ∙ ap (λ l. ready.front ++ l) turns

  few : length (deeds_in h p (turns_left y.turns)) ≤ length (deeds_at h p)
  few =
      let all : length (deeds_at h p) ≡ length (deeds_in h p ready.front) + length (deeds_in h p (ts ++ turns_left y.turns)) = whole in
      let more : length (deeds_in h p (ts ++ turns_left y.turns)) ≡ length (deeds_in h p ts) + length (deeds_in h p (turns_left y.turns)) = parts in
      omega (arith, all, more)
    where
      whole : length (deeds_at h p) ≡ length (deeds_in h p ready.front) + length (deeds_in h p (ts ++ turns_left y.turns))
      whole = ap (λ (l : List Deed). length l) (whole_deeds h p ready.front (ts ++ turns_left y.turns) split) ∙ length-append (deeds_in h p ready.front) (deeds_in h p (ts ++ turns_left y.turns))

      parts : length (deeds_in h p (ts ++ turns_left y.turns)) ≡ length (deeds_in h p ts) + length (deeds_in h p (turns_left y.turns))
      parts = ap (λ (l : List Deed). length l) (flat_map-append (turn_deeds (tree_at h) (plan_at h) p) ts (turns_left y.turns)) ∙ length-append (deeds_in h p ts) (deeds_in h p (turns_left y.turns))

  abbrev m : ℕ
  m = place_of y.seat x.turns + done

  same_deeds : deeds_at y.seat.home y.seat.processor ≡ deeds_at h p
  same_deeds = λ i. deeds_at (same.home i) (same.processor i)

  shown : Shows x.seat y.seat y.own m × (left_behind x.seat y.seat y.own m ≡ drop m (deeds_at y.seat.home y.seat.processor))
  shown = left_shows x.seat y.seat y.own m (let long = ap (λ (l : List Deed). length l) same_deeds in let low = few in let many = as_many in omega (arith, long, low, many))

  pub placed : m ≡ n
  placed =
      let size : length (drop m (deeds_at y.seat.home y.seat.processor)) ≡ length (deeds_in h p (turns_left y.turns)) = ap (λ (l : List Deed). length l) (sym shown.1) ∙ as_many in
      let dropped = length-drop m (deeds_at y.seat.home y.seat.processor) in
      let within = shown.0.within in
      let long = ap (λ (l : List Deed). length l) same_deeds in
      let more = place_more h p ready.front ts (turns_left y.turns) split in
      let before : length (deeds_at h p) - length (deeds_in h p (ts ++ turns_left y.turns)) ≡ walk_place x = ap (λ l. length (deeds_at h p) - length (deeds_in h p l)) (sym turns) in
      let low = few in
      omega (arith, size, dropped, within, long, more, before, low)

  settles : settled_at (protocol_at h) p n ≡ y.seat.position
  settles = (λ i. settled_at (protocol_at (sym same.home i)) (sym same.processor i) (sym placed i)) ∙ shown.0.at

  went_further : IsFurther x.seat y.seat
  went_further = on_further x.seat y.seat same shown.0.on

  holds : y.own ≡ held_cells h p n
  holds = shown.0.holds ∙ (λ i. held_cells (same.home i) (same.processor i) (placed i))

  module _ (come : HasCome x.turns y.turns) (idle : registers_behind y.seat m ≡ []) (can : CanExecute y.executor) (executes : executor_tree y.executor ≡ executor_tree x.executor) (output : executor_output y.executor ≡ printed_behind y.seat m)
      (grown : length (executor_output y.executor) ≤ length (executor_output x.executor) + sum_by (turn_room (tree_at x.seat.home)) ts) (room : executor_room x.executor ≤ executor_room y.executor) (answered : y.answered ≡ x.answered) (over : y.ended ≡ x.ended) where
    turns_pass : Passes x y ts
    turns_pass = record {
      seat = same;
      come = come;
      turns = turns;
      settled = settles;
      idle = (λ i. (protocol_at (sym same.home i)).registers_at (sym same.processor i) (sym placed i)) ∙ idle;
      own = holds;
      can = can;
      executes = executes;
      output = output ∙ (λ i. (protocol_at (same.home i)).printed_at (same.processor i) (placed i));
      grown = grown;
      room = room;
      answered = still_answered x y ready held ts (turns_left y.turns) turns none same settles answered;
      over = over;
    }

    pub turns_go : y.patience.legs ≡ x.patience.legs → GoesTo x y
    turns_go legs = record { ready = passed_ready x y ts ready turns_pass; seat = same; answered = omega (arith, answered); legs = legs }

  pub turns_lead : 0 < length ts → beginnings_left y.turns ≡ beginnings_left x.turns → y.answered ≡ x.answered → LeadsOn x y
  turns_lead some begins answered = record {
    further = went_further;
    answered = λ several. answered;
    less = (
        let both : length (turns_left x.turns) ≡ length ts + length (turns_left y.turns) = ap (λ (l : List Turn). length l) turns ∙ length-append ts (turns_left y.turns) in
        let phases : length (beginnings_left y.turns) ≡ length (beginnings_left x.turns) = ap (λ (l : List ℕ). length l) begins in
        omega (arith, both, some, phases)
        );
  }
