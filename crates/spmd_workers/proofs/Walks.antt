-- A walk that has passed turns.
use Rattle.std.proofs.Common.{◌≡◌, ℕ, suc, ◌+◌, ◌-◌, ◌<◌, ◌≤◌, true, IsTrue, List, [], ◌∷◌, ◌++◌, length, drop, refl, sym, ◌∙◌, ap, subst, arith, sum_by, append_assoc, length-append}
use Rattle.std.specs.List.{list_all, range_with_len}
use Rattle.std.proofs.lemmas.Bool.{and_parts}
use Rattle.std.proofs.lemmas.Grind.{flat_map-append}
use Rattle.std.proofs.lemmas.List.Folds.{list_all-append}
use Rattle.std.proofs.lemmas.List.Sums.{sum_by-append}
use Rattle.owner_partition.specs.Phases.{phases}
use Rattle.spmd_model.specs.Deeds.{Deed}
use Rattle.instance_runs.specs.Executors.{CanExecute, executor_output, executor_room, executor_tree}
use Rattle.turns.proofs.CounterLists.{drop_at}
use Rattle.turns.specs.Turns.{Turn, turn_deeds, turn_room}
use Rattle.turns.specs.TurnsLeft.{AreSound, IsSameRun, beginnings_left, turns_left}
use Rattle.turns.specs.declared.turns.Turns.{Turns}
use Rattle.shared_words.specs.Places.{settled_at}
use Rattle.shared_words.specs.Homes.{Home, protocol_at}
use Rattle.spmd_workers.specs.Legs.{AreAnswered, IsSameSeat}
use Rattle.spmd_workers.specs.Places.{deeds_at, deeds_in, held_cells, left_behind, plan_at, printed_behind, registers_behind, style_at, tree_at, turns_at}
use Rattle.spmd_workers.specs.Walks.{IsAtEnd, IsWalk, is_turn_there, walk_place}
use Rattle.spmd_workers.specs.declared.walk.Walk.{Walk}
use Rattle.spmd_workers.proofs.SharedSteps.{Stands, on_same, shown_left}

-- ---- places by turns

module _ (h : Home) (p : ℕ) where
  pub all_deeds : deeds_at h p ≡ deeds_in h p (turns_at h p)
  unfolding deeds_at
  all_deeds = refl

  module _ (front left : List Turn) (is : turns_at h p ≡ front ++ left) where
    pub whole_deeds : deeds_at h p ≡ deeds_in h p front ++ deeds_in h p left
    whole_deeds = all_deeds ∙ ap (deeds_in h p) is ∙ flat_map-append (turn_deeds (tree_at h) (plan_at h) p) front left

    pub place_is : length (deeds_at h p) - length (deeds_in h p left) ≡ length (deeds_in h p front)
    place_is = let both : length (deeds_at h p) ≡ length (deeds_in h p front) + length (deeds_in h p left) = ap (λ (l : List Deed). length l) whole_deeds ∙ length-append (deeds_in h p front) (deeds_in h p left) in omega (arith, both)

    pub drop_place : drop (length (deeds_at h p) - length (deeds_in h p left)) (deeds_at h p) ≡ deeds_in h p left
    drop_place = ap (λ n. drop n (deeds_at h p)) place_is ∙ ap (drop (length (deeds_in h p front))) whole_deeds ∙ drop_front (deeds_in h p front) (deeds_in h p left)
      where
        drop_front : (xs ys : List Deed) → drop (length xs) (xs ++ ys) ≡ ys
        drop_front [] ys = refl
        drop_front (x ∷ xs) ys = drop_front xs ys

-- so many more where these turns are passed
pub place_more : (h : Home) (p : ℕ) (front ts left : List Turn) → turns_at h p ≡ front ++ (ts ++ left) → length (deeds_at h p) - length (deeds_in h p left) ≡ length (deeds_at h p) - length (deeds_in h p (ts ++ left)) + length (deeds_in h p ts)
place_more h p front ts left is =
    let longer = place_is h p front (ts ++ left) is in
    let here = place_is h p (front ++ ts) left (is ∙ sym (append_assoc front ts left)) in
    let more : length (deeds_in h p (front ++ ts)) ≡ length (deeds_in h p front) + length (deeds_in h p ts) = ap (λ (l : List Deed). length l) (flat_map-append (turn_deeds (tree_at h) (plan_at h) p) front ts) ∙ length-append (deeds_in h p front) (deeds_in h p ts) in
    omega (arith, longer, here, more)

-- ---- behind turns

-- a cursor has gone on, and phases may have begun
pub record HasCome (old new : Turns) : Type 0 where
  pub sound : AreSound new
  pub same : IsSameRun old new
  pub begun : List ℕ
  pub begins : beginnings_left old ≡ begun ++ beginnings_left new

-- what a walk has to show where it has passed these turns
pub record Passes (x y : Walk) (ts : List Turn) : Type 0 where
  pub seat : IsSameSeat x.seat y.seat
  pub come : HasCome x.turns y.turns
  pub turns : turns_left x.turns ≡ ts ++ turns_left y.turns
  pub settled : settled_at (protocol_at x.seat.home) x.seat.processor (walk_place x + length (deeds_in x.seat.home x.seat.processor ts)) ≡ y.seat.position
  pub idle : registers_behind x.seat (walk_place x + length (deeds_in x.seat.home x.seat.processor ts)) ≡ []
  pub own : y.own ≡ held_cells x.seat.home x.seat.processor (walk_place x + length (deeds_in x.seat.home x.seat.processor ts))
  pub can : CanExecute y.executor
  pub executes : executor_tree y.executor ≡ executor_tree x.executor
  pub output : executor_output y.executor ≡ printed_behind x.seat (walk_place x + length (deeds_in x.seat.home x.seat.processor ts))
  pub grown : length (executor_output y.executor) ≤ length (executor_output x.executor) + sum_by (turn_room (tree_at x.seat.home)) ts
  pub room : executor_room x.executor ≤ executor_room y.executor
  pub answered : AreAnswered y.seat y.answered
  pub over : y.ended ≡ x.ended

module _ (x y : Walk) (ts : List Turn) (ready : IsWalk x) (passes : Passes x y ts) where
  abbrev h : Home
  h = x.seat.home

  abbrev p : ℕ
  p = x.seat.processor

  split : turns_at h p ≡ ready.front ++ (ts ++ turns_left y.turns)
  split = ready.behind ∙ ap (λ l. ready.front ++ l) passes.turns

  pub further_place : walk_place y ≡ walk_place x + length (deeds_in h p ts)
  further_place =
      (λ i. length (deeds_at (passes.seat.home i) (passes.seat.processor i)) - length (deeds_in (passes.seat.home i) (passes.seat.processor i) (turns_left y.turns))) ∙ place_more h p ready.front ts (turns_left y.turns) split
      ∙ ap (λ l. length (deeds_at h p) - length (deeds_in h p l) + length (deeds_in h p ts)) (sym passes.turns)

  -- where no turn was left, it is at its end still
  still_ended : x.ended ≡ true → IsAtEnd y
  still_ended e =
      let was = ready.over e in
      let none = nothing ts (turns_left y.turns) (sym passes.turns ∙ was.none) in
      let same = passes.seat in
      let there : walk_place x + length (deeds_in h p ts) ≡ walk_place x = ap (λ l. walk_place x + length (deeds_in h p l)) none.0 ∙ (let e : walk_place x + 0 ≡ walk_place x = omega arith in e) in
      let stays : y.seat.position ≡ x.seat.position = sym passes.settled ∙ ap (settled_at (protocol_at h) p) there ∙ ready.settled in
      record {
        none = none.1;
        seat = stays ∙ was.seat ∙ sym (λ i. length ((protocol_at (same.home i)).acts (same.processor i)));
        placed = further_place ∙ there ∙ was.placed ∙ sym stays;
      }
    where
      nothing : (xs ys : List Turn) → xs ++ ys ≡ [] → (xs ≡ []) × (ys ≡ [])
      nothing [] ys none = (refl, none)
      nothing (z ∷ xs) ys none = absurd (cc)

  pub passed_ready : IsWalk y
  passed_ready =
      let same = passes.seat in
      let come = passes.come in
      let run = come.same in
      let tree = tree_at h in
      let rooms : sum_by (turn_room tree) (turns_left x.turns) ≡ sum_by (turn_room tree) ts + sum_by (turn_room tree) (turns_left y.turns) = ap (sum_by (turn_room tree)) passes.turns ∙ sum_by-append (turn_room tree) ts (turns_left y.turns) in
      let fits : length (executor_output y.executor) + sum_by (turn_room tree) (turns_left y.turns) ≤ executor_room y.executor = omega (arith, rooms, passes.grown, passes.room, ready.room) in
      let all = and_parts (list_all (is_turn_there tree) ts) (list_all (is_turn_there tree) (turns_left y.turns)) (sym (ap (list_all (is_turn_there tree)) passes.turns ∙ list_all-append (is_turn_there tree) ts (turns_left y.turns)) ∙ ready.there) in
      record {
        front = ready.front ++ ts;
        behind = (λ i. turns_at (same.home i) (same.processor i)) ∙ split ∙ sym (append_assoc ready.front ts (turns_left y.turns));
        begun = ready.begun ++ come.begun;
        begins = ap (λ (g : Home). range_with_len 1 (length (phases (tree_at g) (plan_at g).cut.marks))) same.home ∙ ready.begins ∙ ap (λ l. ready.begun ++ l) come.begins ∙ sym (append_assoc ready.begun come.begun (beginnings_left y.turns));
        sound = come.sound;
        tree = run.program ∙ ready.tree ∙ sym (ap tree_at same.home);
        plan = run.plan ∙ ready.plan ∙ sym (ap plan_at same.home);
        processor = run.processor ∙ ready.processor ∙ sym same.processor;
        style = run.style ∙ ready.style ∙ sym (ap style_at same.home);
        settled = (λ i. settled_at (protocol_at (same.home i)) (same.processor i) (further_place i)) ∙ passes.settled;
        idle = (λ i. (protocol_at (same.home i)).registers_at (same.processor i) (further_place i)) ∙ passes.idle;
        own = passes.own ∙ sym (λ i. held_cells (same.home i) (same.processor i) (further_place i));
        can = passes.can;
        executes = passes.executes ∙ ready.executes ∙ sym (ap tree_at same.home);
        output = passes.output ∙ sym (λ i. (protocol_at (same.home i)).printed_at (same.processor i) (further_place i));
        room = subst (λ (g : Home). length (executor_output y.executor) + sum_by (turn_room (tree_at g)) (turns_left y.turns) ≤ executor_room y.executor) (sym same.home) fits;
        there = subst (λ (g : Home). IsTrue (list_all (is_turn_there (tree_at g)) (turns_left y.turns))) (sym same.home) all.1;
        answered = passes.answered;
        over = λ e. still_ended (sym passes.over ∙ e);
      }

-- ---- in front of a turn

module _ (x : Walk) (ready : IsWalk x) where
  -- its seat's is a processor
  pub its_worker : x.seat.processor < (protocol_at x.seat.home).workers
  its_worker = let low = ready.sound.worker in let who = ready.processor in let many = ap (λ q. q.workers) ready.plan in omega (arith, low, who, many)

  pub drop_here : drop (walk_place x) (deeds_at x.seat.home x.seat.processor) ≡ deeds_in x.seat.home x.seat.processor (turns_left x.turns)
  drop_here = drop_place x.seat.home x.seat.processor ready.front (turns_left x.turns) ready.behind

  pub walk_left : left_behind x.seat x.seat x.own (walk_place x) ≡ deeds_in x.seat.home x.seat.processor (turns_left x.turns)
  walk_left = shown_left x.seat x.seat x.own (walk_place x) ready.settled (omega arith) (on_same x.seat) ready.own ∙ drop_here

  -- the first deed of a turn
  pub at_deed : (t : Turn) (rest : List Turn) (d : Deed) (more : List Deed) → turns_left x.turns ≡ t ∷ rest → turn_deeds (tree_at x.seat.home) (plan_at x.seat.home) x.seat.processor t ≡ d ∷ more
      → Stands x.seat x.seat x.own (walk_place x) d (more ++ deeds_in x.seat.home x.seat.processor rest)
  at_deed t rest d more is does =
      let at = drop_at (deeds_at x.seat.home x.seat.processor) (walk_place x) d (more ++ deeds_in x.seat.home x.seat.processor rest) (drop_here ∙ ap (deeds_in x.seat.home x.seat.processor) is ∙ ap (λ l. l ++ deeds_in x.seat.home x.seat.processor rest) does) in
      let one : walk_place x + 1 ≡ suc (walk_place x) = omega arith in
      record {
        shows = ready.settled;
        on = on_same x.seat;
        holds = ready.own;
        there = at.0;
        behind = ap (λ k. drop k (deeds_at x.seat.home x.seat.processor)) one ∙ at.1;
      }
