-- A barrier at which all have arrived.
use Rattle.std.proofs.Common.{◌≡◌, ℕ, suc, ◌+◌, ◌-◌, ◌<◌, true, List, [], ◌∷◌, ◌++◌, length, map, drop, refl, sym, ◌∙◌, ap, subst, inr, ⊎_elim, arith, append_assoc, length-append}
use Rattle.std.specs.List.{flat_map}
use Rattle.std.proofs.lemmas.Bool.{cases_lt}
use Rattle.std.proofs.lemmas.Grind.{flat_map-append}
use Rattle.std.proofs.lemmas.List.{length-map}
use Rattle.nest_tree.specs.Layout.{cell_count}
use Rattle.nest_tree.specs.Tree.{Tree}
use Rattle.owner_partition.specs.Phases.{phases}
use Rattle.sync_plan.specs.declared.plan.Plan.{Plan}
use Rattle.spmd_model.specs.Deeds.{Deed, awaiting}
use Rattle.spmd_model.specs.Timelines.{counter}
use Rattle.instance_runs.specs.Executors.{CanExecute, executor_output, executor_room, executor_tree}
use Rattle.turns.specs.Turns.{Turn, waits, turn_deeds}
use Rattle.turns.specs.TurnsLeft.{AreSound, BeginsNext, IsSameRun, beginnings_left, turns_left, turns_plan, turns_processor, turns_tree}
use Rattle.shared_words.specs.Places.{row_first, settled_at}
use Rattle.shared_words.specs.Homes.{CellView, Home, protocol_at, through}
use Rattle.spmd_workers.specs.Held.{AreHeld}
use Rattle.spmd_workers.specs.Legs.{AreAnswered, IsSameSeat}
use Rattle.spmd_workers.specs.Places.{deeds_at, deeds_in, held_cells, plan_at, printed_behind, registers_behind, tree_at, turns_at}
use Rattle.spmd_workers.specs.Walks.{GoesTo, IsWalk, LeadsOn, walk_place}
use Rattle.spmd_workers.specs.declared.walk.Walk.{Walk}
use Rattle.spmd_workers.proofs.LaterRows.{first_later}
use Rattle.spmd_workers.proofs.Rows.{IsRow, row_ends, rows}
use Rattle.spmd_workers.proofs.Steps.{answered_more, await_act, await_here, come_on, no_post_between}
use Rattle.spmd_workers.proofs.Walks.{Passes, drop_here, drop_place, its_worker, passed_ready, place_more}

waits_deeds : (tree : Tree) (plan : Plan) (p n : ℕ) (qs : List ℕ) → flat_map (turn_deeds tree plan p) (map (λ q. waits counter q n) qs) ≡ map (λ q. awaiting counter q n) qs
waits_deeds tree plan p n [] = refl
waits_deeds tree plan p n (q ∷ qs) = ap (λ l. awaiting counter q n ∷ l) (waits_deeds tree plan p n qs)

-- the number that is passed is the one that was awaited, and there is one
pub row_number : (n on number : ℕ) (qs : List ℕ) (left others : List Turn) → {all : List Turn} → all ≡ map (λ q. waits counter q n) qs ++ left → all ≡ waits counter on number ∷ others → ((rest : List Turn) → left ≡ waits counter on number ∷ rest → ⊥) → (n ≡ number) × (0 < length qs)
row_number n on number [] left others turns first other = absurd (other others (sym turns ∙ first))
row_number n on number (q ∷ qs) left others turns first other = let both : waits counter q n ∷ (map (λ j. waits counter j n) qs ++ left) ≡ waits counter on number ∷ others = sym turns ∙ first in (cc, omega arith)

module _ (x : Walk) (ready : IsWalk x) (held : AreHeld x.seat.home) (y : Walk) (number : ℕ) (qs : List ℕ) (on : ℕ) (others : List Turn) (seat : y.seat ≡ through x.seat) (executor : y.executor ≡ x.executor) (own : y.own ≡ x.own) (answered : y.answered ≡ x.answered) (over : y.ended ≡ x.ended)
    (sound : AreSound y.turns) (run : IsSameRun x.turns y.turns) (begins : beginnings_left y.turns ≡ beginnings_left x.turns) (turns : turns_left x.turns ≡ map (λ q. waits counter q number) qs ++ turns_left y.turns) (some : 0 < length qs)
    (next : BeginsNext y.turns (suc number)) (first : turns_left x.turns ≡ waits counter on number ∷ others) (g : (protocol_at x.seat.home).gathers number ≡ true) where
  abbrev h : Home
  h = x.seat.home

  abbrev p : ℕ
  p = x.seat.processor

  abbrev ts : List Turn
  ts = map (λ q. waits counter q number) qs

  abbrev n : ℕ
  n = walk_place x

  split : turns_at h p ≡ ready.front ++ (ts ++ turns_left y.turns)
  split = ready.behind ∙ ap (λ l. ready.front ++ l) turns

  as_many : length (deeds_in h p ts) ≡ length qs
  as_many = ap (λ (l : List Deed). length l) (waits_deeds (tree_at h) (plan_at h) p number qs) ∙ length-map qs (λ q. awaiting counter q number)

  row : IsRow h held p (its_worker x ready) number g n qs
  row = rows h held p (its_worker x ready) number g n qs (deeds_in h p (turns_left y.turns))
      (drop_here x ready ∙ ap (deeds_in h p) turns ∙ flat_map-append (turn_deeds (tree_at h) (plan_at h) p) ts (turns_left y.turns) ∙ ap (λ l. l ++ deeds_in h p (turns_left y.turns)) (waits_deeds (tree_at h) (plan_at h) p number qs))

  behind_place : length (deeds_at h p) - length (deeds_in h p (turns_left y.turns)) ≡ n + length qs
  behind_place = place_more h p ready.front ts (turns_left y.turns) split ∙ ap (λ l. length (deeds_at h p) - length (deeds_in h p l) + length (deeds_in h p ts)) (sym turns) ∙ ap (λ k. n + k) as_many

  -- the deeds that are left, by the cursor
  left_is : drop (n + length qs) (deeds_at h p) ≡ flat_map (turn_deeds (tree_at h) (plan_at h) p) (turns_left y.turns)
  left_is = ap (λ k. drop k (deeds_at h p)) (sym behind_place) ∙ drop_place h p (ready.front ++ ts) (turns_left y.turns) (split ∙ sym (append_assoc ready.front ts (turns_left y.turns)))

  -- by the cursor's own program and plan
  its_deeds : flat_map (turn_deeds (turns_tree y.turns) (turns_plan y.turns) (turns_processor y.turns)) (turns_left y.turns) ≡ flat_map (turn_deeds (tree_at h) (plan_at h) p) (turns_left y.turns)
  its_deeds = λ i. flat_map (turn_deeds ((run.program ∙ ready.tree) i) ((run.plan ∙ ready.plan) i) ((run.processor ∙ ready.processor) i)) (turns_left y.turns)

  ends : row_first (protocol_at h) (drop (n + length qs) ((protocol_at h).acts p)) ≡ 0
  ends = row_ends h held p n (n + length qs) number on (its_worker x ready) (await_act x ready held counter on number others first) g row.arrivals (λ q w more is.
      first_later y.turns (suc number) next (length (phases (tree_at h) (plan_at h).cut.marks)) ready.begun (ready.begins ∙ ap (λ l. ready.begun ++ l) (sym begins)) q w more
      (its_deeds ∙ sym left_is ∙ is))

  here : x.seat.position ≡ n
  here = await_here x ready held counter on number others first

  position : y.seat.position ≡ settled_at (protocol_at h) p (n + length qs)
  position =
      let count : row_first (protocol_at h) (drop n ((protocol_at h).acts p)) ≡ length qs = (let all = row.row in omega (arith, all, ends)) in
      ap (λ (v : CellView). v.position) seat ∙ (λ i. settled_at (protocol_at h) p (here i + row_first (protocol_at h) (drop (here i) ((protocol_at h).acts p)))) ∙ ap (λ k. settled_at (protocol_at h) p (n + k)) count

  same : IsSameSeat x.seat y.seat
  same = record { home = ap (λ (v : CellView). v.home) seat; processor = ap (λ (v : CellView). v.processor) seat }

  kept : AreAnswered y.seat y.answered
  kept = answered_more x.seat y.seat x.answered y.answered same ready.answered (omega (arith, answered)) (λ k other low high e j. ⊎_elim
      (λ less. absurd (row.no_post k other (omega (arith, low, here)) less e))
      (λ le. absurd (no_post_between (cell_count (tree_at h)) ((protocol_at h).acts p) (n + length qs) k other le (omega (arith, high, position)) e)) (cases_lt k (n + length qs)))

  passes : Passes x y ts
  passes =
      let more : n + length (deeds_in h p ts) ≡ n + length qs = ap (λ k. n + k) as_many in
      record {
        seat = same;
        come = come_on x.turns y.turns sound run begins;
        turns = turns;
        settled = ap (settled_at (protocol_at h) p) more ∙ sym position;
        idle = ap (registers_behind x.seat) more ∙ row.registers ∙ ready.idle;
        own = own ∙ ready.own ∙ sym (ap (held_cells h p) more ∙ row.own);
        can = subst CanExecute (sym executor) ready.can;
        executes = ap executor_tree executor;
        output = ap executor_output executor ∙ ready.output ∙ sym (ap (printed_behind x.seat) more ∙ row.printed);
        grown = (let size : length (executor_output y.executor) ≡ length (executor_output x.executor) = ap (λ z. length (executor_output z)) executor in omega (arith, size));
        room = (let size : executor_room y.executor ≡ executor_room x.executor = ap executor_room executor in omega (arith, size));
        answered = kept;
        over = over;
      }

  pub all_goes : y.patience.legs ≡ x.patience.legs → GoesTo x y
  all_goes legs = record { ready = passed_ready x y ts ready passes; seat = same; answered = omega (arith, answered); legs = legs }

  pub all_leads : LeadsOn x y
  all_leads = record {
    further = inr ((let at = position in omega (arith, at, here, some)), ap (λ (v : CellView). v.misses) seat);
    answered = λ several. answered;
    less = (
        let both : length (turns_left x.turns) ≡ length ts + length (turns_left y.turns) = ap (λ (l : List Turn). length l) turns ∙ length-append ts (turns_left y.turns) in
        let count = length-map qs (λ q. waits counter q number) in
        let phases : length (beginnings_left y.turns) ≡ length (beginnings_left x.turns) = ap (λ (l : List ℕ). length l) begins in
        omega (arith, both, count, some, phases)
        );
  }
