-- Where a leg may end: joins, and awaits.
use Rattle.std.proofs.Common.{◌≡◌, ◌==◌, ℕ, suc, ◌+◌, ◌-◌, ◌*◌, ◌<◌, ◌≤◌, true, List, [], ◌∷◌, length, Some, sym, ◌∙◌, ap, subst, inr, arith, if◌then◌else◌}
use Rattle.std.proofs.lemmas.Bool.{eq-eqb}
use Rattle.sync_plan.specs.Boundaries.{joins}
use Rattle.spmd_model.specs.Timelines.{Word, counter}
use Rattle.spmd_model.specs.Acts.{post}
use Rattle.spmd_model.specs.Protocols.{act_at, arrivals_at}
use Rattle.instance_runs.specs.Executors.{CanExecute, executor_output, executor_room, executor_tree}
use Rattle.turns.specs.Turns.{Turn, sets, waits}
use Rattle.turns.specs.TurnsLeft.{AreSound, IsSameRun, beginnings_left, turns_left, turns_plan, turns_processor, turns_style, turns_tree}
use Rattle.shared_words.specs.Calls.{AwaitsNext, AwaitsSignalNext, GathersNext, StandsInVain, all_arrivals}
use Rattle.shared_words.specs.Homes.{CellView, Home, gone, missed, protocol_at}
use Rattle.shared_words.specs.Places.{settled_at}
use Rattle.spmd_workers.specs.Held.{AreHeld}
use Rattle.spmd_workers.specs.Legs.{AreAnswered, HasMissed, IsAwaited, IsSameSeat}
use Rattle.spmd_workers.specs.Places.{deeds_in, held_cells, plan_at, printed_behind, registers_behind, tree_at}
use Rattle.spmd_workers.specs.Walks.{EndsLeg, GoesTo, IsWalk, LeadsOn, walk_place}
use Rattle.spmd_workers.specs.declared.walk.Walk.{Walk}
use Rattle.spmd_workers.specs.declared.worker.Leg.TheVariants.{Joined, Waiting}
use Rattle.spmd_workers.proofs.Steps.{await_answered, await_here, await_next, await_passes, come_on, join_answered, leads_on, post_here, post_next, post_passes, seat_gone}
use Rattle.spmd_workers.proofs.Walks.{HasCome, Passes, further_place, passed_ready}

-- a poll more that found this in vain, behind so many misses
pub has_missed : (old before new : CellView) (misses seen : ℕ) → before.home ≡ old.home → before.processor ≡ old.processor → before.position ≡ old.position → before.misses ≡ old.misses + misses → 1000 ≤ misses + 1 → new ≡ missed seen before → StandsInVain before → HasMissed old new seen
has_missed old before new misses seen home processor position count many is vain = record {
  same = record { home = ap (λ (v : CellView). v.home) is ∙ home; processor = ap (λ (v : CellView). v.processor) is ∙ processor };
  stays = ap (λ (v : CellView). v.position) is ∙ position;
  misses = (let more : new.misses ≡ before.misses + 1 = ap (λ (v : CellView). v.misses) is in omega (arith, more, count, many));
  found = ap (λ (v : CellView). v.seen) is;
  vain = subst StandsInVain (sym is) vain;
}

-- what is awaited next of a seat is awaited next of another at the same place
pub awaits_same : (v w : CellView) → IsSameSeat v w → w.position ≡ v.position → (on wanted : ℕ) → AwaitsNext v on wanted → AwaitsNext w on wanted
awaits_same v w same here on wanted a = ((λ i. act_at (protocol_at (same.home i)) (same.processor i) (here i)) ∙ a.0, ap (λ (h : Home). (protocol_at h).gathers wanted) same.home ∙ a.1)

pub signals_same : (v w : CellView) → IsSameSeat v w → w.position ≡ v.position → (on wanted : ℕ) → AwaitsSignalNext v on wanted → AwaitsSignalNext w on wanted
signals_same v w same here on wanted a = (λ i. act_at (protocol_at (same.home i)) (same.processor i) (here i)) ∙ a

pub gathers_same : (v w : CellView) → IsSameSeat v w → w.position ≡ v.position → (number on wanted : ℕ) → GathersNext v number → on ≡ (protocol_at v.home).workers → wanted ≡ all_arrivals v → IsAwaited w on wanted
gathers_same v w same here number on wanted a who all = inr (inr (
  number,
  (a.0, (λ i. act_at (protocol_at (same.home i)) (same.processor i) (here i)) ∙ a.1, ap (λ (h : Home). (protocol_at h).gathers number) same.home ∙ a.2),
  who ∙ sym (ap (λ (h : Home). (protocol_at h).workers) same.home),
  all ∙ sym (λ i. (protocol_at (same.home i)).workers * arrivals_at (protocol_at (same.home i)) (same.processor i) (here i)),
))

module _ (x : Walk) (ready : IsWalk x) (held : AreHeld x.seat.home) where
  module _ (y : Walk) (number phase : ℕ) (seat : y.seat ≡ gone x.seat) (executor : y.executor ≡ x.executor) (own : y.own ≡ x.own) (over : y.ended ≡ x.ended) (sound : AreSound y.turns) (run : IsSameRun x.turns y.turns) (begins : beginnings_left y.turns ≡ beginnings_left x.turns)
      (turns : turns_left x.turns ≡ sets counter number ∷ turns_left y.turns) (is : phase ≡ suc number) (answers : y.answered ≡ phase) (above : x.answered < phase) where
    passes : Passes x y (sets counter number ∷ [])
    passes =
        let act = post_next x ready held counter number (turns_left y.turns) turns in
        let answered = join_answered x.seat y.seat x.answered y.answered number seat ready.answered act (omega (arith, answers, above)) (omega (arith, answers, is)) in
        post_passes x ready held y counter number seat executor own over (come_on x.turns y.turns sound run begins) turns answered

    joined_ready : IsWalk y
    joined_ready = passed_ready x y (sets counter number ∷ []) ready passes

    pub joined_goes : y.patience.legs ≡ x.patience.legs → GoesTo x y
    joined_goes legs = record { ready = joined_ready; seat = (seat_gone x.seat y.seat seat).0; answered = omega (arith, answers, above); legs = legs }

    pub joined_leads : (1 < (protocol_at x.seat.home).workers → ⊥) → LeadsOn x y
    joined_leads alone = leads_on x y (sets counter number) turns begins (seat_gone x.seat y.seat seat).1 (λ several. absurd (alone several))

    pub joined_tells : (on wanted : ℕ) (rest : List Turn) → turns_left y.turns ≡ waits counter on wanted ∷ rest → 1 < (turns_plan y.turns).workers → joins (tree_at x.seat.home) (plan_at x.seat.home) number ≡ true → EndsLeg x y (Joined phase)
    joined_tells on wanted rest next several join =
        let same = (seat_gone x.seat y.seat seat).0 in
        let there : AreHeld y.seat.home = subst AreHeld (sym same.home) held in
        let here = await_here y joined_ready there counter on wanted rest next in
        let before : number ≡ phase - 1 = omega (arith, is) in
        let place : y.seat.position ≡ suc x.seat.position = here ∙ further_place x y (sets counter number ∷ []) ready passes ∙ (let at = post_here x ready held counter number (turns_left y.turns) turns in omega (arith, at)) in
        record {
          answers = (
            (seat_gone x.seat y.seat seat).1,
            record {
              several = subst (λ n. 1 < n) (ap (λ q. q.workers) joined_ready.plan) several;
              join = (λ i. joins (tree_at (same.home i)) (plan_at (same.home i)) (phase - 1)) ∙ sym (ap (joins (tree_at x.seat.home) (plan_at x.seat.home)) before) ∙ join;
              above = above;
              posted = (x.seat.position, place, (λ i. act_at (protocol_at (same.home i)) (same.processor i) x.seat.position) ∙ post_next x ready held counter number (turns_left y.turns) turns ∙ ap (λ n. Some (post counter n)) before);
              awaits = (on, wanted, await_next y joined_ready there counter on wanted rest next);
            },
          );
          answered = λ among. answers;
          placed = sym here;
        }

  -- nothing is passed, whatever was missed
  module _ (y : Walk) (same : IsSameSeat x.seat y.seat) (stays : y.seat.position ≡ x.seat.position) (turns : y.turns ≡ x.turns) (executor : y.executor ≡ x.executor) (own : y.own ≡ x.own) (answered : y.answered ≡ x.answered) (over : y.ended ≡ x.ended) where
    none : walk_place x + length (deeds_in x.seat.home x.seat.processor []) ≡ walk_place x
    none = omega arith

    still_passes : Passes x y []
    still_passes = record {
      seat = same;
      come = record {
        sound = subst AreSound (sym turns) ready.sound;
        same = record { program = ap turns_tree turns; plan = ap turns_plan turns; processor = ap turns_processor turns; style = ap turns_style turns };
        begun = [];
        begins = sym (ap beginnings_left turns);
      };
      turns = sym (ap turns_left turns);
      settled = ap (settled_at (protocol_at x.seat.home) x.seat.processor) none ∙ ready.settled ∙ sym stays;
      idle = ap (registers_behind x.seat) none ∙ ready.idle;
      own = own ∙ ready.own ∙ sym (ap (held_cells x.seat.home x.seat.processor) none);
      can = subst CanExecute (sym executor) ready.can;
      executes = ap executor_tree executor;
      output = ap executor_output executor ∙ ready.output ∙ sym (ap (printed_behind x.seat) none);
      grown = (let same : length (executor_output y.executor) ≡ length (executor_output x.executor) = ap (λ z. length (executor_output z)) executor in omega (arith, same));
      room = (let same : executor_room y.executor ≡ executor_room x.executor = ap executor_room executor in omega (arith, same));
      answered = λ n number lt e j.
          let old = ready.answered n number (omega (arith, stays, lt)) (sym (λ i. act_at (protocol_at (same.home i)) (same.processor i) n) ∙ e) (sym (ap (λ (h : Home). joins (tree_at h) (plan_at h) number) same.home) ∙ j) in
          omega (arith, old, answered);
      over = over;
    }

    still_ready : IsWalk y
    still_ready = passed_ready x y [] ready still_passes

    pub still_goes : y.patience.legs ≡ x.patience.legs → GoesTo x y
    still_goes legs = record { ready = still_ready; seat = same; answered = omega (arith, answered); legs = legs }

    pub waits_tells : (word : Word) (on number : ℕ) (rest : List Turn) → turns_left x.turns ≡ waits word on number ∷ rest → (who wanted seen : ℕ) → IsAwaited y.seat who wanted → seen < wanted → HasMissed x.seat y.seat seen → EndsLeg x y (Waiting who wanted seen)
    waits_tells word on number rest next who wanted seen awaited low missed =
        let there : AreHeld y.seat.home = subst AreHeld (sym same.home) held in
        let here = await_here y still_ready there word on number rest (ap turns_left turns ∙ next) in
        let mine : (if x.seat.position == y.seat.position then x.seat.misses else 0) ≡ x.seat.misses = ap (λ b. if b then x.seat.misses else 0) (eq-eqb x.seat.position y.seat.position (sym stays)) in
        record {
          answers = (omega (arith, stays), record { next = awaited; low = low; found = missed.found; vain = missed.vain; misses = (let many = missed.misses in omega (arith, mine, many)) });
          answered = λ several. answered;
          placed = sym here;
        }

  -- the word has come
  pub came_goes : (y : Walk) (word : Word) (on wanted : ℕ) → y.seat ≡ gone x.seat → y.executor ≡ x.executor → y.own ≡ x.own → y.answered ≡ x.answered → y.ended ≡ x.ended → HasCome x.turns y.turns → turns_left x.turns ≡ waits word on wanted ∷ turns_left y.turns → y.patience.legs ≡ x.patience.legs → GoesTo x y
  came_goes y word on wanted seat executor own answered over come turns legs =
      let act = await_next x ready held word on wanted (turns_left y.turns) turns in
      let kept = await_answered x.seat y.seat y.answered word on wanted seat (subst (AreAnswered x.seat) (sym answered) ready.answered) act in
      let passes = await_passes x ready held y word on wanted seat executor own over come turns kept in
      record { ready = passed_ready x y (waits word on wanted ∷ []) ready passes; seat = (seat_gone x.seat y.seat seat).0; answered = omega (arith, answered); legs = legs }

  -- a word of its own is set, and it is no join's
  pub set_goes : (y : Walk) (word : Word) (number : ℕ) → y.seat ≡ gone x.seat → y.executor ≡ x.executor → y.own ≡ x.own → y.answered ≡ x.answered → y.ended ≡ x.ended → HasCome x.turns y.turns → turns_left x.turns ≡ sets word number ∷ turns_left y.turns → AreAnswered y.seat y.answered → y.patience.legs ≡ x.patience.legs → GoesTo x y
  set_goes y word number seat executor own answered over come turns kept legs =
      let passes = post_passes x ready held y word number seat executor own over come turns kept in
      record { ready = passed_ready x y (sets word number ∷ []) ready passes; seat = (seat_gone x.seat y.seat seat).0; answered = omega (arith, answered); legs = legs }
