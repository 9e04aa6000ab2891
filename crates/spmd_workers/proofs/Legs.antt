-- A leg, turn by turn.
use Rattle.std.proofs.Common.{◌≡◌, ◌==◌, ℕ, zero, suc, ◌+◌, ◌-◌, ◌<◌, ◌≤◌, ◌⊎◌, true, List, [], ◌∷◌, ◌++◌, length, drop, Option, Some, None, refl, sym, ◌∙◌, ap, subst, inl, inr, arith, if◌then◌else◌, Bool, sum_by, IsTrue, append_assoc}
use Rattle.std.specs.List.{list_all}
use Rattle.std.proofs.lemmas.Bool.{cases_Bool, eqb-true}
use Rattle.nest_tree.specs.Layout.{cell_count}
use Rattle.sync_plan.specs.Boundaries.{joins}
use Rattle.spmd_model.specs.Timelines.{counter}
use Rattle.spmd_model.specs.Acts.{post}
use Rattle.spmd_model.specs.Protocols.{act_at, passed_first}
use Rattle.instance_runs.specs.Executors.{executor_output, executor_room}
use Rattle.turns.specs.Turns.{Turn, turn_room}
use Rattle.turns.specs.TurnsLeft.{IsNextOrPhase, beginnings_left, turns_left}
use Rattle.turns.specs.declared.turns.NextOrPhase.{NextOrPhase}
use Rattle.turns.specs.declared.turns.NextOrPhase.TheVariants as Coming
use Rattle.turns.specs.declared.turns.Turns.{Turns}
use Rattle.shared_words.specs.Places.{settled_at}
use Rattle.shared_words.proofs.Vain.{within}
use Rattle.shared_words.specs.Calls.{StandsInVain}
use Rattle.shared_words.specs.Homes.{CellView, Home, Subject, protocol_at, seat_in}
use Rattle.spmd_workers.specs.Held.{AreHeld}
use Rattle.spmd_workers.specs.Legs.{IsFurther, IsJoined, IsSameSeat, IsWaiting, answered_last}
use Rattle.spmd_workers.specs.Places.{deeds_at, deeds_in, held_cells, place_of, plan_at, printed_behind, tree_at}
use Rattle.spmd_workers.specs.Walks.{Answers, EndsLeg, GoesTo, IsAtEnd, IsWalk, LeadsOn, TurnTells, is_turn_there, to_go, walk_place}
use Rattle.spmd_workers.specs.Workers.{IsInside, IsOver}
use Rattle.spmd_workers.specs.declared.patience.Patience.{Patience}
use Rattle.spmd_workers.specs.declared.walk.Walk.{Walk}
use Rattle.spmd_workers.specs.declared.worker.Leg.{Leg}
use Rattle.spmd_workers.specs.declared.worker.Leg.TheVariants.{Ended, Joined, Waiting}
use Rattle.spmd_workers.proofs.Walks.{HasCome, its_worker}

-- ---- one behind another

pub further_more : (a b c : CellView) → IsFurther a b → IsFurther b c → IsFurther a c
further_more a b c (inl stays) (inl more) = inl (more ∙ stays)
further_more a b c (inl stays) (inr goes) = inr ((let at = ap (λ (v : CellView). v.position) stays in let less = goes.0 in omega (arith, at, less)), goes.1)
further_more a b c (inr goes) (inl more) = inr ((let at = ap (λ (v : CellView). v.position) more in let less = goes.0 in omega (arith, at, less)), ap (λ (v : CellView). v.misses) more ∙ goes.1)
further_more a b c (inr goes) (inr more) = inr ((let one = goes.0 in let two = more.0 in omega (arith, one, two)), more.1)

pub further_most : (a b : CellView) → IsFurther a b → a.position ≤ b.position
further_most a b (inl stays) = let at = ap (λ (v : CellView). v.position) stays in omega (arith, at)
further_most a b (inr goes) = let less = goes.0 in omega (arith, less)

waits_more : (a b c : CellView) (on wanted seen : ℕ) → IsFurther a b → b.position ≤ c.position → IsWaiting b c on wanted seen → IsWaiting a c on wanted seen
waits_more a b c on wanted seen (inl stays) le w = subst (λ (v : CellView). IsWaiting v c on wanted seen) stays w
waits_more a b c on wanted seen (inr goes) le w = record {
  next = w.next;
  low = w.low;
  found = w.found;
  vain = w.vain;
  misses = elim (cases_Bool (a.position == c.position)) [
    | inl same ↦ (let at = eqb-true a.position c.position same in let less = goes.0 in absurd (omega (arith, at, less, le)))
    | inr apart ↦ (let none : (if a.position == c.position then a.misses else 0) ≡ 0 = ap (λ b. if b then a.misses else 0) apart in let many = w.misses in omega (arith, none, many))
  ];
}

joined_more : (a b e : ℕ) (v : CellView) → a ≤ b → IsJoined b v e → IsJoined a v e
joined_more a b e v le j = record { several = j.several; join = j.join; above = (let more = j.above in omega (arith, le, more)); posted = j.posted; awaits = j.awaits }

answers_more : (a b c : Walk) (leg : Leg) → IsFurther a.seat b.seat → a.answered ≤ b.answered → Answers b c leg → Answers a c leg
answers_more a b c Ended further le r = (further_more a.seat b.seat c.seat further r.0, r.1)
answers_more a b c (Joined e) further le r = (further_more a.seat b.seat c.seat further r.0, joined_more a.answered b.answered e c.seat le r.1)
answers_more a b c (Waiting on wanted seen) further le r = ((let one = further_most a.seat b.seat further in let two = r.0 in omega (arith, one, two)), waits_more a.seat b.seat c.seat on wanted seen further r.0 r.1)

-- nobody is alone where several are
still_several : (v w : CellView) → w.home ≡ v.home → 1 < (protocol_at v.home).workers → 1 < (protocol_at w.home).workers
still_several v w same several = subst (λ (h : Home). 1 < (protocol_at h).workers) (sym same) several

pub ends_more : (a b c : Walk) (leg : Leg) → IsSameSeat a.seat b.seat → IsFurther a.seat b.seat → a.answered ≤ b.answered → (1 < (protocol_at a.seat.home).workers → b.answered ≡ a.answered) → EndsLeg b c leg → EndsLeg a c leg
ends_more a b c leg same further le kept e = record {
  answers = answers_more a b c leg further le e.answers;
  answered = λ several. e.answered (still_several a.seat b.seat same.home several) ∙ ap (λ n. answered_last n leg) (kept several);
  placed = e.placed;
}

pub leads_more : (a b c : Walk) → b.seat ≡ a.seat → to_go b ≡ to_go a → b.answered ≡ a.answered → LeadsOn b c → LeadsOn a c
leads_more a b c seat left answered on = record {
  further = further_more a.seat b.seat c.seat (inl seat) on.further;
  answered = λ several. on.answered (still_several a.seat b.seat (ap (λ (v : CellView). v.home) seat) several) ∙ answered;
  less = (let less = on.less in omega (arith, left, less));
}

pub tells_more : (a b c : Walk) (o : Option Leg) → b.seat ≡ a.seat → to_go b ≡ to_go a → b.answered ≡ a.answered → TurnTells b c o → TurnTells a c o
tells_more a b c None seat left answered on = leads_more a b c seat left answered on
tells_more a b c (Some leg) seat left answered ends =
    let same : IsSameSeat a.seat b.seat = record { home = ap (λ (v : CellView). v.home) seat; processor = ap (λ (v : CellView). v.processor) seat } in
    ends_more a b c leg same (inl seat) (omega (arith, answered)) (λ several. answered) ends

pub goes_more : (a b c : Walk) → IsSameSeat a.seat b.seat → a.answered ≤ b.answered → b.patience.legs ≡ a.patience.legs → GoesTo b c → GoesTo a c
goes_more a b c same le legs goes = record {
  ready = goes.ready;
  seat = record { home = goes.seat.home ∙ same.home; processor = goes.seat.processor ∙ same.processor };
  answered = (let more = goes.answered in omega (arith, le, more));
  legs = goes.legs ∙ legs;
}

-- ---- a look at what comes next

module _ (x : Walk) (ready : IsWalk x) (d : Turns) (come : HasCome x.turns d) (left : turns_left d ≡ turns_left x.turns) where
  place : place_of x.seat d ≡ walk_place x
  place = ap (λ l. length (deeds_at x.seat.home x.seat.processor) - length (deeds_in x.seat.home x.seat.processor l)) left

  looked : (ended : Bool) (patience : Patience) → (ended ≡ true → IsAtEnd (record x { turns = d; patience = patience; ended = ended })) → IsWalk (record x { turns = d; patience = patience; ended = ended })
  looked ended patience over = record {
    front = ready.front;
    behind = ready.behind ∙ ap (λ l. ready.front ++ l) (sym left);
    begun = ready.begun ++ come.begun;
    begins = ready.begins ∙ ap (λ l. ready.begun ++ l) come.begins ∙ sym (append_assoc ready.begun come.begun (beginnings_left d));
    sound = come.sound;
    tree = come.same.program ∙ ready.tree;
    plan = come.same.plan ∙ ready.plan;
    processor = come.same.processor ∙ ready.processor;
    style = come.same.style ∙ ready.style;
    settled = ap (settled_at (protocol_at x.seat.home) x.seat.processor) place ∙ ready.settled;
    idle = ap ((protocol_at x.seat.home).registers_at x.seat.processor) place ∙ ready.idle;
    own = ready.own ∙ sym (ap (held_cells x.seat.home x.seat.processor) place);
    can = ready.can;
    executes = ready.executes;
    output = ready.output ∙ sym (ap ((protocol_at x.seat.home).printed_at x.seat.processor) place);
    room = subst (λ (l : List Turn). length (executor_output x.executor) + sum_by (turn_room (tree_at x.seat.home)) l ≤ executor_room x.executor) (sym left) ready.room;
    there = subst (λ (l : List Turn). IsTrue (list_all (is_turn_there (tree_at x.seat.home)) l)) (sym left) ready.there;
    answered = ready.answered;
    over = over;
  }

  -- it is still at its end, where it was
  pub still_over : x.ended ≡ true → IsAtEnd (record x { turns = d })
  still_over e = let was = ready.over e in record { none = left ∙ was.none; seat = was.seat; placed = place ∙ was.placed }

  pub looked_ready : IsWalk (record x { turns = d })
  looked_ready = looked x.ended x.patience still_over

-- it is as ready for its next leg
pub ready_again : (x : Walk) (patience : Patience) → IsWalk x → IsWalk (record x { patience = patience })
ready_again x patience ready =
    looked x ready x.turns (record { sound = ready.sound; same = record { program = refl; plan = refl; processor = refl; style = refl }; begun = []; begins = refl }) refl x.ended patience
    (λ e. let was = ready.over e in record { none = was.none; seat = was.seat; placed = was.placed })

-- where a phase begins or what comes next is seen
pub come_by : (old new : Turns) (n : NextOrPhase) → IsNextOrPhase old new n → (begun : List ℕ) × (beginnings_left old ≡ begun ++ beginnings_left new)
come_by old new (Coming.Phase e) is = (e ∷ [], is)
come_by old new (Coming.Turn next) is = ([], sym is.1)

-- all is done where nothing is left
module _ (x : Walk) (ready : IsWalk x) (held : AreHeld x.seat.home) (none : turns_left x.turns ≡ []) where
  all_deeds_done : walk_place x ≡ length (deeds_at x.seat.home x.seat.processor)
  all_deeds_done = ap (λ l. length (deeds_at x.seat.home x.seat.processor) - length (deeds_in x.seat.home x.seat.processor l)) none ∙ (let e : length (deeds_at x.seat.home x.seat.processor) - 0 ≡ length (deeds_at x.seat.home x.seat.processor) = omega arith in e)

  pub ended_placed : walk_place x ≡ x.seat.position
  ended_placed =
      let all = all_deeds_done in
      let count = held.count x.seat.processor (its_worker x ready) in
      let past : drop (walk_place x) ((protocol_at x.seat.home).acts x.seat.processor) ≡ [] = drop_past ((protocol_at x.seat.home).acts x.seat.processor) (walk_place x) (omega (arith, all, count)) in
      let stays : passed_first (cell_count (tree_at x.seat.home)) (drop (walk_place x) ((protocol_at x.seat.home).acts x.seat.processor)) ≡ 0 = ap (passed_first (cell_count (tree_at x.seat.home))) past in
      let at = ready.settled in
      omega (arith, at, stays)
    where
      drop_past : {X : Type 0} (xs : List X) (n : ℕ) → length xs ≤ n → drop n xs ≡ []
      drop_past [] zero le = refl
      drop_past [] (suc n) le = refl
      drop_past (x ∷ xs) zero le = absurd (omega (arith, le))
      drop_past (x ∷ xs) (suc n) le = drop_past xs n (omega (arith, le))

  pub at_end : IsAtEnd (record x { ended = true })
  at_end = record { none = none; seat = sym ended_placed ∙ all_deeds_done ∙ held.count x.seat.processor (its_worker x ready); placed = ended_placed }

  pub ended_ready : IsWalk (record x { ended = true })
  ended_ready = looked x ready x.turns (record { sound = ready.sound; same = record { program = refl; plan = refl; processor = refl; style = refl }; begun = []; begins = refl }) refl true x.patience (λ _. at_end)

-- ---- behind a leg

-- who has ended has printed all lines
pub is_over : (x : Walk) → IsWalk x → x.ended ≡ true → IsOver (record { seat = x.seat; answered = x.answered; legs = x.patience.legs; output = executor_output x.executor; ended = x.ended })
is_over x ready e = record { ended = (ready.over e).seat; printed = ready.output ∙ ap (printed_behind x.seat) (ready.over e).placed }

-- its seat is inside its acts
pub ready_inside : (x : Walk) → IsWalk x → AreHeld x.seat.home → IsInside x.seat
ready_inside x ready held =
    let count = held.count x.seat.processor (its_worker x ready) in
    subst (λ n. n ≤ length ((protocol_at x.seat.home).acts x.seat.processor)) ready.settled (within (protocol_at x.seat.home) x.seat.processor (walk_place x) (omega (arith, count)))

-- a leg that stays where it was has ended, or stands in vain: behind a join a place is another
pub stays_where : (x y : Walk) (leg : Leg) → IsWalk x → GoesTo x y → EndsLeg x y leg → y.seat.position ≡ x.seat.position → (y.ended ≡ true) ⊎ StandsInVain x.seat
stays_where x y leg ready goes ends here = by leg ends.answers
  where
    by : (l : Leg) → Answers x y l → (y.ended ≡ true) ⊎ StandsInVain x.seat
    by Ended r = inl r.1
    by (Joined e) r = absurd (
        let j = r.1 in
        let n = j.posted.0 in
        let place = j.posted.1 in
        let posted : act_at (protocol_at x.seat.home) x.seat.processor n ≡ Some (post counter (e - 1)) = sym (λ i. act_at (protocol_at (goes.seat.home i)) (goes.seat.processor i) n) ∙ j.posted.2 in
        let join : joins (tree_at x.seat.home) (plan_at x.seat.home) (e - 1) ≡ true = sym (ap (λ (h : Home). joins (tree_at h) (plan_at h) (e - 1)) goes.seat.home) ∙ j.join in
        let less = ready.answered n (e - 1) (omega (arith, place, here)) posted join in
        let above = j.above in
        omega (arith, less, above)
        )
    by (Waiting on wanted seen) r = inr (subst (λ (v : CellView). StandsInVain v) (λ i. record x.seat { home = goes.seat.home i; processor = goes.seat.processor i; position = here i }) r.1.vain)

-- ---- in another home of its table

pub noted_ready : (x : Walk) (h : Home) → h.given ≡ x.seat.home.given → IsWalk x → IsWalk (record x { seat = seat_in h x.seat })
unfolding deeds_at
noted_ready x h same ready =
    let s : IsWalk (record x { seat = seat_in (record { table = x.seat.home.table; given = h.given; known = x.seat.home.known }) x.seat }) =
    subst (λ (g : Option Subject). IsWalk (record x { seat = seat_in (record { table = x.seat.home.table; given = g; known = x.seat.home.known }) x.seat })) (sym same) ready in record {
      front = s.front;
      behind = s.behind;
      begun = s.begun;
      begins = s.begins;
      sound = s.sound;
      tree = s.tree;
      plan = s.plan;
      processor = s.processor;
      style = s.style;
      settled = s.settled;
      idle = s.idle;
      own = s.own;
      can = s.can;
      executes = s.executes;
      output = s.output;
      room = s.room;
      there = s.there;
      answered = s.answered;
      over = λ e. let was = s.over e in record { none = was.none; seat = was.seat; placed = was.placed };
    }

-- what holds of the processors of a table holds in another home of it
pub noted_held : (g h : Home) → g.given ≡ h.given → AreHeld h → AreHeld g
unfolding deeds_at
noted_held g h same held =
    let s : AreHeld (record { table = h.table; given = g.given; known = h.known }) = subst (λ (x : Option Subject). AreHeld (record { table = h.table; given = x; known = h.known })) (sym same) held in record {
      run = s.run;
      laws = s.laws;
      acts = s.acts;
      count = s.count;
      stored = s.stored;
      added = s.added;
      printed = s.printed;
      own = s.own;
      arrived = s.arrived;
    }
