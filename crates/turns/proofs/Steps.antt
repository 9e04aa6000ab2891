-- A cursor of turns behind one move of it.
use Rattle.std.proofs.Common.{◌≡◌, ℕ, suc, ◌+◌, ◌-◌, ◌*◌, ◌/◌, ◌<◌, ◌≤◌, Bool, true, false, true≢false, List, [], ◌∷◌, ◌++◌, length, map, Option, Some, if◌then◌else◌, ap, sym, subst, ◌∙◌, inl, inr, arith}
use Rattle.std.specs.Prelude.{slice_get, slice_index_or, slice_set}
use Rattle.std.specs.List.{range_with_len}
use Rattle.std.proofs.lemmas.Bool.{cases_eq}
use Rattle.std.proofs.lemmas.List.{get_or-set_other, get_or-set_same}
use Rattle.nest_tree.proofs.FirstLimits.{at_replicate}
use Rattle.nest_tree.specs.Limits.{most_work}
use Rattle.nest_tree.specs.Tree.{Tree}
use Rattle.nest_model.specs.Instances.{Instance}
use Rattle.nest_model.specs.Visits.{Visit}
use Rattle.owner_partition.specs.Phases.{phases}
use Rattle.sync_plan.specs.Own.{own_loop}
use Rattle.sync_plan.specs.declared.plan.Plan.{Plan}
use Rattle.spmd_model.specs.Rounds.{rounds_of}
use Rattle.spmd_model.specs.Timelines as Timelines
use Rattle.turns.specs.CounterTurns.{CounterTurn, posts, awaits, begins, works}
use Rattle.turns.specs.CountersLeft.{AreSoundCounters, IsBegun, counters_left, counters_plan, counters_processor, counters_tree}
use Rattle.turns.specs.declared.counters.CounterTurns.{CounterTurns}
use Rattle.turns.specs.Turns.{Turn, sets, waits, runs, closes, Standing, all_rounds, beginnings, begun, behind, closed, first_round, has_signals, is_signalled, is_watched, no_phase, none_pending, place_of, places_pending, round_turn, turns_by}
use Rattle.turns.specs.TurnsLeft.{AreSound, IsBehindInstances, IsCounterOf, IsOwnPlace, ShowsClosing, rounds_left, standing, turns_left, turns_plan, turns_processor, turns_tree}
use Rattle.turns.specs.declared.turns.Turns.{Turns}
use Rattle.turns.proofs.TurnLists.{await_first, bare, begin_first, closings_first, no_rounds, post_first, work_first}

-- ---- it stays sound

-- with other counter turns, and other places that pend
pub moved : (c : Turns) (t : CounterTurns) (bs : List Bool) → AreSound c → AreSoundCounters t → counters_tree t ≡ counters_tree c.counters → counters_plan t ≡ counters_plan c.counters → counters_processor t ≡ counters_processor c.counters →
    ((k : ℕ) → slice_index_or bs k false ≡ true → IsOwnPlace (own_loop (turns_tree c) (turns_plan c) c.place) k) →
    (c.is_watched ≡ true → c.barriers + length (beginnings (counters_left t)) ≤ most_work) →
    (c.is_watched ≡ false → bs ≡ none_pending) → AreSound (record c { counters = t; pending = bs })
moved c t bs s sound tree plan processor among few none = record {
  formed = s.formed;
  fits = s.fits;
  worker = s.worker;
  few_cells = s.few_cells;
  sound = sound;
  same_tree = tree ∙ s.same_tree;
  same_plan = plan ∙ s.same_plan;
  same_processor = processor ∙ s.same_processor;
  has = s.has;
  watched = s.watched;
  own = record { few = s.own.few; cells = s.own.cells; loop = s.own.loop; among = among };
  all_steps = s.all_steps;
  within = s.within;
  first_low = s.first_low;
  few_barriers = few;
  unwatched = λ w. record { no_place = (s.unwatched w).no_place; none = none w; no_round = (s.unwatched w).no_round };
  arrives = s.arrives;
}

pub none_among : {P : Type 0} (k : ℕ) → slice_index_or none_pending k false ≡ true → P
none_among k is = absurd (true≢false (sym is ∙ at_replicate 32 k false))

-- ---- past the counters of a boundary

module _ (c : Turns) (t : CounterTurns) (rounds : c.step ≡ c.steps) (none : places_pending c.pending ≡ []) where
  abbrev pub emptied : Turns
  emptied = record c { counters = t; pending = none_pending }

  abbrev goes_on : Standing → List CounterTurn → List Turn
  goes_on = turns_by c.style (turns_tree c) (turns_plan c) (turns_processor c)

  new_left : turns_left emptied ≡ goes_on (closed (standing c)) (counters_left t)
  new_left = bare emptied rounds

  pub counter_passed : (ts : List CounterTurn) (number : ℕ) (u : CounterTurn) → counters_left c.counters ≡ ts → IsCounterOf ts number → ts ≡ u ∷ counters_left t →
      (w : Turn) × (turns_left c ≡ (if is_signalled c.style (turns_tree c) (turns_plan c) number then [] else w ∷ []) ++ turns_left emptied)
  counter_passed [] number u is of passed = absurd of
  counter_passed (posts k ∷ rest) number u is of passed =
      let same : rest ≡ counters_left t = cc in
      let front : ℕ → List Turn = λ n. if is_signalled c.style (turns_tree c) (turns_plan c) n then [] else sets Timelines.counter n ∷ [] in
      (sets Timelines.counter number, post_first c rounds k rest is none ∙ ap (λ n. front n ++ goes_on (closed (standing c)) rest) of ∙ ap (λ r. front number ++ goes_on (closed (standing c)) r) same ∙ sym (ap (λ l. front number ++ l) new_left))
  counter_passed (awaits on k ∷ rest) number u is of passed =
      let same : rest ≡ counters_left t = cc in
      let front : ℕ → List Turn = λ n. if is_signalled c.style (turns_tree c) (turns_plan c) n then [] else waits Timelines.counter on n ∷ [] in
      (waits Timelines.counter on number, await_first c rounds on k rest is none ∙ ap (λ n. front n ++ goes_on (closed (standing c)) rest) of ∙ ap (λ r. front number ++ goes_on (closed (standing c)) r) same ∙ sym (ap (λ l. front number ++ l) new_left))
  counter_passed (begins e ∷ rest) number u is of passed = absurd of
  counter_passed (works i ∷ rest) number u is of passed = absurd of

-- ---- past the beginning of a phase

-- of its program and plan
pub begun_here : (c : Turns) → AreSound c → (place e : ℕ) → IsBegun (counters_tree c.counters) (counters_plan c.counters) place (Some e) → IsBegun (turns_tree c) (turns_plan c) place (Some e)
begun_here c s place e is =
    subst (λ (r : Plan). IsBegun (turns_tree c) r place (Some e)) s.same_plan (subst (λ (w : Tree). IsBegun w (counters_plan c.counters) place (Some e)) s.same_tree is)

module _ (c : Turns) (t : CounterTurns) (e place first step barriers : ℕ) (b : Bool) (rounds : c.step ≡ c.steps) (none : places_pending c.pending ≡ []) (is : counters_left c.counters ≡ begins e ∷ counters_left t)
    (watched : is_watched c.style (turns_plan c) ≡ true) (all : c.steps ≡ rounds_of (turns_plan c).workers * 2)
    (place_is : place_of (slice_get (phases (turns_tree c) (turns_plan c).cut.marks) (e - 1)) ≡ place) (b_is : has_signals c.style (turns_plan c) (slice_get (phases (turns_tree c) (turns_plan c).cut.marks) (e - 1)) ≡ b)
    (first_is : first ≡ c.barriers * (c.steps / 2) + 1) (step_is : step ≡ (if b then 0 else c.steps)) (barriers_is : barriers ≡ (if b then suc c.barriers else c.barriers)) where
  abbrev found : Option Visit
  found = slice_get (phases (turns_tree c) (turns_plan c).cut.marks) (e - 1)

  abbrev comes : Standing → List Turn
  comes s = turns_by c.style (turns_tree c) (turns_plan c) (turns_processor c) s (counters_left t)

  abbrev next : Standing
  next = record { place = place; pending = none_pending; barriers = barriers }

  begun_is : begun c.style (turns_tree c) (turns_plan c) (standing c) e ≡ next
  begun_is =
      ap (λ w. record { place = if w then place_of found else no_phase; pending = none_pending; barriers = if has_signals c.style (turns_plan c) found then suc c.barriers else c.barriers }) watched
      ∙ ap (λ n. record { place = n; pending = none_pending; barriers = if has_signals c.style (turns_plan c) found then suc c.barriers else c.barriers }) place_is
      ∙ ap (λ x. record { place = place; pending = none_pending; barriers = if x then suc c.barriers else c.barriers }) b_is
      ∙ ap (λ n. record { place = place; pending = none_pending; barriers = n }) (sym barriers_is)

  rounds_are : (x : Bool) → step ≡ (if x then 0 else c.steps) → (if x then all_rounds (turns_plan c).workers (turns_processor c) c.barriers else []) ≡ rounds_left (turns_plan c).workers (turns_processor c) first step c.steps
  rounds_are true at =
      let half : c.steps / 2 ≡ rounds_of (turns_plan c).workers = omega (arith, all) in
      let number : first ≡ first_round (turns_plan c).workers c.barriers = first_is ∙ ap (λ n. c.barriers * n + 1) half in
      let many : rounds_of (turns_plan c).workers * 2 ≡ c.steps - step = omega (arith, all, at) in
      ap (λ n. map (round_turn (turns_plan c).workers (turns_processor c) (first_round (turns_plan c).workers c.barriers)) (range_with_len 0 n)) many
      ∙ ap (λ f. map (round_turn (turns_plan c).workers (turns_processor c) f) (range_with_len 0 (c.steps - step))) (sym number)
      ∙ ap (λ s. map (round_turn (turns_plan c).workers (turns_processor c) first) (range_with_len s (c.steps - step))) (sym at)
  rounds_are false at = sym (no_rounds (turns_plan c).workers (turns_processor c) first step c.steps at)

  pub begin_passed : rounds_left (turns_plan c).workers (turns_processor c) first step c.steps ++ comes next ≡ turns_left c
  begin_passed =
      ap (λ l. l ++ comes next) (sym (rounds_are b step_is))
      ∙ ap (λ x. (if x then all_rounds (turns_plan c).workers (turns_processor c) c.barriers else []) ++ comes next) (sym b_is)
      ∙ ap (λ s. (if has_signals c.style (turns_plan c) found then all_rounds (turns_plan c).workers (turns_processor c) c.barriers else []) ++ comes s) (sym begun_is)
      ∙ sym (begin_first c rounds e (counters_left t) is none)

-- ---- past an instance

pub work_passed : (c : Turns) (t : CounterTurns) (bs : List Bool) (i : Instance) (u : CounterTurn) (rest : List CounterTurn) → c.step ≡ c.steps → counters_left c.counters ≡ works i ∷ rest → counters_left c.counters ≡ u ∷ counters_left t →
    bs ≡ (behind (turns_tree c) (turns_plan c) (standing c) i).pending → turns_left c ≡ runs c.place i ∷ turns_left (record c { counters = t; pending = bs })
work_passed c t bs i u rest rounds is passed marked =
    let both : works i ∷ rest ≡ u ∷ counters_left t = sym is ∙ passed in
    let same : rest ≡ counters_left t = cc in
    let later = turns_by c.style (turns_tree c) (turns_plan c) (turns_processor c) in
    work_first c rounds i rest is ∙ ap (λ r. runs c.place i ∷ later (behind (turns_tree c) (turns_plan c) (standing c) i) r) same
    ∙ ap (λ p. runs c.place i ∷ later (record { place = c.place; pending = p; barriers = c.barriers }) (counters_left t)) (sym marked)
    ∙ sym (ap (λ l. runs c.place i ∷ l) (bare (record c { counters = t; pending = bs }) rounds))

-- ---- past a closing

pub closing_comes : (c : Turns) (k : ℕ) (later : List ℕ) → c.step ≡ c.steps → IsBehindInstances (counters_left c.counters) → places_pending c.pending ≡ k ∷ later → (rest : List Turn) × (turns_left c ≡ closes c.place k ∷ rest)
closing_comes c k later rounds behind_all pending =
    let f = closings_first c.style (turns_tree c) (turns_plan c) (turns_processor c) c.place c.barriers (counters_left c.counters) behind_all in
    (_, bare c rounds ∙ f.is c.pending ∙ ap (λ ks. map (closes c.place) ks ++ f.rest) pending)

pub closing_passed : (c : Turns) (k : ℕ) → ShowsClosing c k → turns_left c ≡ closes c.place k ∷ turns_left (record c { pending = slice_set c.pending k false })
closing_passed c k shows =
    let f = closings_first c.style (turns_tree c) (turns_plan c) (turns_processor c) c.place c.barriers (counters_left c.counters) shows.behind in
    bare c shows.rounds ∙ f.is c.pending ∙ ap (λ ks. map (closes c.place) ks ++ f.rest) shows.pending
    ∙ sym (ap (λ l. closes c.place k ∷ l) (bare (record c { pending = slice_set c.pending k false }) shows.rounds ∙ f.is (slice_set c.pending k false)))

-- what pended with one place less
pub still_among : (bs : List Bool) (j k : ℕ) → length bs ≡ 32 → j < 32 → slice_index_or (slice_set bs j false) k false ≡ true → slice_index_or bs k false ≡ true
still_among bs j k long small is = elim (cases_eq j k) [
  | inl same ↦ absurd (true≢false (sym is ∙ ap (λ n. slice_index_or (slice_set bs j false) n false) (sym same) ∙ get_or-set_same bs j false false (omega (arith, long, small))))
  | inr other ↦ sym (get_or-set_other bs j k false false (λ e. other (sym e))) ∙ is
]
