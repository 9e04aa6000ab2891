-- What a cursor shows, by what stands first, and that it stays sound past it.
use Rattle.std.proofs.Common.{◌≡◌, ◌==◌, ℕ, ◌+◌, ◌/◌, ◌%◌, ◌<◌, Bool, true, false, true≢false, List, [], ◌∷◌, ◌++◌, length, if◌then◌else◌, refl, ap, sym, subst, ◌∙◌, arith}
use Rattle.std.specs.Prelude.{slice_index_or, slice_set}
use Rattle.nest_tree.specs.Tree.{Tree}
use Rattle.nest_model.specs.Instances.{Instance}
use Rattle.nest_walk.specs.declared.cursor.Stop.{Stop}
use Rattle.sync_plan.specs.Own.{own_loop}
use Rattle.sync_plan.specs.declared.plan.Plan.{Plan}
use Rattle.spmd_model.specs.Rounds.{awaited_in_round}
use Rattle.spmd_model.specs.Timelines.{counter, signal}
use Rattle.spmd_model.specs.declared.style.Style.{Style}
use Rattle.spmd_model.specs.declared.style.Style.TheVariants.{Arrive}
use Rattle.turns.specs.CounterTurns.{CounterTurn, posts, awaits, begins, works, without_beginnings}
use Rattle.turns.specs.CountersLeft.{AreSoundCounters, IsCounterNext, counters_left, counters_plan, counters_processor, counters_tree}
use Rattle.turns.specs.declared.counters.CounterNext.{CounterNext}
use Rattle.turns.specs.declared.counters.CounterNext.TheVariants.{Post, Await, Phase, Work, End}
use Rattle.turns.specs.declared.counters.CounterTurns.{CounterTurns}
use Rattle.turns.specs.Turns.{Turn, sets, waits, closed, is_signalled, is_watched, no_phase, none_pending, places_pending, round_turn, turns_by}
use Rattle.turns.specs.TurnsLeft.{AreSound, IsBehindInstances, IsOpen, in_rounds, pends, turns, IsOwnPlace, IsSilent, IsSomeTurn, ShowsClosing, rounds_left, standing, turns_left, turns_plan, turns_processor, turns_tree}
use Rattle.turns.specs.declared.turns.Turns.{Turns}
use Rattle.turns.proofs.Beginnings.{work_begun}
use Rattle.turns.proofs.Steps.{moved, still_among}
use Rattle.turns.proofs.TurnLists.{await_first, by_counters, next_round, post_first, unseen}

-- ---- where no phase is watched

unseen_at : (style : Style) (tree : Tree) (plan : Plan) (p place barriers : ℕ) (pending : List Bool) (ts : List CounterTurn) → is_watched style plan ≡ false → place ≡ no_phase → pending ≡ none_pending →
    turns_by style tree plan p (record { place = place; pending = pending; barriers = barriers }) (without_beginnings ts) ≡ turns_by style tree plan p (record { place = place; pending = pending; barriers = barriers }) ts
unseen_at style tree plan p place barriers pending ts none at empty =
    let f : ℕ → List Bool → List CounterTurn → List Turn = λ k bs us. turns_by style tree plan p (record { place = k; pending = bs; barriers = barriers }) us in
    ap (λ k. f k pending (without_beginnings ts)) at ∙ ap (λ bs. f no_phase bs (without_beginnings ts)) empty ∙ unseen style tree plan p barriers ts none
    ∙ sym (ap (λ k. f k pending ts) at ∙ ap (λ bs. f no_phase bs ts) empty)

-- the counter turns but for beginnings that stand first
pub unseen_there : (c : Turns) (t : CounterTurns) → AreSound c → c.is_watched ≡ false → counters_left t ≡ without_beginnings (counters_left c.counters) → turns_left (record c { counters = t }) ≡ turns_left c
unseen_there c t s none is =
    let u = s.unwatched none in
    let front = rounds_left (turns_plan c).workers (turns_processor c) c.first c.step c.steps in
    ap (λ ts. front ++ turns_by c.style (turns_tree c) (turns_plan c) (turns_processor c) (standing c) ts) is
    ∙ ap (λ l. front ++ l) (unseen_at c.style (turns_tree c) (turns_plan c) (turns_processor c) c.place c.barriers c.pending (counters_left c.counters) (sym s.watched ∙ none) u.no_place u.none)

-- no round is left, nothing pends, and no barrier is passed by signals
pub record IsPlainly (c : Turns) : Type 0 where
  pub rounds : c.step ≡ c.steps
  pub none : places_pending c.pending ≡ []
  pub off : (number : ℕ) → is_signalled c.style (turns_tree c) (turns_plan c) number ≡ false

pub plainly : (c : Turns) → AreSound c → c.is_watched ≡ false → IsPlainly c
plainly c s none =
    let u = s.unwatched none in
    record { rounds = u.no_round; none = ap places_pending u.none; off = λ number. by_counters c.style (turns_tree c) (turns_plan c) number (sym s.watched ∙ none) }

-- ---- counter turns

pub behind_instances : (t : CounterTurns) (n : CounterNext) → IsCounterNext t n → ((stop : Stop) → n ≡ Work stop → ⊥) → IsBehindInstances (counters_left t)
behind_instances t (Post number) next other = subst IsBehindInstances (sym next.1) tt
behind_instances t (Await on wanted) next other = subst IsBehindInstances (sym next.1) tt
behind_instances t (Phase e) next other = subst IsBehindInstances (sym next.1) tt
behind_instances t (Work stop) next other = absurd (other stop refl)
behind_instances t End next other = subst IsBehindInstances (sym next) tt

-- no round is left and nothing pends: it is something
pub something : (c : Turns) (n : CounterNext) → IsOpen c n → c.step ≡ c.steps → places_pending c.pending ≡ [] → IsSomeTurn c n
something c n (in_rounds lt) rounds none = absurd (omega (arith, lt, rounds))
something c n (pends at k later is) rounds none = absurd (let clash : k ∷ later ≡ [] = sym is ∙ none in cc)
something c n (turns at some) rounds none = some

-- a counter that isn't passed by signals comes next
pub post_comes : (c : Turns) (number : ℕ) (rest : List CounterTurn) → c.step ≡ c.steps → places_pending c.pending ≡ [] → is_signalled c.style (turns_tree c) (turns_plan c) number ≡ false → counters_left c.counters ≡ posts number ∷ rest →
    (more : List Turn) × (turns_left c ≡ sets counter number ∷ more)
post_comes c number rest rounds none off is =
    let later = turns_by c.style (turns_tree c) (turns_plan c) (turns_processor c) (closed (standing c)) rest in
    (later, post_first c rounds number rest is none ∙ ap (λ b. (if b then [] else sets counter number ∷ []) ++ later) off)

pub await_comes : (c : Turns) (on wanted : ℕ) (rest : List CounterTurn) → c.step ≡ c.steps → places_pending c.pending ≡ [] → is_signalled c.style (turns_tree c) (turns_plan c) wanted ≡ false → counters_left c.counters ≡ awaits on wanted ∷ rest →
    (more : List Turn) × (turns_left c ≡ waits counter on wanted ∷ more)
await_comes c on wanted rest rounds none off is =
    let later = turns_by c.style (turns_tree c) (turns_plan c) (turns_processor c) (closed (standing c)) rest in
    (later, await_first c rounds on wanted rest is none ∙ ap (λ b. (if b then [] else waits counter on wanted ∷ []) ++ later) off)

-- ---- rounds

pub round_passed : (c : Turns) → c.step < c.steps → turns_left c ≡ round_turn (turns_plan c).workers (turns_processor c) c.first c.step ∷ turns_left (record c { step = c.step + 1 })
round_passed c lt = ap (λ l. l ++ turns_by c.style (turns_tree c) (turns_plan c) (turns_processor c) (standing c) (counters_left c.counters)) (next_round (turns_plan c).workers (turns_processor c) c.first c.step c.steps lt)

pub signal_turn : (workers p first step : ℕ) → step % 2 ≡ 0 → round_turn workers p first step ≡ sets signal (first + step / 2)
signal_turn workers p first step even = ap (λ k. if k == 0 then sets signal (first + step / 2) else waits signal (awaited_in_round workers (step / 2) p) (first + step / 2)) even

pub await_turn : (workers p first step : ℕ) → step % 2 ≡ 1 → round_turn workers p first step ≡ waits signal (awaited_in_round workers (step / 2) p) (first + step / 2)
await_turn workers p first step odd = ap (λ k. if k == 0 then sets signal (first + step / 2) else waits signal (awaited_in_round workers (step / 2) p) (first + step / 2)) odd

-- ---- it stays sound

pub stepped_sound : (c : Turns) → AreSound c → c.step < c.steps → AreSound (record c { step = c.step + 1 })
stepped_sound c s lt = record {
  formed = s.formed;
  fits = s.fits;
  worker = s.worker;
  few_cells = s.few_cells;
  sound = s.sound;
  same_tree = s.same_tree;
  same_plan = s.same_plan;
  same_processor = s.same_processor;
  has = s.has;
  watched = s.watched;
  own = s.own;
  all_steps = s.all_steps;
  within = omega (arith, lt);
  first_low = s.first_low;
  few_barriers = s.few_barriers;
  unwatched = λ w. absurd (omega (arith, lt, (s.unwatched w).no_round));
  arrives = λ w. absurd (omega (arith, lt, s.arrives w));
}

pub closed_sound : (c : Turns) (k : ℕ) → AreSound c → length c.pending ≡ 32 → ShowsClosing c k → AreSound (record c { pending = slice_set c.pending k false })
closed_sound c k s long shows =
    moved c c.counters (slice_set c.pending k false) s s.sound refl refl refl (λ j is. s.own.among j (still_among c.pending k j long shows.small is)) s.few_barriers
    (λ w. absurd (let clash : [] ≡ k ∷ places_pending (slice_set c.pending k false) = sym (ap places_pending (s.unwatched w).none) ∙ shows.pending in cc))

-- past an instance
pub worked_sound : (c : Turns) (t : CounterTurns) (bs : List Bool) (i : Instance) (u : CounterTurn) (rest : List CounterTurn) → AreSound c → AreSoundCounters t → counters_tree t ≡ counters_tree c.counters → counters_plan t ≡ counters_plan c.counters → counters_processor t ≡ counters_processor c.counters →
    counters_left c.counters ≡ works i ∷ rest → counters_left c.counters ≡ u ∷ counters_left t → ((k : ℕ) → slice_index_or bs k false ≡ true → IsOwnPlace (own_loop (turns_tree c) (turns_plan c) c.place) k) → (c.is_watched ≡ false → bs ≡ none_pending) → AreSound (record c { counters = t; pending = bs })
worked_sound c t bs i u rest s sound tree plan processor is passed among none =
    let same = ap length (work_begun (counters_left c.counters) rest (counters_left t) i u is passed) in
    moved c t bs s sound tree plan processor among (λ w. let few = s.few_barriers w in omega (arith, same, few)) none

-- ---- by counters

-- only that a phase begins is nothing
pub silent_begins : (c : Turns) (n : CounterNext) → IsSilent c n → c.style ≡ Arrive → ((e : ℕ) → n ≡ Phase e → ⊥) → ⊥
silent_begins c (Post number) s is other = true≢false (sym s.turn ∙ ap (λ t. is_signalled t (turns_tree c) (turns_plan c) number) is)
silent_begins c (Await on wanted) s is other = true≢false (sym s.turn ∙ ap (λ t. is_signalled t (turns_tree c) (turns_plan c) wanted) is)
silent_begins c (Phase e) s is other = other e refl
silent_begins c (Work stop) s is other = s.turn
silent_begins c End s is other = s.turn

-- past that
pub begins_plainly : (t after : CounterTurns) (n : CounterNext) (e : ℕ) → IsCounterNext t n → n ≡ Phase e → (u : CounterTurn) × (counters_left t ≡ u ∷ counters_left after) → counters_left t ≡ begins e ∷ counters_left after
begins_plainly t after n e next is passed =
    let (rest, first) = subst (IsCounterNext t) is next in
    let both : begins e ∷ rest ≡ passed.0 ∷ counters_left after = sym first ∙ passed.1 in
    let same : rest ≡ counters_left after = cc in
    first ∙ ap (λ r. begins e ∷ r) same
