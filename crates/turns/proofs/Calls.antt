-- What a worker's calls rest on: counters that come next, the awaits of a boundary at once, and strips.
use Rattle.std.proofs.Common.{◌≡◌, ℕ, suc, true, false, List, [], ◌∷◌, ◌++◌, map, length, Option, Some, None, if◌then◌else◌, refl, ap, sym, ◌∙◌, inl, inr, arith}
use Rattle.std.specs.Option.{MatchOption}
use Rattle.nest_tree.specs.Tree.{Tree}
use Rattle.nest_model.specs.Instances.{Instance}
use Rattle.nest_walk.specs.Strips.{strip_left}
use Rattle.nest_walk.specs.declared.strip.Strip.{Strip}
use Rattle.sync_plan.specs.declared.plan.Plan.{Plan}
use Rattle.spmd_model.specs.MachineDeeds.{HasNoOwn}
use Rattle.spmd_model.specs.Timelines.{counter}
use Rattle.spmd_model.specs.declared.style.Style.{Style}
use Rattle.turns.specs.CounterTurns.{CounterTurn, posts, awaits, begins, works}
use Rattle.turns.specs.CountersLeft.{AreSoundCounters, IsCounterNext, StandsAt, at_turn, counters_left, counters_plan, counters_processor, counters_tree}
use Rattle.turns.specs.declared.counters.CounterNext.TheVariants as Plain
use Rattle.turns.specs.declared.counters.CounterTurns.{CounterTurns}
use Rattle.turns.proofs.CounterLists.{some_turn}
use Rattle.turns.specs.Turns.{Turn, runs, waits, Standing, beginnings, closed, closes, is_signalled, none_pending, places_pending, turns_by}
use Rattle.turns.specs.TurnsLeft.{AreSound, IsAtCounter, IsNext, ShowsCounter, standing, turns_left, turns_plan, turns_processor, turns_tree}
use Rattle.turns.specs.declared.turns.Next.TheVariants.{Await}
use Rattle.turns.specs.declared.turns.Turns.{Turns}
use Rattle.turns.proofs.Beginnings.{awaits_begun, strip_begun}
use Rattle.turns.proofs.KnownOwn.{nothing_marked}
use Rattle.turns.proofs.Steps.{moved, none_among}
use Rattle.turns.proofs.TurnLists.{bare}

-- ---- a counter comes next

pub counter_stands : (c : Turns) (number : ℕ) → IsAtCounter c number → StandsAt c.counters number × (at_turn c.counters ≡ true)
counter_stands c number (inl next) =
    let s = next.1.shows in
    (inl s.next, some_turn c.counters (posts number) s.next.0 s.next.1 s.end)
counter_stands c number (inr (on, next)) =
    let s = next.1.shows in
    (inr (on, s.next), some_turn c.counters (awaits on number) s.next.0 s.next.1 s.end)

-- ---- past all awaits of a boundary

module _ (style : Style) (tree : Tree) (plan : Plan) (p number : ℕ) (off : is_signalled style tree plan number ≡ false) where
  abbrev later : Standing → List CounterTurn → List Turn
  later = turns_by style tree plan p

  awaits_on : (s : Standing) (qs : List ℕ) (rest : List CounterTurn) → later (closed s) (map (λ x. awaits x number) qs ++ rest) ≡ map (λ x. waits counter x number) qs ++ later (closed s) rest
  awaits_on s [] rest = refl
  awaits_on s (q ∷ qs) rest = ap (λ b. (if b then [] else waits counter q number ∷ []) ++ later (closed s) (map (λ x. awaits x number) qs ++ rest)) off ∙ ap (λ l. waits counter q number ∷ l) (awaits_on s qs rest)

  pub awaits_shown : (s : Standing) (q : ℕ) (qs : List ℕ) (rest : List CounterTurn) → places_pending s.pending ≡ [] →
      later s (map (λ x. awaits x number) (q ∷ qs) ++ rest) ≡ map (λ x. waits counter x number) (q ∷ qs) ++ later (closed s) rest
  awaits_shown s q qs rest none =
      ap (λ ks. map (closes s.place) ks ++ ((if is_signalled style tree plan number then [] else waits counter q number ∷ []) ++ later (closed s) (map (λ x. awaits x number) qs ++ rest))) none
      ∙ ap (λ b. (if b then [] else waits counter q number ∷ []) ++ later (closed s) (map (λ x. awaits x number) qs ++ rest)) off
      ∙ ap (λ l. waits counter q number ∷ l) (awaits_on s qs rest)

-- these are all awaits of the boundary whose phase begins behind them
pub record PassesAwaits (c : Turns) (t : CounterTurns) (on wanted : ℕ) : Type 0 where
  pub first : ℕ
  pub others : List ℕ
  pub rest : List CounterTurn
  pub left : counters_left c.counters ≡ map (λ q. awaits q wanted) (first ∷ others) ++ counters_left t
  pub begins_next : counters_left t ≡ begins (suc wanted) ∷ rest

all_awaits : (c : Turns) (t : CounterTurns) (on wanted number : ℕ) (qs : List ℕ) (rest behind_it : List CounterTurn) → counters_left c.counters ≡ awaits on wanted ∷ rest → counters_left c.counters ≡ map (λ q. awaits q number) qs ++ counters_left t →
    counters_left t ≡ begins (suc wanted) ∷ behind_it → PassesAwaits c t on wanted
all_awaits c t on wanted number [] rest behind_it next passed begun = absurd (let clash : awaits on wanted ∷ rest ≡ begins (suc wanted) ∷ behind_it = sym next ∙ passed ∙ begun in cc)
all_awaits c t on wanted number (q ∷ qs) rest behind_it next passed begun =
    let both : awaits q number ∷ (map (λ x. awaits x number) qs ++ counters_left t) ≡ awaits on wanted ∷ rest = sym passed ∙ next in
    let same : number ≡ wanted = cc in
    record { first = q; others = qs; rest = behind_it; left = passed ∙ ap (λ n. map (λ x. awaits x n) (q ∷ qs) ++ counters_left t) same; begins_next = begun }

pub awaits_of : (c : Turns) (t : CounterTurns) (on wanted : ℕ) → IsNext c (Await on wanted) → ((number : ℕ) × (awaited : List ℕ) × (counters_left c.counters ≡ map (λ q. awaits q number) awaited ++ counters_left t)) →
    ((on wanted : ℕ) → IsCounterNext c.counters (Plain.Await on wanted) → (rest : List CounterTurn) × (counters_left t ≡ begins (suc wanted) ∷ rest)) → PassesAwaits c t on wanted
awaits_of c t on wanted next (number, awaited, passed) phase =
    let plain = next.1.shows.next in
    let (rest, begun) = phase on wanted plain in
    all_awaits c t on wanted number awaited plain.0 rest plain.1 passed begun

pub awaits_left : (c : Turns) (t : CounterTurns) (on wanted : ℕ) → ShowsCounter c (Plain.Await on wanted) wanted → (a : PassesAwaits c t on wanted) →
    turns_left c ≡ map (λ q. waits counter q wanted) (a.first ∷ a.others) ++ turns_left (record c { counters = t; pending = none_pending })
awaits_left c t on wanted shows a =
    let goes_on = later c.style (turns_tree c) (turns_plan c) (turns_processor c) wanted shows.by_counters in
    bare c shows.shows.rounds ∙ ap (goes_on (standing c)) a.left
    ∙ awaits_shown c.style (turns_tree c) (turns_plan c) (turns_processor c) wanted shows.by_counters (standing c) a.first a.others (counters_left t) shows.none
    ∙ sym (ap (λ l. map (λ q. waits counter q wanted) (a.first ∷ a.others) ++ l) (bare (record c { counters = t; pending = none_pending }) shows.shows.rounds))

pub awaits_sound : (c : Turns) (t : CounterTurns) (number : ℕ) (qs : List ℕ) → AreSound c → AreSoundCounters t → counters_tree t ≡ counters_tree c.counters → counters_plan t ≡ counters_plan c.counters → counters_processor t ≡ counters_processor c.counters →
    counters_left c.counters ≡ map (λ q. awaits q number) qs ++ counters_left t → AreSound (record c { counters = t; pending = none_pending })
awaits_sound c t number qs s sound tree plan processor left =
    let same = ap length (awaits_begun number qs (counters_left c.counters) (counters_left t) left) in
    moved c t none_pending s sound tree plan processor (λ k is. none_among k is) (λ w. let few = s.few_barriers w in omega (arith, same, few)) (λ w. refl)

-- ---- past a strip

instances_shown : (style : Style) (tree : Tree) (plan : Plan) (p : ℕ) (s : Standing) (is : List Instance) (rest : List CounterTurn) → HasNoOwn tree plan s.place →
    turns_by style tree plan p s (map works is ++ rest) ≡ map (runs s.place) is ++ turns_by style tree plan p s rest
instances_shown style tree plan p s [] rest none = refl
instances_shown style tree plan p s (i ∷ is) rest none =
    ap (λ bs. runs s.place i ∷ turns_by style tree plan p (record { place = s.place; pending = bs; barriers = s.barriers }) (map works is ++ rest)) (nothing_marked tree plan s i none)
    ∙ ap (λ l. runs s.place i ∷ l) (instances_shown style tree plan p s is rest none)

-- so many instances go, or none
module _ (c : Turns) (t : CounterTurns) (is : List Instance) (passed : counters_left c.counters ≡ map works is ++ counters_left t) where
  instances_left : c.step ≡ c.steps → HasNoOwn (turns_tree c) (turns_plan c) c.place → turns_left c ≡ map (runs c.place) is ++ turns_left (record c { counters = t })
  instances_left rounds none =
      let goes_on = turns_by c.style (turns_tree c) (turns_plan c) (turns_processor c) (standing c) in
      bare c rounds ∙ ap goes_on passed ∙ instances_shown c.style (turns_tree c) (turns_plan c) (turns_processor c) (standing c) is (counters_left t) none
      ∙ sym (ap (λ l. map (runs c.place) is ++ l) (bare (record c { counters = t }) rounds))

  instances_sound : AreSound c → AreSoundCounters t → counters_tree t ≡ counters_tree c.counters → counters_plan t ≡ counters_plan c.counters → counters_processor t ≡ counters_processor c.counters → AreSound (record c { counters = t })
  instances_sound s sound tree plan processor =
      let same = ap length (strip_begun is (counters_left c.counters) (counters_left t) passed) in
      moved c t c.pending s sound tree plan processor s.own.among (λ w. let few = s.few_barriers w in omega (arith, same, few)) (λ w. (s.unwatched w).none)

-- what the strip of the cursor of counters leaves
abbrev pub IsPlainStrip : Turns → CounterTurns → Option Strip → Type 0
IsPlainStrip c t o = MatchOption o (counters_left t ≡ counters_left c.counters) (λ s. counters_left c.counters ≡ map works (strip_left s) ++ counters_left t)

pub strip_sound : (c : Turns) (t : CounterTurns) (o : Option Strip) → IsPlainStrip c t o → AreSound c → AreSoundCounters t → counters_tree t ≡ counters_tree c.counters → counters_plan t ≡ counters_plan c.counters → counters_processor t ≡ counters_processor c.counters → AreSound (record c { counters = t })
strip_sound c t None left = instances_sound c t [] (sym left)
strip_sound c t (Some s) left = instances_sound c t (strip_left s) left

pub strip_shown : (c : Turns) (t : CounterTurns) (o : Option Strip) → IsPlainStrip c t o → c.step ≡ c.steps → HasNoOwn (turns_tree c) (turns_plan c) c.place →
    MatchOption o (turns_left (record c { counters = t }) ≡ turns_left c) (λ s. turns_left c ≡ map (runs c.place) (strip_left s) ++ turns_left (record c { counters = t }))
strip_shown c t None left rounds none = sym (instances_left c t [] (sym left) rounds none)
strip_shown c t (Some s) left rounds none = instances_left c t (strip_left s) left rounds none

pub strip_begins : (c : Turns) (t : CounterTurns) (o : Option Strip) → IsPlainStrip c t o → beginnings (counters_left t) ≡ beginnings (counters_left c.counters)
strip_begins c t None left = ap beginnings left
strip_begins c t (Some s) left = strip_begun (strip_left s) (counters_left c.counters) (counters_left t) left
