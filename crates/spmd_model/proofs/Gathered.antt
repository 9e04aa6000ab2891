-- Barriers of a plan: what is gathered there, and how often.
use Rattle.std.proofs.Common.{◌≡◌, ◌≢◌, ◌&&◌, not, ℕ, zero, suc, ◌+◌, ◌-◌, ◌^◌, ◌<◌, ◌≤◌, ◌⊎◌, nat_lt, Bool, true, false, true≢false, List, [], ◌∷◌, length, map, take, drop, fold, Option, Some, None, refl, ap, sym, subst, ◌∙◌, inl, inr, ⊎_elim, arith, if◌then◌else◌, take_all, drop-cons, zero-add}
use Rattle.std.specs.Prelude.{slice_get}
use Rattle.std.specs.List.{Contains, filter, range_with_len}
use Rattle.std.proofs.lemmas.Bool.{and_parts, cases_Bool, cases_lt, ltb-true, ne_eqb}
use Rattle.std.proofs.lemmas.List.Sums.{fold-append}
use Rattle.std.proofs.lemmas.Option.{get_or_from_slice_get, slice_get_cases, slice_get_within}
use Rattle.list_lemmas.proofs.Gets.{one_element}
use Rattle.nest_tree.specs.Limits.{IsWithinLimits}
use Rattle.nest_tree.specs.Tree.{Tree, param_values}
use Rattle.nest_tree.specs.WellFormed.{IsWellFormed}
use Rattle.nest_tree.proofs.FirstLimits.{kept}
use Rattle.nest_model.specs.Visits.{Visit}
use Rattle.nest_model.proofs.Stops.{stops-few}
use Rattle.owner_partition.specs.Marks.{enters_outer}
use Rattle.owner_partition.specs.Phases.{phases}
use Rattle.sync_plan.specs.declared.plan.Kind.{Kind}
use Rattle.sync_plan.specs.declared.plan.Kind.TheVariants.{Nothing, Producer, Left, Right, Both, Barrier, Join}
use Rattle.sync_plan.specs.declared.plan.Plan.{Plan}
use Rattle.sync_plan.specs.Waits.{awaited_behind, does_wait_at, is_awaited_behind, posts_at, waits_for}
use Rattle.sync_plan.proofs.ProcessorSets.{any_from}
use Rattle.sync_plan.proofs.BarrierOrder.{in_filter}
use Rattle.spmd_model.specs.Timelines.{Job, Machine, Word, counter, signal, boundary, job}
use Rattle.spmd_model.specs.Acts.{Act, post, await, load, store, add, print, act_at, acts_of}
use Rattle.spmd_model.specs.Ordered.{IsSound}
use Rattle.spmd_model.specs.Lawful.{counted, counter_at}
use Rattle.spmd_model.specs.Planned.{boundary_of}
use Rattle.spmd_model.proofs.Counters.{counter_posted, counter_reaches, lower_in_front}
use Rattle.spmd_model.proofs.Lists.{take-more}
use Rattle.spmd_model.specs.Protocols.{is_arrival, passed_first, settled, shown, shown_behind}
use Rattle.sync_plan.specs.Boundaries.{gathers, is_barrier, kind_before}
use Rattle.spmd_model.proofs.Arrivals.{arrivals, boundaries, few_arrivals, front, weights}
use Rattle.spmd_model.proofs.Barriers.{AwaitsAll}

-- ---- at a barrier each processor awaits another

-- another processor
other_than : (p workers : ℕ) → 1 < workers → p < workers → (o : ℕ) × (o < workers) × (o ≢ p)
other_than zero workers some lt = (1, some, λ e. omega (arith, e))
other_than (suc p) workers some lt = (0, omega (arith, some), λ e. omega (arith, e))

first_among : (xs : List ℕ) (o : ℕ) → Contains xs o → (c : ℕ) × (rest : List ℕ) × (xs ≡ c ∷ rest)
first_among [] o among = absurd (omega (arith, among.1))
first_among (x ∷ xs) o among = (x, xs, refl)

apart_waits : (p q : ℕ) → p ≢ q → does_wait_at Barrier 0 p q ≡ true
apart_waits p q apart = ap (λ b. not b && true) (ne_eqb p q apart)

barrier_is : (o : Option Kind) → is_barrier o ≡ true → o ≡ Some Barrier
barrier_is None h = absurd (cc)
barrier_is (Some Nothing) h = absurd (cc)
barrier_is (Some (Producer a)) h = absurd (cc)
barrier_is (Some Left) h = absurd (cc)
barrier_is (Some Right) h = absurd (cc)
barrier_is (Some Both) h = absurd (cc)
barrier_is (Some Barrier) h = refl
barrier_is (Some Join) h = absurd (cc)

pub parts_of : (tree : Tree) (plan : Plan) (e n : ℕ) (v : Visit) (posts : ℕ → Bool) (awaits : ℕ → List ℕ) → boundary counter n posts awaits ≡ boundary_of tree plan e v →
    (n ≡ e - 1) × (posts ≡ (λ q. posts_at tree plan q v.place v.loops)) × (awaits ≡ (λ q. waits_for tree plan q v.place v.loops))
parts_of tree plan e n v posts awaits same = (cc, cc, cc)

-- at a phase's boundary where its number is gathered each processor posts, and awaits all others
pub all_at_boundary : (tree : Tree) (plan : Plan) (p k n : ℕ) (v : Visit) (posts : ℕ → Bool) (awaits : ℕ → List ℕ) → p < plan.workers → slice_get (phases tree plan.cut.marks) k ≡ Some v → boundary counter n posts awaits ≡ boundary_of tree plan (1 + k) v →
    gathers tree plan n ≡ true → AwaitsAll plan.workers p posts awaits
all_at_boundary tree plan p k n v posts awaits inside at is g =
    let parts = parts_of tree plan (1 + k) n v posts awaits is in
    let number : n ≡ k = omega (arith, parts.0) in
    let both = and_parts (is_barrier (kind_before plan (slice_get (phases tree plan.cut.marks) n))) (nat_lt 1 plan.workers) g in
    let kind : slice_get plan.kinds (v.place - 1) ≡ Some Barrier =
    barrier_is (slice_get plan.kinds (v.place - 1)) (sym (ap (λ o. is_barrier (kind_before plan o)) (ap (slice_get (phases tree plan.cut.marks)) number ∙ at)) ∙ both.0) in
    let o = other_than p plan.workers (ltb-true 1 plan.workers both.1) inside in
    let awaited : awaits p ≡ filter (does_wait_at Barrier 0 p) (range_with_len 0 plan.workers) = ap (λ f. f p) parts.2 ∙ ap (λ k. awaited_behind k plan.workers v.loops (param_values tree) p) kind in
    let each : (q : ℕ) → q < plan.workers → q ≢ p → Contains (awaits p) q = λ q below apart. subst (λ xs. Contains xs q) (sym awaited) (in_filter (does_wait_at Barrier 0 p) 0 plan.workers q (omega arith) (omega (arith, below)) (apart_waits p q (λ e. apart (sym e)))) in
    let posts_here = any_from (λ q. does_wait_at Barrier 0 q p) 0 plan.workers o.0 (omega arith) (omega (arith, o.1)) (apart_waits o.0 p o.2) in record {
      does_post = ap (λ f. f p) parts.1 ∙ ap (λ k. is_awaited_behind k plan.workers v.loops (param_values tree) p) kind ∙ posts_here;
      some = first_among (awaits p) o.0 (each o.0 o.1 o.2);
      each = each;
    }

pub await_settled : (cells : ℕ) (acts : List Act) (i o n : ℕ) → slice_get acts i ≡ Some (await counter o n) → settled cells acts i ≡ i
await_settled cells acts i o n e =
    let first : drop i acts ≡ await counter o n ∷ drop (suc i) acts = drop-cons acts i (await counter o n) (slice_get_within acts i (await counter o n) e) ∙ ap (λ a. a ∷ drop (suc i) acts) (get_or_from_slice_get acts i (await counter o n) (await counter o n) e) in
    let none : passed_first cells (drop i acts) ≡ 0 = ap (passed_first cells) first in
    omega (arith, none)

-- ---- how often a processor arrives

pub phases_few : (tree : Tree) (plan : Plan) → IsWellFormed tree → IsWithinLimits tree → length (phases tree plan.cut.marks) ≤ 2 ^ 40
phases_few tree plan formed limits = most (stops-few tree (enters_outer plan.cut.marks) formed) (kept tree limits).most_worked
  where
    most : {a b c : ℕ} → a ≤ b → b ≤ c → a ≤ c
    most le le' = omega (arith, le, le')

-- along a timeline with at most so many boundaries on counters
pub arrive_few : (m : Machine) (gathered : ℕ → Bool) (most : ℕ) → boundaries m.timeline ≤ most → (p k : ℕ) → arrivals gathered (take k (acts_of m p)) ≤ most
arrive_few m gathered most few p k =
    let some = front gathered (acts_of m p) k in
    let all = few_arrivals gathered p 0 m.timeline in
    omega (arith, some, all, few)

pub no_weight : {X : Type 0} (gathered : ℕ → Bool) (f : X → Job) (is : List X) → weights gathered (map (λ i. job (f i)) is) ≡ 0
no_weight gathered f [] = refl
no_weight gathered f (i ∷ is) = zero-add (weights gathered (map (λ k. job (f k)) is)) ∙ no_weight gathered f is

-- ---- words

-- a post on a word is an arrival or on another word, and changes nothing; or the word shows it
post_shows : (gathers : ℕ → Bool) (w v : Word) (n s : ℕ) → ((shown_behind gathers w v n s ≡ s) × (w ≡ v → is_arrival gathers w n ≡ true)) ⊎ ((w ≡ v) × (is_arrival gathers w n ≡ false) × (shown_behind gathers w v n s ≡ n))
post_shows gathers counter counter n s = elim (cases_Bool (gathers n)) [
  | inl arrives ↦ inl (ap (λ b. if b then s else n) arrives, λ e. arrives)
  | inr not_so ↦ inr (refl, not_so, ap (λ b. if b then s else n) not_so)
]
post_shows gathers counter signal n s = inl (refl, λ e. absurd (cc))
post_shows gathers signal counter n s = inl (refl, λ e. absurd (cc))
post_shows gathers signal signal n s = inr (refl, refl, refl)

module _ (m : Machine) (gathers : ℕ → Bool) (w : Word) (q : ℕ) (sound : IsSound m) where
  abbrev shown_by : ℕ → ℕ
  shown_by k = fold (shown gathers w) 0 (take k (acts_of m q))

  shown_more : (k : ℕ) (a : Act) → act_at m q k ≡ Some a → shown_by (suc k) ≡ shown gathers w (shown_by k) a
  shown_more k a e = ap (fold (shown gathers w) 0) (take-more (acts_of m q) k a e) ∙ fold-append (shown gathers w) 0 (take k (acts_of m q)) (a ∷ [])

  shown_past : (k : ℕ) → length (acts_of m q) ≤ k → shown_by (suc k) ≡ shown_by k
  shown_past k le = ap (fold (shown gathers w) 0) (take_all (suc k) (acts_of m q) (omega (arith, le)) ∙ sym (take_all k (acts_of m q) le))

  -- it shows no more than the last post
  pub shows_less : (k : ℕ) → shown_by k ≤ counter_at m w q k
  shows_less zero = omega arith
  shows_less (suc k) = elim ((slice_get_cases (acts_of m q) k).1) [
    | inl h ↦ by (shows_less k) h.0 h.2 (shown_more k h.0 h.2)
    | inr h ↦
        let whole : counter_at m w q (suc k) ≡ counter_at m w q k = ap (fold (counted w) 0) (take_all (suc k) (acts_of m q) (omega (arith, h.0)) ∙ sym (take_all k (acts_of m q) h.0)) in
        omega (arith, shown_past k h.0, whole, shows_less k)
  ]
    where
      counter_more : (a : Act) → act_at m q k ≡ Some a → counter_at m w q (suc k) ≡ counted w (counter_at m w q k) a
      counter_more a e = ap (fold (counted w) 0) (take-more (acts_of m q) k a e) ∙ fold-append (counted w) 0 (take k (acts_of m q)) (a ∷ [])

      -- the counter never falls
      rises : (a : Act) → act_at m q k ≡ Some a → counter_at m w q k ≤ counter_at m w q (suc k)
      rises a e = ⊎_elim
          (λ some. let p = counter_posted m w q k some in counter_reaches m w q (suc k) p.0 (counter_at m w q k) sound p.2 (omega (arith, p.1)))
          (λ none. omega (arith, none)) (cases_lt 0 (counter_at m w q k))

      by : shown_by k ≤ counter_at m w q k → (a : Act) → act_at m q k ≡ Some a → shown_by (suc k) ≡ shown gathers w (shown_by k) a → shown_by (suc k) ≤ counter_at m w q (suc k)
      by before (post v n) e more = elim (post_shows gathers w v n (shown_by k)) [
        | inl stays ↦ omega (arith, more, stays.0, before, rises (post v n) e)
        | inr (same, no_arrival, shows) ↦ omega (arith, more, shows, counter_reaches m w q (suc k) k n sound (subst (λ x. act_at m q k ≡ Some (post x n)) (sym same) e) (omega arith))
      ]
      by before (await v o n) e more = omega (arith, more, before, rises (await v o n) e)
      by before (load t c) e more = omega (arith, more, before, rises (load t c) e)
      by before (store t c) e more = omega (arith, more, before, rises (store t c) e)
      by before (add t c) e more = omega (arith, more, before, rises (add t c) e)
      by before (print t) e more = omega (arith, more, before, rises (print t) e)

  -- behind a post that is no arrival it shows that number at least
  pub shows_post : (n k l : ℕ) → is_arrival gathers w n ≡ false → act_at m q l ≡ Some (post w n) → l < k → n ≤ shown_by k
  shows_post n zero l plain e lt = absurd (omega (arith, lt))
  shows_post n (suc k) l plain e lt = elim ((slice_get_cases (acts_of m q) k).1) [
    | inl h ↦ by (shows_post n k l plain e) h.0 h.2 (shown_more k h.0 h.2)
    | inr h ↦
        let before = shows_post n k l plain e (omega (arith, slice_get_within (acts_of m q) l (post w n) e, h.0)) in
        omega (arith, shown_past k h.0, before)
  ]
    where
      in_front : (a : Act) → act_at m q k ≡ Some a → (a ≡ post w n → ⊥) → l < k
      in_front a g apart = ⊎_elim (λ less. less) (λ le. let here : l ≡ k = omega (arith, lt, le) in absurd (apart (one_element (act_at m q k) a (post w n) g (ap (act_at m q) (sym here) ∙ e)))) (cases_lt l k)

      kept : (l < k → n ≤ shown_by k) → (a : Act) → act_at m q k ≡ Some a → (a ≡ post w n → ⊥) → shown_by (suc k) ≡ shown_by k → n ≤ shown_by (suc k)
      kept before a g apart same = let le = before (in_front a g apart) in omega (arith, le, same)

      by : (l < k → n ≤ shown_by k) → (a : Act) → act_at m q k ≡ Some a → shown_by (suc k) ≡ shown gathers w (shown_by k) a → n ≤ shown_by (suc k)
      by before (post v i) g more = elim (post_shows gathers w v i (shown_by k)) [
        | inl stays ↦ kept before (post v i) g (λ c. let word : v ≡ w = cc in let number : i ≡ n = cc in true≢false (sym (stays.1 (sym word)) ∙ ap (is_arrival gathers w) number ∙ plain)) (more ∙ stays.0)
        | inr (same, no_arrival, shows) ↦ ⊎_elim
            (λ lower. let behind = lower_in_front m w q k l i n sound (subst (λ x. act_at m q k ≡ Some (post x i)) (sym same) g) e lower in absurd (omega (arith, behind, lt)))
            (λ le. omega (arith, more, shows, le)) (cases_lt i n)
      ]
      by before (await v o i) g more = kept before (await v o i) g (λ c. absurd (cc)) more
      by before (load t c) g more = kept before (load t c) g (λ x. absurd (cc)) more
      by before (store t c) g more = kept before (store t c) g (λ x. absurd (cc)) more
      by before (add t c) g more = kept before (add t c) g (λ x. absurd (cc)) more
      by before (print t) g more = kept before (print t) g (λ x. absurd (cc)) more
