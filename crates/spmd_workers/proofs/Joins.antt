-- Behind a processor's post at a join it awaits another, where there are several.
use Rattle.std.proofs.Common.{◌≡◌, ◌==◌, ◌&&◌, ◌%◌, ◌/◌, ◌*◌, ℕ, zero, suc, ◌+◌, ◌-◌, ◌<◌, ◌≤◌, nat_lt, Bool, true, false, true≢false, not, List, [], ◌∷◌, ◌++◌, map, Option, Some, None, refl, sym, ◌∙◌, ap, inl, inr, arith, cond, if◌then◌else◌, append_assoc, append-nil}
use Rattle.std.specs.Prelude.{slice_get}
use Rattle.std.specs.List.{filter, range_with_len}
use Rattle.std.proofs.lemmas.Bool.{cases_Bool, eqb-true}
use Rattle.nest_tree.specs.Tree.{Tree, param_values}
use Rattle.nest_model.specs.Instances.{Instance}
use Rattle.nest_model.specs.Visits.{Visit}
use Rattle.owner_partition.specs.Phases.{phases}
use Rattle.sync_plan.specs.Boundaries.{is_barrier, is_join, joins, kind_before}
use Rattle.sync_plan.specs.Waits.{awaited_at, awaited_behind, does_wait_at, posts_at, waits_for}
use Rattle.sync_plan.specs.declared.plan.Kind.{Kind}
use Rattle.sync_plan.specs.declared.plan.Kind.TheVariants.{Nothing, Producer, Left, Right, Both, Barrier, Join}
use Rattle.sync_plan.specs.declared.plan.Plan.{Plan}
use Rattle.spmd_model.specs.Deeds.{owned_by}
use Rattle.spmd_model.specs.Rounds.{awaited_in_round, rounds_of}
use Rattle.spmd_model.specs.Timelines.{counter, signal}
use Rattle.spmd_model.specs.declared.style.Style.{Style}
use Rattle.spmd_model.specs.declared.style.Style.TheVariants.{Arrive, Dissemination}
use Rattle.turns.specs.CounterTurns.{CounterTurn, awaits, begins, boundary_turns, posts, counter_turns, works}
use Rattle.turns.specs.Turns.{Standing, Turn, sets, waits, runs, closes, all_rounds, begun, behind, closed, first_round, first_standing, has_signals, is_signalled, places_pending, round_turn, rounds_before, turns_by}
use Rattle.turns.specs.TurnsLeft.{turns_left}
use Rattle.shared_words.specs.Homes.{protocol_at}
use Rattle.spmd_workers.specs.Places.{plan_at, style_at, tree_at}
use Rattle.spmd_workers.specs.Walks.{IsWalk}
use Rattle.spmd_workers.specs.declared.walk.Walk.{Walk}

-- turns among which no number is posted
NoPost : List CounterTurn → Type 0
NoPost ts = (k n : ℕ) → slice_get ts k ≡ Some (posts n) → ⊥

none_works : (is : List Instance) → NoPost (map works is)
unfolding NoPost
none_works [] k n e = absurd (cc)
none_works (i ∷ is) zero n e = absurd (cc)
none_works (i ∷ is) (suc k) n e = none_works is k n e

none_append : (xs ys : List CounterTurn) → NoPost xs → NoPost ys → NoPost (xs ++ ys)
unfolding NoPost
none_append [] ys first second k n e = second k n e
none_append (x ∷ xs) ys first second zero n e = first 0 n e
none_append (x ∷ xs) ys first second (suc k) n e = none_append xs ys (λ j m is. first (suc j) m is) second k n e

none_awaits : (w : ℕ) (qs : List ℕ) → NoPost (map (λ q. awaits q w) qs)
unfolding NoPost
none_awaits w [] k n e = absurd (cc)
none_awaits w (q ∷ qs) zero n e = absurd (cc)
none_awaits w (q ∷ qs) (suc k) n e = none_awaits w qs k n e

none_begins : (b : ℕ) (is : List Instance) → NoPost (begins b ∷ map works is)
unfolding NoPost
none_begins b is zero n e = absurd (cc)
none_begins b is (suc k) n e = none_works is k n e

past : (xs ys front rest : List CounterTurn) (n : ℕ) → NoPost xs → xs ++ ys ≡ front ++ (posts n ∷ rest) → (more : List CounterTurn) × (ys ≡ more ++ (posts n ∷ rest))
unfolding NoPost
past [] ys front rest n none is = (front, is)
past (x ∷ xs) ys [] rest n none is = let both : x ∷ (xs ++ ys) ≡ posts n ∷ rest = is in let first : x ≡ posts n = cc in absurd (none 0 n (ap (λ t. Some t) first))
past (x ∷ xs) ys (f ∷ front) rest n none is = let both : x ∷ (xs ++ ys) ≡ f ∷ (front ++ (posts n ∷ rest)) = is in let later : xs ++ ys ≡ front ++ (posts n ∷ rest) = cc in past xs ys front rest n (λ k m e. none (suc k) m e) later

-- behind a post stand the awaits of its phase
pub record Behind (tree : Tree) (plan : Plan) (p number : ℕ) (all : List Visit) (e : ℕ) (rest : List CounterTurn) : Type 0 where
  pub visit : Visit
  pub before : e ≤ suc number
  pub stands : slice_get all (suc number - e) ≡ Some visit
  pub more : List CounterTurn
  pub is : rest ≡ map (λ q. awaits q number) (waits_for tree plan p visit.place visit.loops) ++ more

module _ (tree : Tree) (plan : Plan) (p : ℕ) where
  own : Visit → List Instance
  own v = owned_by tree (slice_get plan.anchors (v.place - 1)) plan.workers p v

  later : (v : Visit) (vs : List Visit) (e number : ℕ) (rest : List CounterTurn) → Behind tree plan p number vs (suc e) rest → Behind tree plan p number (v ∷ vs) e rest
  later v vs e number rest b =
      let high = b.before in
      let one : suc number - e ≡ suc (suc number - suc e) = omega (arith, high) in
      record { visit = b.visit; before = omega (arith, high); stands = ap (slice_get (v ∷ vs)) one ∙ b.stands; more = b.more; is = b.is }

  abbrev qs : Visit → List ℕ
  qs v = waits_for tree plan p v.place v.loops

  abbrev tail : ℕ → Visit → List CounterTurn
  tail e v = begins e ∷ map works (own v)

  none_behind : (e : ℕ) (v : Visit) → NoPost (map (λ q. awaits q (e - 1)) (qs v) ++ tail e v)
  none_behind e v = none_append (map (λ q. awaits q (e - 1)) (qs v)) (tail e v) (none_awaits (e - 1) (qs v)) (none_begins e (own v))

  -- the post is this phase's, or a later one's
  by_boundary : (e : ℕ) (v : Visit) (vs : List Visit) (rest : List CounterTurn) (number : ℕ) → 1 ≤ e → ((front : List CounterTurn) → counter_turns tree plan p (suc e) vs ≡ front ++ (posts number ∷ rest) → Behind tree plan p number vs (suc e) rest)
      → (does : Bool) (f : List CounterTurn) → (boundary_turns (e - 1) does (qs v) ++ tail e v) ++ counter_turns tree plan p (suc e) vs ≡ f ++ (posts number ∷ rest) → Behind tree plan p number (v ∷ vs) e rest
  by_boundary e v vs rest number some again = by
    where
      ahead : (f : List CounterTurn) → (map (λ q. awaits q (e - 1)) (qs v) ++ tail e v) ++ counter_turns tree plan p (suc e) vs ≡ f ++ (posts number ∷ rest) → Behind tree plan p number (v ∷ vs) e rest
      ahead f same = let next = past (map (λ q. awaits q (e - 1)) (qs v) ++ tail e v) (counter_turns tree plan p (suc e) vs) f rest number (none_behind e v) same in later v vs e number rest (again next.0 next.1)

      by : (does : Bool) (f : List CounterTurn) → (boundary_turns (e - 1) does (qs v) ++ tail e v) ++ counter_turns tree plan p (suc e) vs ≡ f ++ (posts number ∷ rest) → Behind tree plan p number (v ∷ vs) e rest
      by false f same = ahead f same
      by true [] same =
          let both : posts (e - 1) ∷ ((map (λ q. awaits q (e - 1)) (qs v) ++ tail e v) ++ counter_turns tree plan p (suc e) vs) ≡ posts number ∷ rest = same in
          let number_is : e - 1 ≡ number = cc in
          let behind : (map (λ q. awaits q (e - 1)) (qs v) ++ tail e v) ++ counter_turns tree plan p (suc e) vs ≡ rest = cc in
          let first : suc number - e ≡ 0 = omega (arith, number_is, some) in
          record {
            visit = v;
            before = omega (arith, number_is, some);
            stands = ap (slice_get (v ∷ vs)) first;
            more = tail e v ++ counter_turns tree plan p (suc e) vs;
            is = sym behind ∙ append_assoc (map (λ q. awaits q (e - 1)) (qs v)) (tail e v) (counter_turns tree plan p (suc e) vs) ∙ ap (λ n. map (λ q. awaits q n) (qs v) ++ (tail e v ++ counter_turns tree plan p (suc e) vs)) number_is;
          }
      by true (f ∷ fs) same =
          let both : posts (e - 1) ∷ ((map (λ q. awaits q (e - 1)) (qs v) ++ tail e v) ++ counter_turns tree plan p (suc e) vs) ≡ f ∷ (fs ++ (posts number ∷ rest)) = same in
          let behind : (map (λ q. awaits q (e - 1)) (qs v) ++ tail e v) ++ counter_turns tree plan p (suc e) vs ≡ fs ++ (posts number ∷ rest) = cc in
          ahead fs behind

  pub behind_post : (e : ℕ) (vs : List Visit) (front rest : List CounterTurn) (number : ℕ) → 1 ≤ e → counter_turns tree plan p e vs ≡ front ++ (posts number ∷ rest) → Behind tree plan p number vs e rest
  unfolding own
  behind_post e [] [] rest number some is = absurd (let clash : [] ≡ posts number ∷ rest = is in cc)
  behind_post e [] (f ∷ front) rest number some is = absurd (let clash : [] ≡ f ∷ (front ++ (posts number ∷ rest)) = is in cc)
  behind_post e (v ∷ vs) front rest number some is = by_boundary e v vs rest number some (λ f same. behind_post (suc e) vs f rest number (omega arith) same) (posts_at tree plan p v.place v.loops) front is

-- ---- at a join

join_kind : (k : Option Kind) → is_join k ≡ true → k ≡ Some Join
join_kind None h = absurd (true≢false (sym h))
join_kind (Some Nothing) h = absurd (true≢false (sym h))
join_kind (Some (Producer a)) h = absurd (true≢false (sym h))
join_kind (Some Left) h = absurd (true≢false (sym h))
join_kind (Some Right) h = absurd (true≢false (sym h))
join_kind (Some Both) h = absurd (true≢false (sym h))
join_kind (Some Barrier) h = absurd (true≢false (sym h))
join_kind (Some Join) h = refl

-- somebody is awaited
awaits_some : (workers p : ℕ) → 1 < workers → (q : ℕ) × (qs : List ℕ) × (awaited_at Join 0 workers p ≡ q ∷ qs)
awaits_some zero p several = absurd (omega (arith, several))
awaits_some (suc zero) p several = absurd (omega (arith, several))
awaits_some (suc (suc w)) p several = elim (cases_Bool (p == 0)) [
  | inl first ↦ (1, filter (does_wait_at Join 0 0) (range_with_len 2 w), ap (λ k. awaited_at Join 0 (suc (suc w)) k) (eqb-true p 0 first))
  | inr other ↦ let there : not (p == 0) ≡ true = ap not other in (
    0,
    filter (does_wait_at Join 0 p) (range_with_len 1 (suc w)),
    ap (λ b. cond (b && true) (0 ∷ filter (does_wait_at Join 0 p) (range_with_len 1 (suc w))) (filter (does_wait_at Join 0 p) (range_with_len 1 (suc w)))) there,
  )
]

pub join_waits : (tree : Tree) (plan : Plan) (p : ℕ) (front left : List CounterTurn) (number : ℕ) → 1 < plan.workers → counter_turns tree plan p 1 (phases tree plan.cut.marks) ≡ front ++ (posts number ∷ left) → joins tree plan number ≡ true → (q : ℕ) × (rest : List CounterTurn) × (left ≡ awaits q number ∷ rest)
join_waits tree plan p front left number several is join =
    let b = behind_post tree plan p 1 (phases tree plan.cut.marks) front left number (omega arith) is in
    let at : suc number - 1 ≡ number = omega arith in
    let v = b.visit in
    let there : slice_get (phases tree plan.cut.marks) number ≡ Some v = ap (slice_get (phases tree plan.cut.marks)) (sym at) ∙ b.stands in
    let kind = join_kind (slice_get plan.kinds (v.place - 1)) (sym (ap (λ o. is_join (kind_before plan o)) there) ∙ join) in
    let some = awaits_some plan.workers p several in
    let all : waits_for tree plan p v.place v.loops ≡ some.0 ∷ some.1 = ap (λ k. awaited_behind k plan.workers v.loops (param_values tree) p) kind ∙ some.2 in
    (some.0, map (λ q. awaits q number) some.1 ++ b.more, b.is ∙ ap (λ qs. map (λ q. awaits q number) qs ++ b.more) all)

-- ---- among turns

-- turns among which no counter is set
NoSet : List Turn → Type 0
NoSet ts = (k n : ℕ) → slice_get ts k ≡ Some (sets counter n) → ⊥

none_closed : (place : ℕ) (ks : List ℕ) → NoSet (map (closes place) ks)
unfolding NoSet
none_closed place [] k n e = absurd (cc)
none_closed place (j ∷ ks) zero n e = absurd (cc)
none_closed place (j ∷ ks) (suc k) n e = none_closed place ks k n e

no_half : (b : Bool) (m q w n : ℕ) → Some (if b then sets signal m else waits signal q w) ≡ Some (sets counter n) → ⊥
no_half true m q w n e = absurd (cc)
no_half false m q w n e = absurd (cc)

none_rounds : (workers p first : ℕ) (steps : List ℕ) → NoSet (map (round_turn workers p first) steps)
unfolding NoSet
none_rounds workers p first [] k n e = absurd (cc)
none_rounds workers p first (s ∷ steps) zero n e = no_half (s % 2 == 0) (first + s / 2) (awaited_in_round workers (s / 2) p) (first + s / 2) n e
none_rounds workers p first (s ∷ steps) (suc k) n e = none_rounds workers p first steps k n e

none_before : (b : Bool) (workers p barriers : ℕ) → NoSet (if b then all_rounds workers p barriers else [])
unfolding NoSet
none_before true workers p barriers k n e = none_rounds workers p (first_round workers barriers) (range_with_len 0 (rounds_of workers * 2)) k n e
none_before false workers p barriers k n e = absurd (cc)

none_waited : (b : Bool) (q w : ℕ) → NoSet (if b then [] else waits counter q w ∷ [])
unfolding NoSet
none_waited true q w k n e = absurd (cc)
none_waited false q w zero n e = absurd (cc)
none_waited false q w (suc k) n e = absurd (cc)

past_set : (xs ys front left : List Turn) (n : ℕ) → NoSet xs → xs ++ ys ≡ front ++ (sets counter n ∷ left) → (more : List Turn) × (ys ≡ more ++ (sets counter n ∷ left))
unfolding NoSet
past_set [] ys front left n none is = (front, is)
past_set (x ∷ xs) ys [] left n none is = let both : x ∷ (xs ++ ys) ≡ sets counter n ∷ left = is in let first : x ≡ sets counter n = cc in absurd (none 0 n (ap (λ t. Some t) first))
past_set (x ∷ xs) ys (f ∷ front) left n none is = let both : x ∷ (xs ++ ys) ≡ f ∷ (front ++ (sets counter n ∷ left)) = is in let later : xs ++ ys ≡ front ++ (sets counter n ∷ left) = cc in past_set xs ys front left n (λ k m e. none (suc k) m e) later

-- a counter's post is one of the counter turns, and behind it stands what is behind that
record Among (style : Style) (tree : Tree) (plan : Plan) (p n : ℕ) (ts : List CounterTurn) (left : List Turn) : Type 0 where
  pub front : List CounterTurn
  pub rest : List CounterTurn
  pub s : Standing
  pub is : ts ≡ front ++ (posts n ∷ rest)
  pub left_is : left ≡ turns_by style tree plan p (closed s) rest

module _ (style : Style) (tree : Tree) (plan : Plan) (p n : ℕ) where
  one_more : (t : CounterTurn) (ts : List CounterTurn) (left : List Turn) → Among style tree plan p n ts left → Among style tree plan p n (t ∷ ts) left
  one_more t ts left a = record { front = t ∷ a.front; rest = a.rest; s = a.s; is = ap (λ l. t ∷ l) a.is; left_is = a.left_is }

  among : (s : Standing) (ts : List CounterTurn) (front left : List Turn) → turns_by style tree plan p s ts ≡ front ++ (sets counter n ∷ left) → Among style tree plan p n ts left
  among s [] front left is =
      let one = past_set (map (closes s.place) (places_pending s.pending)) [] front left n (none_closed s.place (places_pending s.pending)) (append-nil (map (closes s.place) (places_pending s.pending)) ∙ is) in
      absurd (nothing one.0 one.1)
    where
      nothing : (more : List Turn) → [] ≡ more ++ (sets counter n ∷ left) → ⊥
      nothing [] e = absurd (let clash : [] ≡ sets counter n ∷ left = e in cc)
      nothing (m ∷ more) e = absurd (let clash : [] ≡ m ∷ (more ++ (sets counter n ∷ left)) = e in cc)
  among s (posts m ∷ ts) front left is = by (λ more e. among (closed s) ts more left e) (is_signalled style tree plan m) refl one.0 one.1
    where
      one : (more : List Turn) × ((if is_signalled style tree plan m then [] else sets counter m ∷ []) ++ turns_by style tree plan p (closed s) ts ≡ more ++ (sets counter n ∷ left))
      one = past_set (map (closes s.place) (places_pending s.pending)) ((if is_signalled style tree plan m then [] else sets counter m ∷ []) ++ turns_by style tree plan p (closed s) ts) front left n (none_closed s.place (places_pending s.pending)) is

      by : ((more : List Turn) → turns_by style tree plan p (closed s) ts ≡ more ++ (sets counter n ∷ left) → Among style tree plan p n ts left) → (b : Bool) → is_signalled style tree plan m ≡ b → (more : List Turn)
          → (if is_signalled style tree plan m then [] else sets counter m ∷ []) ++ turns_by style tree plan p (closed s) ts ≡ more ++ (sets counter n ∷ left) → Among style tree plan p n (posts m ∷ ts) left
      by again true on_signals more e = one_more (posts m) ts left (again more (sym (ap (λ b. (if b then [] else sets counter m ∷ []) ++ turns_by style tree plan p (closed s) ts) on_signals) ∙ e))
      by again false off [] e =
          let both : sets counter m ∷ turns_by style tree plan p (closed s) ts ≡ sets counter n ∷ left = sym (ap (λ b. (if b then [] else sets counter m ∷ []) ++ turns_by style tree plan p (closed s) ts) off) ∙ e in
          let number : m ≡ n = cc in
          let tail : turns_by style tree plan p (closed s) ts ≡ left = cc in
          record { front = []; rest = ts; s = s; is = ap (λ k. posts k ∷ ts) number; left_is = sym tail }
      by again false off (x ∷ more) e =
          let both : sets counter m ∷ turns_by style tree plan p (closed s) ts ≡ x ∷ (more ++ (sets counter n ∷ left)) = sym (ap (λ b. (if b then [] else sets counter m ∷ []) ++ turns_by style tree plan p (closed s) ts) off) ∙ e in
          let tail : turns_by style tree plan p (closed s) ts ≡ more ++ (sets counter n ∷ left) = cc in
          one_more (posts m) ts left (again more tail)
  among s (awaits q m ∷ ts) front left is =
      let later = turns_by style tree plan p (closed s) ts in
      let waited = if is_signalled style tree plan m then [] else waits counter q m ∷ [] in
      let one = past_set (map (closes s.place) (places_pending s.pending)) (waited ++ later) front left n (none_closed s.place (places_pending s.pending)) is in
      let two = past_set waited later one.0 left n (none_waited (is_signalled style tree plan m) q m) one.1 in
      one_more (awaits q m) ts left (among (closed s) ts two.0 left two.1)
  among s (begins e ∷ ts) front left is =
      let later = turns_by style tree plan p (begun style tree plan s e) ts in
      let before = rounds_before style tree plan p s e in
      let one = past_set (map (closes s.place) (places_pending s.pending)) (before ++ later) front left n (none_closed s.place (places_pending s.pending)) is in
      let two = past_set before later one.0 left n (none_before (has_signals style plan (slice_get (phases tree plan.cut.marks) (e - 1))) plan.workers p s.barriers) one.1 in
      one_more (begins e) ts left (among (begun style tree plan s e) ts two.0 left two.1)
  among s (works i ∷ ts) front left is = by (λ f e. among (behind tree plan s i) ts f left e) front is
    where
      by : ((f : List Turn) → turns_by style tree plan p (behind tree plan s i) ts ≡ f ++ (sets counter n ∷ left) → Among style tree plan p n ts left) → (f : List Turn) → runs s.place i ∷ turns_by style tree plan p (behind tree plan s i) ts ≡ f ++ (sets counter n ∷ left) → Among style tree plan p n (works i ∷ ts) left
      by again [] e = absurd (let clash : runs s.place i ∷ turns_by style tree plan p (behind tree plan s i) ts ≡ sets counter n ∷ left = e in cc)
      by again (x ∷ f) e = let both : runs s.place i ∷ turns_by style tree plan p (behind tree plan s i) ts ≡ x ∷ (f ++ (sets counter n ∷ left)) = e in let tail : turns_by style tree plan p (behind tree plan s i) ts ≡ f ++ (sets counter n ∷ left) = cc in one_more (works i) ts left (again f tail)

-- no signals stand at a join
join_gathers : (k : Option Kind) (b : Bool) → is_join k ≡ true → (is_barrier k && b) ≡ false
join_gathers k b join = ap (λ o. is_barrier o && b) (join_kind k join)

join_unsignalled : (style : Style) (tree : Tree) (plan : Plan) (number : ℕ) → joins tree plan number ≡ true → is_signalled style tree plan number ≡ false
join_unsignalled Arrive tree plan number join = refl
join_unsignalled Dissemination tree plan number join = join_gathers (kind_before plan (slice_get (phases tree plan.cut.marks) number)) (nat_lt 1 plan.workers) join

-- so one of several awaits another next behind its post
pub join_awaits : (x : Walk) (ready : IsWalk x) (number : ℕ) (left : List Turn) → turns_left x.turns ≡ sets counter number ∷ left → joins (tree_at x.seat.home) (plan_at x.seat.home) number ≡ true → 1 < (protocol_at x.seat.home).workers → (q : ℕ) × (rest : List Turn) × (left ≡ waits counter q number ∷ rest)
join_awaits x ready number left turns join several =
    let style = style_at x.seat.home in
    let tree = tree_at x.seat.home in
    let plan = plan_at x.seat.home in
    let p = x.seat.processor in
    let a = among style tree plan p number first_standing (counter_turns tree plan p 1 (phases tree plan.cut.marks)) ready.front left (ready.behind ∙ ap (λ l. ready.front ++ l) turns) in
    let (q, rest, next) = join_waits tree plan p a.front a.rest number several a.is join in
    let later = turns_by style tree plan p (closed (closed a.s)) rest in
    (q, later, a.left_is ∙ ap (turns_by style tree plan p (closed a.s)) next ∙ ap (λ b. (if b then [] else waits counter q number ∷ []) ++ later) (join_unsignalled style tree plan number join))
