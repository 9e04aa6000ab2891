-- One turn of a walk: a post and an await of either word.
use Rattle.std.proofs.Common.{◌≡◌, ℕ, zero, suc, ◌+◌, ◌-◌, ◌<◌, ◌≤◌, ◌&&◌, true, false, true≢false, nat_lt, List, [], ◌∷◌, length, drop, Option, Some, None, refl, sym, ◌∙◌, ap, subst, inl, inr, ⊎_elim, arith, if◌then◌else◌}
use Rattle.std.specs.Prelude.{slice_get}
use Rattle.std.proofs.lemmas.Bool.{cases_Bool, cases_eq, cases_lt}
use Rattle.nest_tree.specs.Layout.{cell_count}
use Rattle.owner_partition.specs.Phases.{phases}
use Rattle.sync_plan.specs.declared.plan.Kind.{Kind}
use Rattle.sync_plan.specs.declared.plan.Kind.TheVariants.{Nothing, Producer, Left, Right, Both}
use Rattle.sync_plan.specs.declared.plan.Kind.TheVariants as kinds
use Rattle.sync_plan.specs.Boundaries.{is_barrier, is_join, joins, kind_before}
use Rattle.spmd_model.specs.Deeds.{awaiting, posting}
use Rattle.spmd_model.specs.Timelines.{Word, counter, signal}
use Rattle.spmd_model.specs.Acts.{Act, await, post}
use Rattle.spmd_model.specs.Protocols.{act_at, is_passed, passed_first, settled}
use Rattle.spmd_model.proofs.ProtocolLists.{get_drop}
use Rattle.instance_runs.specs.Executors.{CanExecute, executor_output, executor_room, executor_tree}
use Rattle.turns.specs.CounterTurns.{boundary_at, boundary_by}
use Rattle.turns.specs.declared.counters.Boundary.{Boundary}
use Rattle.turns.specs.declared.counters.Boundary.TheVariants.{Counters, Barrier, Join}
use Rattle.turns.specs.Turns.{Turn, sets, waits}
use Rattle.turns.specs.TurnsLeft.{AreSound, IsSameRun, beginnings_left, turns_left, turns_plan, turns_tree}
use Rattle.turns.specs.declared.turns.Turns.{Turns}
use Rattle.shared_words.specs.Places.{settled_at}
use Rattle.shared_words.specs.Homes.{CellView, Home, gone, next_act, protocol_at}
use Rattle.spmd_workers.specs.Held.{AreHeld}
use Rattle.spmd_workers.specs.Legs.{AreAnswered, IsFurther, IsSameSeat}
use Rattle.spmd_workers.specs.Places.{deeds_in, held_cells, plan_at, printed_behind, registers_behind, tree_at}
use Rattle.spmd_workers.specs.Walks.{IsWalk, LeadsOn, walk_place}
use Rattle.spmd_workers.specs.declared.walk.Walk.{Walk}
use Rattle.spmd_workers.proofs.Acts.{await_stands, await_there, post_stands, post_there}
use Rattle.spmd_workers.proofs.OwnHeld.{await_keeps, post_keeps}
use Rattle.spmd_workers.proofs.Walks.{HasCome, Passes, at_deed, its_worker}

-- ---- how a boundary is passed

pub counters_are : (k : Option Kind) (w : ℕ) → boundary_by k w ≡ Counters → (is_join k ≡ false) × ((is_barrier k && nat_lt 1 w) ≡ false)
counters_are k w is = elim (cases_Bool (is_join k)) [
  | inl join ↦ (let clash : Join ≡ Counters = sym (ap (λ b. if b then Join else (if is_barrier k && nat_lt 1 w then Barrier else Counters)) join) ∙ is in absurd (cc))
  | inr none ↦ elim (cases_Bool (is_barrier k && nat_lt 1 w)) [
    | inl barrier ↦ (let clash : Barrier ≡ Counters = sym (ap (λ b. if b then Join else (if is_barrier k && nat_lt 1 w then Barrier else Counters)) none ∙ ap (λ b. if b then Barrier else Counters) barrier) ∙ is in absurd (cc))
    | inr no_barrier ↦ (none, no_barrier)
  ]
]

pub barrier_is : (k : Option Kind) (w : ℕ) → boundary_by k w ≡ Barrier → (is_join k ≡ false) × ((is_barrier k && nat_lt 1 w) ≡ true)
barrier_is k w is = elim (cases_Bool (is_join k)) [
  | inl join ↦ (let clash : Join ≡ Barrier = sym (ap (λ b. if b then Join else (if is_barrier k && nat_lt 1 w then Barrier else Counters)) join) ∙ is in absurd (cc))
  | inr none ↦ elim (cases_Bool (is_barrier k && nat_lt 1 w)) [
    | inl barrier ↦ (none, barrier)
    | inr no_barrier ↦ (let clash : Counters ≡ Barrier = sym (ap (λ b. if b then Join else (if is_barrier k && nat_lt 1 w then Barrier else Counters)) none ∙ ap (λ b. if b then Barrier else Counters) no_barrier) ∙ is in absurd (cc))
  ]
]

join_no_barrier : (k : Option Kind) → is_join k ≡ true → is_barrier k ≡ false
join_no_barrier None h = refl
join_no_barrier (Some Nothing) h = refl
join_no_barrier (Some (Producer a)) h = refl
join_no_barrier (Some Left) h = refl
join_no_barrier (Some Right) h = refl
join_no_barrier (Some Both) h = refl
join_no_barrier (Some kinds.Barrier) h = absurd (true≢false (sym h))
join_no_barrier (Some kinds.Join) h = refl

pub join_is : (k : Option Kind) (w : ℕ) → boundary_by k w ≡ Join → (is_join k ≡ true) × ((is_barrier k && nat_lt 1 w) ≡ false)
join_is k w is = elim (cases_Bool (is_join k)) [
  | inl join ↦ (join, ap (λ b. b && nat_lt 1 w) (join_no_barrier k join))
  | inr none ↦ elim (cases_Bool (is_barrier k && nat_lt 1 w)) [
    | inl barrier ↦ (let clash : Barrier ≡ Join = sym (ap (λ b. if b then Join else (if is_barrier k && nat_lt 1 w then Barrier else Counters)) none ∙ ap (λ b. if b then Barrier else Counters) barrier) ∙ is in absurd (cc))
    | inr no_barrier ↦ (let clash : Counters ≡ Join = sym (ap (λ b. if b then Join else (if is_barrier k && nat_lt 1 w then Barrier else Counters)) none ∙ ap (λ b. if b then Barrier else Counters) no_barrier) ∙ is in absurd (cc))
  ]
]

-- where it isn't a barrier, nothing is gathered
pub no_barrier_is : (k : Option Kind) (w : ℕ) → (boundary_by k w ≡ Barrier → ⊥) → (is_barrier k && nat_lt 1 w) ≡ false
no_barrier_is k w not_so = elim (cases_Bool (is_join k)) [
  | inl join ↦ ap (λ b. b && nat_lt 1 w) (join_no_barrier k join)
  | inr none ↦ elim (cases_Bool (is_barrier k && nat_lt 1 w)) [
    | inl barrier ↦ absurd (not_so (ap (λ b. if b then Join else (if is_barrier k && nat_lt 1 w then Barrier else Counters)) none ∙ ap (λ b. if b then Barrier else Counters) barrier))
    | inr no_barrier ↦ no_barrier
  ]
]

-- ---- joins that are answered

first_passed : (cells : ℕ) (xs : List Act) (j : ℕ) (a : Act) → j < passed_first cells xs → slice_get xs j ≡ Some a → is_passed cells a ≡ true
first_passed cells [] j a lt e = absurd (omega (arith, lt))
first_passed cells (x ∷ xs) zero a lt e = elim (cases_Bool (is_passed cells x)) [
  | inl passed ↦ (let same : x ≡ a = cc in ap (is_passed cells) (sym same) ∙ passed)
  | inr seen ↦ (let none : passed_first cells (x ∷ xs) ≡ 0 = ap (λ b. if b then passed_first cells xs + 1 else 0) seen in absurd (omega (arith, none, lt)))
]
first_passed cells (x ∷ xs) (suc j) a lt e = elim (cases_Bool (is_passed cells x)) [
  | inl passed ↦ (let more : passed_first cells (x ∷ xs) ≡ passed_first cells xs + 1 = ap (λ b. if b then passed_first cells xs + 1 else 0) passed in first_passed cells xs j a (omega (arith, more, lt)) e)
  | inr seen ↦ (let none : passed_first cells (x ∷ xs) ≡ 0 = ap (λ b. if b then passed_first cells xs + 1 else 0) seen in absurd (omega (arith, none, lt)))
]

-- no post stands among acts that are passed
pub no_post_between : (cells : ℕ) (acts : List Act) (n k number : ℕ) → n ≤ k → k < settled cells acts n → slice_get acts k ≡ Some (post counter number) → ⊥
no_post_between cells acts n k number le lt e =
    let j : n + (k - n) ≡ k = omega (arith, le) in
    true≢false (sym (first_passed cells (drop n acts) (k - n) (post counter number) (omega (arith, le, lt)) (get_drop acts n (k - n) ∙ ap (slice_get acts) j ∙ e)))

pub answered_more : (v new : CellView) (a b : ℕ) → IsSameSeat v new → AreAnswered v a → a ≤ b
    → ((n number : ℕ) → v.position ≤ n → n < new.position → act_at (protocol_at v.home) v.processor n ≡ Some (post counter number) → joins (tree_at v.home) (plan_at v.home) number ≡ true → number < b) → AreAnswered new b
answered_more v new a b same old le more n number lt e j =
    let act : act_at (protocol_at v.home) v.processor n ≡ Some (post counter number) = sym (λ i. act_at (protocol_at (same.home i)) (same.processor i) n) ∙ e in
    let join : joins (tree_at v.home) (plan_at v.home) number ≡ true = sym (ap (λ (h : Home). joins (tree_at h) (plan_at h) number) same.home) ∙ j in
    ⊎_elim (λ below. let least = old n number below act join in omega (arith, least, le)) (λ above. more n number above lt act join) (cases_lt n v.position)

-- behind one act that is answered where it is a join's post
pub gone_answered : (v : CellView) (a b : ℕ) → AreAnswered v a → a ≤ b → ((number : ℕ) → next_act v ≡ Some (post counter number) → joins (tree_at v.home) (plan_at v.home) number ≡ true → number < b) → AreAnswered (gone v) b
gone_answered v a b old le here = answered_more v (gone v) a b (record { home = refl; processor = refl }) old le (λ n number low high e j. ⊎_elim
    (λ same. here number (sym (ap (act_at (protocol_at v.home) v.processor) same) ∙ e) j)
    (λ apart. absurd (no_post_between (cell_count (tree_at v.home)) ((protocol_at v.home).acts v.processor) (v.position + 1) n number (omega (arith, low, apart)) high e)) (cases_eq n v.position))

-- a seat that is behind an act stands further on
pub gone_further : (v : CellView) → IsFurther v (gone v)
gone_further v = inr (omega arith, refl)

-- ---- one turn

-- a cursor has passed turns, and no phase has begun
pub come_on : (c d : Turns) → AreSound d → IsSameRun c d → beginnings_left d ≡ beginnings_left c → HasCome c d
come_on c d sound same begins = record { sound = sound; same = same; begun = []; begins = sym begins }

module _ (x : Walk) (ready : IsWalk x) where
  abbrev h : Home
  h = x.seat.home

  abbrev p : ℕ
  p = x.seat.processor

  -- the boundary at hand is the plan's
  boundary_here : (number : ℕ) (b : Boundary) → boundary_at (turns_tree x.turns) (turns_plan x.turns) number ≡ b → boundary_at (tree_at h) (plan_at h) number ≡ b
  boundary_here number b is = sym (λ i. boundary_at (ready.tree i) (ready.plan i) number) ∙ is

  abbrev kind_here : ℕ → Option Kind
  kind_here number = kind_before (plan_at h) (slice_get (phases (tree_at h) (plan_at h).cut.marks) number)

  pub counters_here : (number : ℕ) → boundary_at (turns_tree x.turns) (turns_plan x.turns) number ≡ Counters → (joins (tree_at h) (plan_at h) number ≡ false) × ((protocol_at h).gathers number ≡ false)
  counters_here number b = counters_are (kind_here number) (plan_at h).workers (boundary_here number Counters b)

  pub barrier_here : (number : ℕ) → boundary_at (turns_tree x.turns) (turns_plan x.turns) number ≡ Barrier → (joins (tree_at h) (plan_at h) number ≡ false) × ((protocol_at h).gathers number ≡ true)
  barrier_here number b = barrier_is (kind_here number) (plan_at h).workers (boundary_here number Barrier b)

  pub join_here : (number : ℕ) → boundary_at (turns_tree x.turns) (turns_plan x.turns) number ≡ Join → (joins (tree_at h) (plan_at h) number ≡ true) × ((protocol_at h).gathers number ≡ false)
  join_here number b = join_is (kind_here number) (plan_at h).workers (boundary_here number Join b)

  pub no_barrier_here : (number : ℕ) → (boundary_at (turns_tree x.turns) (turns_plan x.turns) number ≡ Barrier → ⊥) → (protocol_at h).gathers number ≡ false
  no_barrier_here number not_so = no_barrier_is (kind_here number) (plan_at h).workers (λ b. not_so ((λ i. boundary_at (ready.tree i) (ready.plan i) number) ∙ b))

  module _ (held : AreHeld x.seat.home) where
    -- a post or an await comes next
    pub post_act : (word : Word) (number : ℕ) (rest : List Turn) → turns_left x.turns ≡ sets word number ∷ rest → act_at (protocol_at h) p (walk_place x) ≡ Some (post word number)
    post_act word number rest is = post_there h held p (its_worker x ready) word (walk_place x) number (at_deed x ready (sets word number) rest (posting word number) [] is refl).there

    pub post_here : (word : Word) (number : ℕ) (rest : List Turn) → turns_left x.turns ≡ sets word number ∷ rest → x.seat.position ≡ walk_place x
    post_here word number rest is = sym ready.settled ∙ post_stands h p word (walk_place x) number (post_act word number rest is)

    pub post_next : (word : Word) (number : ℕ) (rest : List Turn) → turns_left x.turns ≡ sets word number ∷ rest → next_act x.seat ≡ Some (post word number)
    post_next word number rest is = ap (act_at (protocol_at h) p) (post_here word number rest is) ∙ post_act word number rest is

    pub await_act : (word : Word) (on wanted : ℕ) (rest : List Turn) → turns_left x.turns ≡ waits word on wanted ∷ rest → act_at (protocol_at h) p (walk_place x) ≡ Some (await word on wanted)
    await_act word on wanted rest is = await_there h held p (its_worker x ready) word (walk_place x) on wanted (at_deed x ready (waits word on wanted) rest (awaiting word on wanted) [] is refl).there

    pub await_here : (word : Word) (on wanted : ℕ) (rest : List Turn) → turns_left x.turns ≡ waits word on wanted ∷ rest → x.seat.position ≡ walk_place x
    await_here word on wanted rest is = sym ready.settled ∙ await_stands h p word (walk_place x) on wanted (await_act word on wanted rest is)

    pub await_next : (word : Word) (on wanted : ℕ) (rest : List Turn) → turns_left x.turns ≡ waits word on wanted ∷ rest → next_act x.seat ≡ Some (await word on wanted)
    await_next word on wanted rest is = ap (act_at (protocol_at h) p) (await_here word on wanted rest is) ∙ await_act word on wanted rest is

    -- behind it
    deed_passes : (y : Walk) (t : Turn) → y.seat ≡ gone x.seat → y.executor ≡ x.executor → y.own ≡ x.own → y.ended ≡ x.ended → HasCome x.turns y.turns → turns_left x.turns ≡ t ∷ turns_left y.turns → length (deeds_in h p (t ∷ [])) ≡ 1
        → x.seat.position ≡ walk_place x → held_cells h p (walk_place x + 1) ≡ held_cells h p (walk_place x) → registers_behind x.seat (walk_place x + 1) ≡ registers_behind x.seat (walk_place x) → printed_behind x.seat (walk_place x + 1) ≡ printed_behind x.seat (walk_place x)
        → AreAnswered y.seat y.answered → Passes x y (t ∷ [])
    deed_passes y t seat executor own over come turns one here keeps leaves prints answered =
        let more : walk_place x + length (deeds_in h p (t ∷ [])) ≡ walk_place x + 1 = omega (arith, one) in
        record {
          seat = record { home = ap (λ (v : CellView). v.home) seat; processor = ap (λ (v : CellView). v.processor) seat };
          come = come;
          turns = turns;
          settled = ap (settled_at (protocol_at h) p) (more ∙ ap (λ n. n + 1) (sym here)) ∙ sym (ap (λ (v : CellView). v.position) seat);
          idle = ap (registers_behind x.seat) more ∙ leaves ∙ ready.idle;
          own = own ∙ ready.own ∙ sym (ap (held_cells h p) more ∙ keeps);
          can = subst CanExecute (sym executor) ready.can;
          executes = ap executor_tree executor;
          output = ap executor_output executor ∙ ready.output ∙ sym (ap (printed_behind x.seat) more ∙ prints);
          grown = (let same : length (executor_output y.executor) ≡ length (executor_output x.executor) = ap (λ z. length (executor_output z)) executor in omega (arith, same));
          room = (let same : executor_room y.executor ≡ executor_room x.executor = ap executor_room executor in omega (arith, same));
          answered = answered;
          over = over;
        }

    pub post_passes : (y : Walk) (word : Word) (number : ℕ) → y.seat ≡ gone x.seat → y.executor ≡ x.executor → y.own ≡ x.own → y.ended ≡ x.ended → HasCome x.turns y.turns → turns_left x.turns ≡ sets word number ∷ turns_left y.turns → AreAnswered y.seat y.answered → Passes x y (sets word number ∷ [])
    post_passes y word number seat executor own over come turns answered =
        let act = post_act word number (turns_left y.turns) turns in
        deed_passes y (sets word number) seat executor own over come turns refl (post_here word number (turns_left y.turns) turns) (post_keeps h p (walk_place x) word number act)
        (held.laws.post_leaves word p (walk_place x) number act) (held.laws.printed_leaves p (walk_place x) (post word number) act refl) answered

    pub await_passes : (y : Walk) (word : Word) (on wanted : ℕ) → y.seat ≡ gone x.seat → y.executor ≡ x.executor → y.own ≡ x.own → y.ended ≡ x.ended → HasCome x.turns y.turns → turns_left x.turns ≡ waits word on wanted ∷ turns_left y.turns → AreAnswered y.seat y.answered
        → Passes x y (waits word on wanted ∷ [])
    await_passes y word on wanted seat executor own over come turns answered =
        let act = await_act word on wanted (turns_left y.turns) turns in
        deed_passes y (waits word on wanted) seat executor own over come turns refl (await_here word on wanted (turns_left y.turns) turns) (await_keeps h p (walk_place x) word on wanted act)
        (held.laws.await_leaves word p (walk_place x) on wanted act) (held.laws.printed_leaves p (walk_place x) (await word on wanted) act refl) answered

-- the first of turns is the one that is passed
pub same_turn : {t u : Turn} {rest left new : List Turn} → left ≡ t ∷ rest → left ≡ u ∷ new → left ≡ t ∷ new
same_turn {t} {u} {rest} {left} {new} is passed = let both : t ∷ rest ≡ u ∷ new = sym is ∙ passed in let first : t ≡ u = cc in passed ∙ ap (λ z. z ∷ new) (sym first)

pub leads_on : (x y : Walk) (t : Turn) → turns_left x.turns ≡ t ∷ turns_left y.turns → beginnings_left y.turns ≡ beginnings_left x.turns → IsFurther x.seat y.seat → (1 < (protocol_at x.seat.home).workers → y.answered ≡ x.answered) → LeadsOn x y
leads_on x y t turns begins further answered = record {
  further = further;
  answered = answered;
  less = (
      let longer : length (turns_left x.turns) ≡ suc (length (turns_left y.turns)) = ap (λ (l : List Turn). length l) turns in
      let same : length (beginnings_left y.turns) ≡ length (beginnings_left x.turns) = ap (λ (l : List ℕ). length l) begins in
      omega (arith, longer, same)
      );
}

pub seat_gone : (v w : CellView) → w ≡ gone v → IsSameSeat v w × IsFurther v w
seat_gone v w is = (record { home = ap (λ (u : CellView). u.home) is; processor = ap (λ (u : CellView). u.processor) is }, subst (IsFurther v) (sym is) (gone_further v))

-- no join's post is done where the act isn't one
pub no_join_answered : (v w : CellView) (a : ℕ) → w ≡ gone v → AreAnswered v a → ((number : ℕ) → next_act v ≡ Some (post counter number) → joins (tree_at v.home) (plan_at v.home) number ≡ false) → AreAnswered w a
no_join_answered v w a is old none = subst (λ (u : CellView). AreAnswered u a) (sym is) (gone_answered v a a old (omega arith) (λ number act join. absurd (true≢false (sym join ∙ none number act))))

same_post : {n k : ℕ} {o : Option Act} → o ≡ Some (post counter n) → o ≡ Some (post counter k) → k ≡ n
same_post {n} {k} is other = let both : Some (post counter n) ≡ Some (post counter k) = sym is ∙ other in cc

no_post : {on wanted k : ℕ} {word : Word} {o : Option Act} → o ≡ Some (await word on wanted) → o ≡ Some (post counter k) → ⊥
no_post {on} {wanted} {k} {word} is other = let both : Some (await word on wanted) ≡ Some (post counter k) = sym is ∙ other in absurd (cc)

no_counter : {n k : ℕ} {o : Option Act} → o ≡ Some (post signal n) → o ≡ Some (post counter k) → ⊥
no_counter {n} {k} is other = let both : Some (post signal n) ≡ Some (post counter k) = sym is ∙ other in absurd (cc)

-- behind a post that is no join's
pub post_answered : (v w : CellView) (a number : ℕ) → w ≡ gone v → AreAnswered v a → next_act v ≡ Some (post counter number) → joins (tree_at v.home) (plan_at v.home) number ≡ false → AreAnswered w a
post_answered v w a number is old act none = no_join_answered v w a is old (λ k other. ap (joins (tree_at v.home) (plan_at v.home)) (same_post act other) ∙ none)

-- behind a signal
pub signal_answered : (v w : CellView) (a number : ℕ) → w ≡ gone v → AreAnswered v a → next_act v ≡ Some (post signal number) → AreAnswered w a
signal_answered v w a number is old act = no_join_answered v w a is old (λ k other. absurd (no_counter act other))

-- behind an await
pub await_answered : (v w : CellView) (a : ℕ) (word : Word) (on wanted : ℕ) → w ≡ gone v → AreAnswered v a → next_act v ≡ Some (await word on wanted) → AreAnswered w a
await_answered v w a word on wanted is old act = no_join_answered v w a is old (λ k other. absurd (no_post act other))

-- behind a join's post
pub join_answered : (v w : CellView) (a b number : ℕ) → w ≡ gone v → AreAnswered v a → next_act v ≡ Some (post counter number) → a ≤ b → number < b → AreAnswered w b
join_answered v w a b number is old act le lt = subst (λ (u : CellView). AreAnswered u b) (sym is) (gone_answered v a b old le (λ k other join. let same = same_post act other in omega (arith, same, lt)))
