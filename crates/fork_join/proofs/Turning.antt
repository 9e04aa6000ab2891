-- A worker's turns, one behind another.
use Rattle.std.proofs.Common.{◌≡◌, ℕ, zero, suc, ◌+◌, ◌-◌, ◌<◌, ◌≤◌, Bool, true, false, List, [], ◌∷◌, ◌++◌, append_assoc, drop, length, length-drop, map, refl, sym, ◌∙◌, ap, subst, ◌⊎◌, inl, inr, arith}
use Rattle.std.specs.Prelude.{slice_get}
use Rattle.std.specs.List.{flat_map, list_all}
use Rattle.std.proofs.lemmas.Bool.{and_parts}
use Rattle.std.proofs.lemmas.List.Elements.{All-tail}
use Rattle.std.proofs.lemmas.List.Sums.{sum_by-cons}
use Rattle.nest_tree.specs.Tree.{Tree}
use Rattle.nest_model.specs.Visits.{Visit}
use Rattle.owner_partition.specs.Phases.{phases}
use Rattle.sync_plan.specs.declared.plan.Plan.{Plan}
use Rattle.sync_plan.specs.Waits.{posts_at, waits_for}
use Rattle.spmd_model.specs.Deeds.{Deed, awaiting, owned_by, posting}
use Rattle.spmd_model.specs.Timelines.{counter}
use Rattle.spmd_model.specs.Acts.{await, post}
use Rattle.spmd_model.specs.declared.style.Style.TheVariants.{Arrive}
use Rattle.spmd_model.specs.PlanProtocols.{printed_by, registers_by}
use Rattle.turns.specs.CounterTurns.{counter_room, CounterTurn, awaits, begins, boundary_turns, is_counter_inside, posts, counter_deeds, counter_turns, works}
use Rattle.turns.specs.CountersLeft.{counters_left}
use Rattle.instance_runs.specs.declared.execute.Executor.{Executor}
use Rattle.turns.specs.Turns.{Turn, turn_deeds}
use Rattle.turns.specs.Turns as Turned
use Rattle.turns.specs.TurnsLeft.{IsNext, PassesPlainly, turns_left}
use Rattle.turns.specs.declared.turns.Next.{Next}
use Rattle.turns.specs.declared.turns.Next.TheVariants.{Post, Await}
use Rattle.turns.specs.declared.turns.Turns.{Turns}
use Rattle.fork_join.specs.Cursors.{IsCursor, IsSameCursor, cursor_left, cursor_turns}
use Rattle.fork_join.specs.Joins.{IsSafe, all_deeds}
use Rattle.fork_join.specs.Workers.{AreBoundaryTurns, IsCounterThere, IsBoundaryTurn, Runs, turns_begun, turns_begun_from, turns_behind}
use Rattle.fork_join.specs.declared.cursor.Cursor.{Cursor}
use Rattle.fork_join.proofs.Acts.{await_there, post_there}
use Rattle.fork_join.proofs.Seeing.{next_drop, next_get}

waiting_map : (k : ℕ) (qs : List ℕ) → AreBoundaryTurns (map (λ q. awaits q k) qs)
waiting_map k [] = tt
waiting_map k (q ∷ qs) = (tt, waiting_map k qs)

pub waiting_boundary : (k : ℕ) (does : Bool) (qs : List ℕ) → AreBoundaryTurns (boundary_turns k does qs)
waiting_boundary k true qs = (tt, waiting_map k qs)
waiting_boundary k false qs = waiting_map k qs

-- ---- which turn comes next in front of a phase

pub tails : (t s : CounterTurn) (ts ss : List CounterTurn) → t ∷ ts ≡ s ∷ ss → ts ≡ ss
tails t s ts ss is = cc

-- there is a post or an await in front of the phase, or it begins
pub first_of : (bs rest : List CounterTurn) (e : ℕ) (t : CounterTurn) (ts : List CounterTurn) → bs ++ begins e ∷ rest ≡ t ∷ ts → IsBoundaryTurn t → AreBoundaryTurns bs → (more : List CounterTurn) × AreBoundaryTurns more × (ts ≡ more ++ begins e ∷ rest)
first_of [] rest e t ts is waits all = absurd (subst IsBoundaryTurn (let k : t ≡ begins e = cc in k) waits)
first_of (b ∷ bs) rest e t ts is waits all = (bs, all.1, let k : ts ≡ bs ++ begins e ∷ rest = cc in k)

pub begins_of : (bs rest : List CounterTurn) (e f : ℕ) (ts : List CounterTurn) → bs ++ begins e ∷ rest ≡ begins f ∷ ts → AreBoundaryTurns bs → (f ≡ e) × (ts ≡ rest)
begins_of [] rest e f ts is all = (let k : f ≡ e = cc in k, let k : ts ≡ rest = cc in k)
begins_of (b ∷ bs) rest e f ts is all = absurd (subst IsBoundaryTurn (let k : b ≡ begins f = cc in k) all.0)

pub no_work : (bs rest : List CounterTurn) (e : ℕ) (i : _) (ts : List CounterTurn) → bs ++ begins e ∷ rest ≡ works i ∷ ts → AreBoundaryTurns bs → ⊥
no_work [] rest e i ts is all = cc
no_work (b ∷ bs) rest e i ts is all = subst IsBoundaryTurn (let k : b ≡ works i = cc in k) all.0

pub no_end : (bs rest : List CounterTurn) (e : ℕ) → bs ++ begins e ∷ rest ≡ [] → ⊥
no_end [] rest e is = cc
no_end (b ∷ bs) rest e is = cc

-- ---- a cursor that has looked, or gone on

module _ (tree : Tree) (plan : Plan) (p : ℕ) where
  pub looked : (left : List CounterTurn) (done : ℕ) (c d : Cursor) (x : Executor) → Runs tree plan p left done c x → IsCursor d → cursor_left d ≡ cursor_left c → cursor_turns d ≡ cursor_turns c → IsSameCursor c d → Runs tree plan p left done d x
  looked left done c d x r sound same turns run = record {
    sound = sound;
    program = run.program ∙ r.program;
    plan_is = run.plan ∙ r.plan_is;
    processor = run.processor ∙ r.processor;
    turns = same ∙ r.turns;
    inside = r.inside;
    there = r.there;
    deeds = r.deeds ∙ ap (flat_map (turn_deeds tree plan p)) (sym turns);
    within = r.within;
    idle = r.idle;
    can = r.can;
    executor = r.executor;
    output = r.output;
    fits = r.fits;
    room = r.room;
  }

  -- past the beginning of a phase
  pub begun_runs : (rest : List CounterTurn) (e done : ℕ) (c d : Cursor) (x : Executor) → Runs tree plan p (begins e ∷ rest) done c x → IsCursor d → (t : CounterTurn) × (cursor_left c ≡ t ∷ cursor_left d) → cursor_turns d ≡ cursor_turns c → IsSameCursor c d → Runs tree plan p rest done d x
  begun_runs rest e done c d x r sound went turns run = record {
    sound = sound;
    program = run.program ∙ r.program;
    plan_is = run.plan ∙ r.plan_is;
    processor = run.processor ∙ r.processor;
    turns = tails went.0 (begins e) (cursor_left d) rest (sym went.1 ∙ r.turns);
    inside = (and_parts true (list_all (is_counter_inside tree) rest) r.inside).1;
    there = All-tail (IsCounterThere tree) (begins e) rest r.there;
    deeds = r.deeds ∙ ap (flat_map (turn_deeds tree plan p)) (sym turns);
    within = r.within;
    idle = r.idle;
    can = r.can;
    executor = r.executor;
    output = r.output;
    fits = r.fits;
    room = λ first. let most = r.room first in omega (arith, most, sum_by-cons (counter_room tree) (begins e) rest);
  }

  -- past a post or an await
  module _ (safe : IsSafe tree plan) (below : p < plan.workers) where
    one_deed : (rest : List Deed) (done : ℕ) (t : CounterTurn) → IsBoundaryTurn t → drop done (all_deeds tree plan p) ≡ counter_deeds tree t ++ rest
        → (drop (done + 1) (all_deeds tree plan p) ≡ rest) × (done + 1 ≤ length (all_deeds tree plan p)) × (registers_by Arrive tree plan p (done + 1) ≡ registers_by Arrive tree plan p done) × (printed_by Arrive tree plan p (done + 1) ≡ printed_by Arrive tree plan p done) × (counter_room tree t ≡ 0)
    one_deed rest done (posts number) waits is =
        let all = all_deeds tree plan p in
        let act = post_there tree plan safe p done below counter number (next_get all done (posting counter number) rest is) in (
          next_drop all done (posting counter number) rest is,
          omega (arith, ap length is, length-drop done all),
          safe.laws.post_leaves counter p done number act,
          safe.laws.printed_leaves p done (post counter number) act refl,
          refl,
        )
    one_deed rest done (awaits on wanted) waits is =
        let all = all_deeds tree plan p in
        let act = await_there tree plan safe p done below counter on wanted (next_get all done (awaiting counter on wanted) rest is) in (
          next_drop all done (awaiting counter on wanted) rest is,
          omega (arith, ap length is, length-drop done all),
          safe.laws.await_leaves counter p done on wanted act,
          safe.laws.printed_leaves p done (await counter on wanted) act refl,
          refl,
        )
    one_deed rest done (begins e) waits is = absurd waits
    one_deed rest done (works i) waits is = absurd waits

    pub waited_runs : (rest : List CounterTurn) (s : CounterTurn) (u : Turn) (done after : ℕ) (c d : Cursor) (x : Executor) → IsBoundaryTurn s → turn_deeds tree plan p u ≡ counter_deeds tree s → after ≡ done + 1 → Runs tree plan p (s ∷ rest) done c x → IsCursor d →
        cursor_left c ≡ s ∷ cursor_left d → cursor_turns c ≡ u ∷ cursor_turns d → IsSameCursor c d → Runs tree plan p rest after d x
    waited_runs rest s u done after c d x waits does next r sound went turns run =
        let doing = flat_map (turn_deeds tree plan p) in
        let one = one_deed (doing (cursor_turns d)) done s waits (r.deeds ∙ ap doing turns ∙ ap (λ l. l ++ doing (cursor_turns d)) does) in
        subst (λ n. Runs tree plan p rest n d x) (sym next) (record {
          sound = sound;
          program = run.program ∙ r.program;
          plan_is = run.plan ∙ r.plan_is;
          processor = run.processor ∙ r.processor;
          turns = tails s s (cursor_left d) rest (sym went ∙ r.turns);
          inside = (and_parts (is_counter_inside tree s) (list_all (is_counter_inside tree) rest) r.inside).1;
          there = All-tail (IsCounterThere tree) s rest r.there;
          deeds = one.0;
          within = one.1;
          idle = one.2 ∙ r.idle;
          can = r.can;
          executor = r.executor;
          output = r.output ∙ sym one.3;
          fits = r.fits;
          room = λ first. let most = r.room first in let none = one.4 in omega (arith, most, none, sum_by-cons (counter_room tree) s rest);
        })

module _ (tree : Tree) (plan : Plan) (p : ℕ) where
  -- the turns of a phase, its boundary first
  pub phase_begins : (n : ℕ) (v : Visit) (rest : List Visit) → drop n (phases tree plan.cut.marks) ≡ v ∷ rest → turns_behind tree plan n p ≡ boundary_turns (suc n - 1) (posts_at tree plan p v.place v.loops) (waits_for tree plan p v.place v.loops) ++ begins (suc n) ∷ turns_begun tree plan n p
  phase_begins n v rest stands =
      let b = boundary_turns (suc n - 1) (posts_at tree plan p v.place v.loops) (waits_for tree plan p v.place v.loops) in
      let own = map works (owned_by tree (slice_get plan.anchors (v.place - 1)) plan.workers p v) in
      ap (counter_turns tree plan p (suc n)) stands ∙ append_assoc b (begins (suc n) ∷ own) (counter_turns tree plan p (suc (suc n)) rest)
      ∙ ap (λ vs. b ++ begins (suc n) ∷ turns_begun_from tree plan p (suc n) vs) (sym stands)

-- the phase behind so many
pub phase_there : {X : Type 0} (n : ℕ) (xs : List X) → n < length xs → (x : X) × (rest : List X) × (drop n xs ≡ x ∷ rest)
phase_there n [] lt = absurd (omega arith)
phase_there zero (x ∷ xs) lt = (x, xs, refl)
phase_there (suc n) (x ∷ xs) lt = phase_there n xs (omega arith)

pub phase_next_drop : {X : Type 0} (n : ℕ) (xs : List X) (x : X) (rest : List X) → drop n xs ≡ x ∷ rest → drop (suc n) xs ≡ rest
phase_next_drop zero [] x rest is = absurd (cc)
phase_next_drop (suc n) [] x rest is = absurd (cc)
phase_next_drop zero (y ∷ ys) x rest is = cc
phase_next_drop (suc n) (y ∷ ys) x rest is = phase_next_drop n ys x rest is

-- ---- what a cursor says that comes next

-- a post or an await comes next, of counter turns and of those that are left to do, and both do the same
pub record WaitsNext (tree : Tree) (plan : Plan) (p : ℕ) (c : Turns) (next : Next) : Type 0 where
  pub plain : CounterTurn
  pub waits : IsBoundaryTurn plain
  pub rest : List CounterTurn
  pub left : counters_left c.counters ≡ plain ∷ rest
  pub turn : Turn
  pub later : List Turn
  pub turns : turns_left c ≡ turn ∷ later
  pub does : turn_deeds tree plan p turn ≡ counter_deeds tree plain
  pub passes : (d : Turns) → PassesPlainly c d next → (t : CounterTurn) × (counters_left c.counters ≡ t ∷ counters_left d.counters)

pub waits_next : (tree : Tree) (plan : Plan) (p : ℕ) (c : Turns) (next : Next) → IsNext c next → ((x : ℕ) × (next ≡ Post x)) ⊎ ((x : ℕ) × (y : ℕ) × (next ≡ Await x y)) → WaitsNext tree plan p c next
waits_next tree plan p c next is (inl (x, e)) =
    let h = subst (IsNext c) e is in
    record {
      plain = posts x;
      waits = tt;
      rest = h.1.shows.next.0;
      left = h.1.shows.next.1;
      turn = Turned.sets counter x;
      later = h.0.0;
      turns = h.0.1;
      does = refl;
      passes = λ d went. subst (PassesPlainly c d) e went;
    }
waits_next tree plan p c next is (inr (x, y, e)) =
    let h = subst (IsNext c) e is in
    record {
      plain = awaits x y;
      waits = tt;
      rest = h.1.shows.next.0;
      left = h.1.shows.next.1;
      turn = Turned.waits counter x y;
      later = h.0.0;
      turns = h.0.1;
      does = refl;
      passes = λ d went. subst (PassesPlainly c d) e went;
    }
